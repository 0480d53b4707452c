-- How uses find bindings from the outside in: the counterpart of `closed` for one walk over what was told, with the
-- innermost binding of each name. Only clauses of private functions cite it; that it gives `closed` is proved.
use Rattle.std.specs.Prelude.{ℕ, zero, suc, ◌+◌, Bool, true, false, cond, nat_eq, nat_lt, Option, None, Some, List, [], ◌∷◌, ◌++◌, length}
use Rattle.parse_track.specs.declared.closed.Top.{Top}
use Rattle.parse_track.specs.Told.{Declared, Used, Jumped, Told, nothing, leaf, inner, KnownNames}
use Rattle.parse_track.specs.RegionNames.{is_lambda}
use Rattle.parse_track.specs.EarlyErrors.{has}
use Rattle.parse_track.specs.ClosedNames.{names, begins}

abbrev pub Tops : Type 0
Tops = ℕ → Option Top

abbrev pub no_tops : Tops
no_tops x = None

abbrev pub put : Tops → ℕ → Top → Tops
put tops x top y = cond (nat_eq x y) (Some top) (tops y)

-- the names of a region are bound, the first at this place
abbrev pub bind_all : ℕ → ℕ → List ℕ → Tops → Tops
bind_all depth place [] tops = tops
bind_all depth place (x ∷ xs) tops = bind_all depth (place + 1) xs (put tops x (record { place = place; depth = depth }))

-- the place that a use hits, where it stands in a function inside that of the binding
abbrev pub hit : Option Top → ℕ → List ℕ
hit None depth = []
hit (Some top) depth = cond (nat_lt top.depth depth) (top.place ∷ []) []

abbrev pub deeper : Bool → ℕ → ℕ
deeper true depth = depth + 1
deeper false depth = depth

-- how many bindings are in what is told
abbrev pub size : KnownNames ℕ → Told ℕ → ℕ
size known nothing = 0
size known (leaf l t) = size known t
size known (inner k at i t) = length (names nat_eq known k i) + (size known i + size known t)

-- the places that are hit
abbrev pub walk : KnownNames ℕ → Bool → Tops → ℕ → ℕ → Told ℕ → List ℕ
walk known named tops place depth nothing = []
walk known named tops place depth (leaf (Used x) t) = hit (tops x) depth ++ walk known named tops place depth t
walk known named tops place depth (leaf (Declared _ _) t) = walk known named tops place depth t
walk known named tops place depth (leaf (Jumped _ _ _) t) = walk known named tops place depth t
walk known named tops place depth (inner k at i t) =
    walk known (is_lambda k)
    (bind_all (deeper (begins named k) depth) place (names nat_eq known k i) tops)
    (place + length (names nat_eq known k i)) (deeper (begins named k) depth) i
    ++ walk known named tops (place + (length (names nat_eq known k i) + size known i)) depth t

-- of each of n places, from one on, whether it is hit
abbrev pub marks : List ℕ → ℕ → ℕ → List Bool
marks hits p zero = []
marks hits p (suc n) = has nat_eq p hits ∷ marks hits (p + 1) n
