-- What a walk for closed names may leave out of what is told: a function in which no function begins closes over no name of its
-- own, so that of it only the names count that it uses and does not bind. Only clauses of private functions cite it; that it
-- leaves `closed` as it is is proved.
use Rattle.std.specs.Prelude.{ℕ, Bool, true, false, cond, not, ◌||◌, ◌&&◌, nat_eq, nat_lt, Option, None, Some, List, ◌++◌, slice_get, map}
use Rattle.parse_track.specs.declared.closed.Top.{Top}
use Rattle.parse_track.specs.declared.track.RegionRow.{RegionRow}
use Rattle.parse_track.specs.Told.{Region, Arrow, Declared, Used, Jumped, Told, nothing, leaf, inner, KnownNames}
use Rattle.parse_track.specs.RegionNames.{is_lambda, is_function}
use Rattle.parse_track.specs.EarlyErrors.{has}
use Rattle.parse_track.specs.ClosedNames.{names}
use Rattle.parse_track.specs.Log.{kind_of, at_of}
use Rattle.parse_track.specs.Rows.{row_of, told_at}
use Rattle.parse_track.specs.Walk.{Tops}

-- whether a region is that of a function, or that of a function's name
abbrev pub is_functional : Region ℕ → Bool
is_functional k = is_function k || is_lambda k

-- whether a region is that of a function that begins there
abbrev pub is_plain : Bool → Region ℕ → Bool
is_plain named k = is_function k && not named

-- whether no function begins in what is told
abbrev pub lone : Told ℕ → Bool
lone nothing = true
lone (leaf l t) = lone t
lone (inner k at i t) = not (is_functional k) && (lone i && lone t)

-- whether a use finds a binding of a function further out
abbrev pub is_hit : Option Top → ℕ → Bool
is_hit None depth = false
is_hit (Some top) depth = nat_lt top.depth depth

-- whether no function begins in what is told, and no use in it finds a binding of a function further out
abbrev pub quiet : Tops → ℕ → Told ℕ → Bool
quiet tops depth nothing = true
quiet tops depth (leaf (Used y) t) = not (is_hit (tops y) depth) && quiet tops depth t
quiet tops depth (leaf (Declared _ _) t) = quiet tops depth t
quiet tops depth (leaf (Jumped _ _ _) t) = quiet tops depth t
quiet tops depth (inner k at i t) = not (is_functional k) && (quiet tops depth i && quiet tops depth t)

-- the uses in what is told of names that are bound neither there nor among those bound around it, before what is told besides
abbrev pub free_uses : KnownNames ℕ → List ℕ → Told ℕ → Told ℕ → Told ℕ
free_uses known bound nothing rest = rest
free_uses known bound (leaf (Used y) t) rest = cond (has nat_eq y bound) (free_uses known bound t rest) (leaf (Used y) (free_uses known bound t rest))
free_uses known bound (leaf (Declared _ _) t) rest = free_uses known bound t rest
free_uses known bound (leaf (Jumped _ _ _) t) rest = free_uses known bound t rest
free_uses known bound (inner k at i t) rest = free_uses known (names nat_eq known k i ++ bound) i (free_uses known bound t rest)

-- what is told, with the free uses alone of each function in which no function begins
abbrev pub pruned : KnownNames ℕ → Bool → Told ℕ → Told ℕ
pruned known named nothing = nothing
pruned known named (leaf l t) = leaf l (pruned known named t)
pruned known named (inner k at i t) =
    cond (is_plain named k && lone i)
    (inner Arrow at (free_uses known (names nat_eq known k i) i nothing) (pruned known named t))
    (inner k at (pruned known (is_lambda k) i) (pruned known named t))

-- a region inside as an item, with what it tells pruned, where it is itself none of those functions
abbrev pub told_pruned : KnownNames ℕ → ℕ → List RegionRow → ℕ → Told ℕ
told_pruned known room rows region =
    inner (kind_of (slice_get (map row_of rows) region)) (at_of (slice_get (map row_of rows) region))
    (pruned known (is_lambda (kind_of (slice_get (map row_of rows) region))) (told_at room rows region)) nothing
