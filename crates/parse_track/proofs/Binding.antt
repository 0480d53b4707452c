-- Names are bound one by one, in an environment that is known name by name.
use Rattle.std.proofs.Common.{◌≡◌, ℕ, ◌+◌, ◌<◌, Bool, cond, nat_eq, Option, Some, List, [], ◌∷◌, ◌++◌, length, drop, get_or, refl, sym, ap, ◌∙◌, arith, add-one, drop-cons}
use Rattle.parse_track.specs.declared.region.ClosedAt.{ClosedAt}
use Rattle.parse_track.specs.declared.closed.Top.{Top}
use Rattle.parse_track.specs.Told.{Declared, Used, Jumped, Told, nothing, leaf, inner, KnownNames}
use Rattle.parse_track.specs.RegionNames.{is_lambda}
use Rattle.parse_track.specs.ClosedNames.{names, begins}
use Rattle.parse_track.specs.Shadows.{atoms_bound}
use Rattle.parse_track.specs.Walk.{Tops, put, bind_all, hit, deeper, size, walk}

put_same : (T S : Tops) (x : ℕ) (top : Top) → ((y : ℕ) → T y ≡ S y) → (y : ℕ) → put T x top y ≡ put S x top y
put_same T S x top e y = ap (λ (o : Option Top). cond (nat_eq x y) (Some top) o) (e y)

pub bind_same : (xs : List ℕ) (depth place : ℕ) (T S : Tops) → ((y : ℕ) → T y ≡ S y) → (y : ℕ) → bind_all depth place xs T y ≡ bind_all depth place xs S y
bind_same [] depth place T S e y = e y
bind_same (x ∷ xs) depth place T S e y =
    bind_same xs depth (place + 1) (put T x (record { place = place; depth = depth })) (put S x (record { place = place; depth = depth })) (put_same T S x (record { place = place; depth = depth }) e) y

pub bind_step : (bound : List ClosedAt) (d : ClosedAt) (i depth place : ℕ) (T now all : Tops) → i < length bound
    → ((y : ℕ) → now y ≡ put T (get_or bound i d).atom (record { place = place + i; depth = depth }) y)
    → ((y : ℕ) → bind_all depth (place + i) (atoms_bound (drop i bound)) T y ≡ all y)
    → (y : ℕ) → bind_all depth (place + (i + 1)) (atoms_bound (drop (i + 1) bound)) now y ≡ all y
bind_step bound d i depth place T now all l e h y =
    let c : drop i bound ≡ get_or bound i d ∷ drop (i + 1) bound = rw add-one (drop-cons bound i d l) in
    let left : List ℕ = atoms_bound (drop (i + 1) bound) in
    bind_same left depth (place + (i + 1)) now (put T (get_or bound i d).atom (record { place = place + i; depth = depth })) e y
    ∙ (ap (λ (p : ℕ). bind_all depth p left (put T (get_or bound i d).atom (record { place = place + i; depth = depth })) y) (let f : place + (i + 1) ≡ (place + i) + 1 = omega arith in f)
    ∙ (ap (λ (xs : List ClosedAt). bind_all depth (place + i) (atoms_bound xs) T y) (sym c) ∙ h y))

-- the walk does not tell environments apart that have the same binding of each name
pub walk_same : (known : KnownNames ℕ) (t : Told ℕ) (named : Bool) (T S : Tops) (place depth : ℕ) → ((y : ℕ) → T y ≡ S y)
    → walk known named T place depth t ≡ walk known named S place depth t
walk_same known nothing named T S place depth e = refl
walk_same known (leaf (Declared _ _) t) named T S place depth e = walk_same known t named T S place depth e
walk_same known (leaf (Jumped _ _ _) t) named T S place depth e = walk_same known t named T S place depth e
walk_same known (leaf (Used x) t) named T S place depth e =
    ap (λ (o : Option Top). hit o depth ++ walk known named T place depth t) (e x)
    ∙ ap (λ (xs : List ℕ). hit (S x) depth ++ xs) (walk_same known t named T S place depth e)
walk_same known (inner k at i t) named T S place depth e =
    ap (λ (xs : List ℕ). xs ++ walk known named T (place + (length (names nat_eq known k i) + size known i)) depth t)
    (walk_same known i (is_lambda k)
    (bind_all (deeper (begins named k) depth) place (names nat_eq known k i) T) (bind_all (deeper (begins named k) depth) place (names nat_eq known k i) S)
    (place + length (names nat_eq known k i)) (deeper (begins named k) depth)
    (bind_same (names nat_eq known k i) (deeper (begins named k) depth) place T S e))
    ∙ ap (λ (xs : List ℕ). walk known (is_lambda k) (bind_all (deeper (begins named k) depth) place (names nat_eq known k i) S) (place + length (names nat_eq known k i)) (deeper (begins named k) depth) i ++ xs)
    (walk_same known t named T S (place + (length (names nat_eq known k i) + size known i)) depth e)
