-- The numbers of functions, by the offsets where they start.
use Rattle.std.proofs.Common.{◌≡◌, ℕ, zero, suc, ◌<◌, ◌≤◌, Bool, true, false, cond, nat_lt, List, [], ◌∷◌, ◌++◌, length, map, filter, count_by, slice_get, slice_index_or, Some, refl, sym, ◌∙◌, ap, subst, inl, inr, arith}
use Rattle.std.proofs.lemmas.List.Sums.{length-filter, count_by-le-length, sum_by-cons}
use Rattle.std.proofs.lemmas.Bool.{le-ltb, lt-ltb}
use Rattle.stencil_data.specs.declared.functions.Extent.{Extent}
use Rattle.bytecode_buf.specs.InRange.{NumbersWithin}
use Rattle.emit_stmts.specs.Functions.{start_of}
use Rattle.compile_specs.specs.Eager.{Site}
use Rattle.compile_specs.specs.Shown.{number_of, numbers_of}
use Rattle.emit_limit_laws.specs.EveryFunction.{Among}
use Rattle.emit_limit_laws.specs.Offsets.{OffsetsRise, site_starts}

-- ---- among

pub among_map : {X Y : Type 0} (f : X → Y) (x : X) (xs : List X) → Among x xs → Among (f x) (map f xs)
among_map f x [] a = absurd a
among_map f x (y ∷ ys) (inl e) = inl (ap f e)
among_map f x (y ∷ ys) (inr a) = inr (among_map f x ys a)

pub among_front : {X : Type 0} (x : X) (xs ys : List X) → Among x xs → Among x (xs ++ ys)
among_front x [] ys a = absurd a
among_front x (y ∷ xs) ys (inl e) = inl e
among_front x (y ∷ xs) ys (inr a) = inr (among_front x xs ys a)

pub among_back : {X : Type 0} (x : X) (xs ys : List X) → Among x ys → Among x (xs ++ ys)
among_back x [] ys a = a
among_back x (y ∷ xs) ys a = inr (among_back x xs ys a)

-- ---- how many start below one of them

at_most_one : (b : Bool) → cond b 1 0 ≤ 1
at_most_one true = omega arith
at_most_one false = omega arith

none_below : (m n : ℕ) → m ≡ n → cond (nat_lt m n) 1 0 ≤ 0
none_below m n e = let low : n ≤ m = omega arith in subst (λ (b : Bool). cond b 1 0 ≤ 0) (sym (le-ltb m n low)) (omega arith)

pub count_below : (n : ℕ) (ns : List ℕ) → Among n ns → count_by (λ (s : ℕ). nat_lt s n) ns < length ns
count_below n [] a = absurd a
count_below n (m ∷ ns) (inl same) =
    let e = sum_by-cons (λ (s : ℕ). cond (nat_lt s n) 1 0) m ns in
    let h = count_by-le-length (λ (s : ℕ). nat_lt s n) ns in
    let k = none_below m n same in
    omega (arith, e, h, k)
count_below n (m ∷ ns) (inr a) =
    let e = sum_by-cons (λ (s : ℕ). cond (nat_lt s n) 1 0) m ns in
    let h = count_below n ns a in
    let k = at_most_one (nat_lt m n) in
    omega (arith, e, h, k)

-- the number of one of them is from 1 to their count
pub number_within : (n : ℕ) (starts : List ℕ) → Among n starts → number_of starts n ≤ length starts
number_within n starts a =
    let e = length-filter (λ (s : ℕ). nat_lt s n) starts in
    let h = count_below n starts a in
    omega (arith, e, h)

abbrev pub AllStart : List ℕ → List Extent → Type 0
AllStart starts [] = Unit {0}
AllStart starts (e ∷ es) = Among e.start starts × AllStart starts es

pub numbers_within : (starts : List ℕ) (es : List Extent) → AllStart starts es → NumbersWithin (length starts) (numbers_of starts es)
numbers_within starts [] h = tt
numbers_within starts (e ∷ es) h = (omega arith, number_within e.start starts h.0, numbers_within starts es h.1)

-- a place among numbers has one of them
pub number_at : (functions : ℕ) (ns : List ℕ) (place : ℕ) → NumbersWithin functions ns → place < length ns → (1 ≤ slice_index_or ns place 0) × (slice_index_or ns place 0 ≤ functions)
number_at functions [] place h lt = absurd (omega arith)
number_at functions (n ∷ ns) zero h lt = (h.0, h.1)
number_at functions (n ∷ ns) (suc place) h lt = number_at functions ns place h.2 (omega arith)

-- ---- the function of a number

-- where starts rise, none is below the first
rest_none : (n from : ℕ) (ns : List ℕ) → n ≤ from → OffsetsRise from ns → length (filter (λ (s : ℕ). nat_lt s n) ns) ≡ 0
rest_none n from [] le rise = refl
rest_none n from (m ∷ ns) le rise =
    ap (λ (b : Bool). length (cond b (m ∷ filter (λ (s : ℕ). nat_lt s n) ns) (filter (λ (s : ℕ). nat_lt s n) ns))) (le-ltb m n (omega (arith, rise.0)))
    ∙ rest_none n (suc m) ns (omega (arith, rise.0)) rise.1

first_counted : (n m : ℕ) (ns : List ℕ) → m < n → length (filter (λ (s : ℕ). nat_lt s n) (m ∷ ns)) ≡ suc (length (filter (λ (s : ℕ). nat_lt s n) ns))
first_counted n m ns lt = ap (λ (b : Bool). length (cond b (m ∷ filter (λ (s : ℕ). nat_lt s n) ns) (filter (λ (s : ℕ). nat_lt s n) ns))) (lt-ltb m n lt)

above : (from n : ℕ) (ns : List ℕ) → OffsetsRise from ns → Among n ns → from ≤ n
above from n [] rise a = absurd a
above from n (m ∷ ns) rise (inl e) = omega (arith, e, rise.0)
above from n (m ∷ ns) rise (inr a) = let h = above (suc m) n ns rise.1 a in omega (arith, h, rise.0)

-- each of the functions stands at the place that its number says
pub site_at : (from : ℕ) (all : List Site) (s : Site) → OffsetsRise from (site_starts all) → Among s all → slice_get all (length (filter (λ (n : ℕ). nat_lt n (start_of s.inner.func)) (site_starts all))) ≡ Some s
site_at from [] s rise a = absurd a
site_at from (x ∷ all) s rise (inl e) =
    let n : ℕ = start_of s.inner.func in
    let same : start_of x.inner.func ≡ start_of s.inner.func = ap (λ (y : Site). start_of y.inner.func) e in
    let here : OffsetsRise (start_of x.inner.func) (site_starts (x ∷ all)) = (omega arith, rise.1) in
    let zeroth : length (filter (λ (m : ℕ). nat_lt m n) (site_starts (x ∷ all))) ≡ 0 = rest_none n (start_of x.inner.func) (site_starts (x ∷ all)) (omega arith) here in
    ap (slice_get (x ∷ all)) zeroth ∙ ap (λ (y : Site). Some y) e
site_at from (x ∷ all) s rise (inr a) =
    let n : ℕ = start_of s.inner.func in
    let later : suc (start_of x.inner.func) ≤ n = above (suc (start_of x.inner.func)) n (site_starts all) rise.1 (among_map (λ (y : Site). start_of y.inner.func) s all a) in
    ap (slice_get (x ∷ all)) (first_counted n (start_of x.inner.func) (site_starts all) later) ∙ site_at (suc (start_of x.inner.func)) all s rise.1 a
