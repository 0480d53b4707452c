-- How many 16-bit units code points are.
use Rattle.std.proofs.Common.{ℕ, zero, suc, ◌+◌, ◌≤◌, ◌≡◌, List, [], ◌∷◌, map, length, take, drop, filter, Bool, true, false, cond, arith, length-append}
use Rattle.std.specs.Prelude.{nat_le}
use Rattle.unit_text.specs.declared.Point.{Point}
use Rattle.unit_text.specs.Points.{code_of}
use Rattle.unit_text.specs.Units.{code_units, text_units}

-- what holds of both holds of the one that is chosen
pub either : {X : Type 0} (P : X → Type 0) (b : Bool) (x y : X) → P x → P y → P (cond b x y)
either P true x y p q = p
either P false x y p q = q

-- a code point is one unit at least and two at most
pub some_units : (c : ℕ) → 1 ≤ length (code_units c)
some_units c = either (λ (us : List ℕ). 1 ≤ length us) (nat_le c 0xFFFF) (c ∷ []) _ (omega arith) (omega arith)

pub few_units : (c : ℕ) → length (code_units c) ≤ 2
few_units c = either (λ (us : List ℕ). length us ≤ 2) (nat_le c 0xFFFF) (c ∷ []) _ (omega arith) (omega arith)

-- the units of one code point and of the rest
pub units_add : (c : ℕ) (codes : List ℕ) → length (text_units (c ∷ codes)) ≡ length (code_units c) + length (text_units codes)
units_add c codes = length-append (code_units c) (text_units codes)

-- a rest has no more units than the whole
pub rest_short : (n : ℕ) (codes : List ℕ) → length (text_units (drop n codes)) ≤ length (text_units codes)
rest_short zero codes = omega arith
rest_short (suc n) [] = omega arith
rest_short (suc n) (c ∷ codes) =
    let e : length (text_units (c ∷ codes)) ≡ length (code_units c) + length (text_units codes) = units_add c codes in
    let le : length (text_units (drop n codes)) ≤ length (text_units codes) = rest_short n codes in
    omega (arith, e, le)

-- nor has a front
pub front_short : (n : ℕ) (codes : List ℕ) → length (text_units (take n codes)) ≤ length (text_units codes)
front_short zero codes = omega arith
front_short (suc n) [] = omega arith
front_short (suc n) (c ∷ codes) =
    let e : length (text_units (c ∷ codes)) ≡ length (code_units c) + length (text_units codes) = units_add c codes in
    let f : length (text_units (c ∷ take n codes)) ≡ length (code_units c) + length (text_units (take n codes)) = units_add c (take n codes) in
    let le : length (text_units (take n codes)) ≤ length (text_units codes) = front_short n codes in
    omega (arith, e, f, le)

-- nor have those of the points that pass a test
pub passing_short : (q : Point → Bool) (ps : List Point) → length (text_units (map code_of (filter q ps))) ≤ length (text_units (map code_of ps))
passing_short q [] = omega arith
passing_short q (p ∷ ps) =
    let whole : length (text_units (p.code ∷ map code_of ps)) ≡ length (code_units p.code) + length (text_units (map code_of ps)) = units_add p.code (map code_of ps) in
    let taken : length (text_units (p.code ∷ map code_of (filter q ps))) ≡ length (code_units p.code) + length (text_units (map code_of (filter q ps))) = units_add p.code (map code_of (filter q ps)) in
    let le : length (text_units (map code_of (filter q ps))) ≤ length (text_units (map code_of ps)) = passing_short q ps in
    either (λ (qs : List Point). length (text_units (map code_of qs)) ≤ length (text_units (p.code ∷ map code_of ps))) (q p) (p ∷ filter q ps) (filter q ps)
    (omega (arith, whole, taken, le)) (omega (arith, whole, le))
