-- The part of a text between two offsets.
use Rattle.std.proofs.Common.{◌≡◌, ℕ, ◌+◌, ◌-◌, ◌<◌, ◌≤◌, zero, suc, List, [], ◌∷◌, ◌++◌, length, take, drop, get_or, Bool, true, false, cond, refl, sym, ◌∙◌, ap, subst, arith, take-append-drop, length-drop, append-nil, inl, inr}
use Rattle.std.specs.Prelude.{filter, nat_lt, nat_le, ◌&&◌, ◌^◌}
use Rattle.std.specs.List.Sorted.{IsPartitionPoint, IsNonDecreasingBy}
use Rattle.std.specs.List.{All, AllByRecursion}
use Rattle.std.proofs.lemmas.Bool.{cases_Bool, ltb-false, ltb-true, leb-true, leb-false}
use Rattle.std.proofs.lemmas.List.{get_or-drop}
use Rattle.std.proofs.lemmas.List.Elements.{filter-append, All-from_recursion}
use Rattle.unit_text.specs.declared.Point.{Point}
use Rattle.unit_text.specs.Points.{LieEndToEnd}
use Rattle.script_scanner.specs.Order.{AreInOrder}
use Rattle.script_scanner.specs.Tokens.{part}
use Rattle.script_scanner.proofs.Lists.{and_right}

-- points in order begin at rising offsets
begins_from : (at : ℕ) (points : List Point) (i : ℕ) (d : Point) → LieEndToEnd at points → i < length points → at ≤ (get_or points i d).start
begins_from at [] i d h lt = absurd (omega (arith, lt))
begins_from at (p ∷ ps) zero d h lt = let e : p.start ≡ at = h.0 in omega (arith, e)
begins_from at (p ∷ ps) (suc i) d h lt =
    let e : p.start ≡ at = h.0 in let f : p.start < p.end = h.1 in
    let k : p.end ≤ (get_or ps i d).start = begins_from p.end ps i d h.2 (omega (arith, lt)) in omega (arith, e, f, k)

rises : (at : ℕ) (points : List Point) (i j : ℕ) (d : Point) → LieEndToEnd at points → i ≤ j → j < length points → (get_or points i d).start ≤ (get_or points j d).start
rises at [] i j d h le lt = absurd (omega (arith, lt))
rises at (p ∷ ps) zero zero d h le lt = omega arith
rises at (p ∷ ps) zero (suc j) d h le lt =
    let f : p.start < p.end = h.1 in let k : p.end ≤ (get_or ps j d).start = begins_from p.end ps j d h.2 (omega (arith, lt)) in omega (arith, f, k)
rises at (p ∷ ps) (suc i) zero d h le lt = absurd (omega (arith, le))
rises at (p ∷ ps) (suc i) (suc j) d h le lt = rises p.end ps i j d h.2 (omega (arith, le)) (omega (arith, lt))

pub points_rise : (points : List Point) → AreInOrder points → IsNonDecreasingBy (λ (p : Point). p.start) points
points_rise points h = λ i j d le lt. rises h.0 points i j d h.1 le lt

-- the points from a place on are in order
lie_behind : (at : ℕ) (points : List Point) (n : ℕ) → LieEndToEnd at points → AreInOrder (drop n points)
lie_behind at points zero h = (at, h)
lie_behind at [] (suc n) h = (at, h)
lie_behind at (p ∷ ps) (suc n) h = lie_behind p.end ps n h.2

pub points_rise_behind : (points others : List Point) (n : ℕ) → AreInOrder points → others ≡ drop n points → IsNonDecreasingBy (λ (p : Point). p.start) others
points_rise_behind points others n h is = points_rise others (subst (λ (ps : List Point). AreInOrder ps) (sym is) (lie_behind h.0 points n h.1))

module _ (q : Point → Bool) where
  -- nothing of a front, all of a front, nothing of a rest passes a test
  front_none : (points : List Point) (n : ℕ) → ((k : ℕ) (d : Point) → k < n → q (get_or points k d) ≡ false) → filter q (take n points) ≡ []
  front_none points zero h = refl
  front_none [] (suc n) h = refl
  front_none (p ∷ ps) (suc n) h = ap (λ (b : Bool). cond b (p ∷ filter q (take n ps)) (filter q (take n ps))) (h 0 p (omega arith)) ∙ front_none ps n (λ k d lt. h (suc k) d (omega (arith, lt)))

  front_all : (points : List Point) (n : ℕ) → ((k : ℕ) (d : Point) → k < n → k < length points → q (get_or points k d) ≡ true) → filter q (take n points) ≡ take n points
  front_all points zero h = refl
  front_all [] (suc n) h = refl
  front_all (p ∷ ps) (suc n) h = ap (λ (b : Bool). cond b (p ∷ filter q (take n ps)) (filter q (take n ps))) (h 0 p (omega arith) (omega arith)) ∙ ap (λ (xs : List Point). p ∷ xs) (front_all ps n (λ k d lt le. h (suc k) d (omega (arith, lt)) (omega (arith, le))))

  all_none : (points : List Point) → ((k : ℕ) (d : Point) → k < length points → q (get_or points k d) ≡ false) → filter q points ≡ []
  all_none [] h = refl
  all_none (p ∷ ps) h = ap (λ (b : Bool). cond b (p ∷ filter q ps) (filter q ps)) (h 0 p (omega arith)) ∙ all_none ps (λ k d lt. h (suc k) d (omega (arith, lt)))

  rest_none : (points : List Point) (n : ℕ) → ((k : ℕ) (d : Point) → n ≤ k → k < length points → q (get_or points k d) ≡ false) → filter q (drop n points) ≡ []
  rest_none points zero h = all_none points (λ k d lt. h k d (omega arith) lt)
  rest_none [] (suc n) h = refl
  rest_none (p ∷ ps) (suc n) h = rest_none ps n (λ k d le lt. h (suc k) d (omega (arith, le)) (omega (arith, lt)))

-- tests of order
not_from : (from start : ℕ) → nat_lt start from ≡ true → nat_le from start ≡ false
not_from from start e = elim (cases_Bool (nat_le from start)) as (λ _. nat_le from start ≡ false)
    [ inl y ↦ absurd (omega (arith, leb-true from start y, ltb-true start from e)) | inr n ↦ n ]

from_on : (from start : ℕ) → nat_lt start from ≡ false → nat_le from start ≡ true
from_on from start e = elim (cases_Bool (nat_le from start)) as (λ _. nat_le from start ≡ true)
    [ inl y ↦ y | inr n ↦ absurd (omega (arith, leb-false from start n, ltb-false start from e)) ]

-- the test of a part
abbrev pub in_part : ℕ → ℕ → Point → Bool
in_part from to p = nat_le from p.start && nat_lt p.start to

-- the points between two partition points are the part
pub part_is : (points others front : List Point) (from to m n : ℕ) → others ≡ drop m points → front ≡ take n others
    → IsPartitionPoint (λ (p : Point). nat_lt p.start from ≡ true) (λ (p : Point). nat_lt p.start from ≡ false) points m
    → IsPartitionPoint (λ (p : Point). nat_lt p.start to ≡ true) (λ (p : Point). nat_lt p.start to ≡ false) others n → m ≤ length points → front ≡ part from to points
part_is points others front from to m n behind is first second within = is ∙ sym whole
  where
    before : filter (in_part from to) (take m points) ≡ []
    before = front_none (in_part from to) points m (λ k d lt. ap (λ (b : Bool). b && nat_lt (get_or points k d).start to) (not_from from (get_or points k d).start (first.0 k d (omega arith) lt)))

    from_here : (k : ℕ) (d : Point) → k < length others → nat_le from (get_or others k d).start ≡ true
    from_here k d lt =
        let same : get_or others k d ≡ get_or points (m + k) d = ap (λ (ps : List Point). get_or ps k d) behind ∙ get_or-drop m points k d in
        let size : length others ≡ length points - m = ap length behind ∙ length-drop m points in
        ap (λ (p : Point). nat_le from p.start) same ∙ from_on from (get_or points (m + k) d).start (first.1 (m + k) d (omega arith) (omega (arith, size, lt)))

    inside : filter (in_part from to) (take n others) ≡ take n others
    inside = front_all (in_part from to) others n (λ k d lt le. ap (λ (b : Bool). b && nat_lt (get_or others k d).start to) (from_here k d le) ∙ second.0 k d (omega arith) lt)

    after : filter (in_part from to) (drop n others) ≡ []
    after = rest_none (in_part from to) others n (λ k d le lt. ap (λ (b : Bool). b && nat_lt (get_or others k d).start to) (from_here k d lt) ∙ second.1 k d le lt)

    whole : filter (in_part from to) points ≡ take n others
    whole = ap (filter (in_part from to)) (sym (take-append-drop m points)) ∙ filter-append (in_part from to) (take m points) (drop m points) ∙ ap (λ (xs : List Point). xs ++ filter (in_part from to) (drop m points)) before
        ∙ ap (filter (in_part from to)) (sym behind) ∙ ap (filter (in_part from to)) (sym (take-append-drop n others)) ∙ filter-append (in_part from to) (take n others) (drop n others)
        ∙ ap (λ (xs : List Point). filter (in_part from to) (take n others) ++ xs) after ∙ append-nil (filter (in_part from to) (take n others)) ∙ inside

-- the points of a part begin before its end
begin_before : (from to : ℕ) (points : List Point) → AllByRecursion (λ (p : Point). p.start < to) (part from to points)
begin_before from to [] = tt
begin_before from to (p ∷ ps) =
    let Below : Bool → Type 0 = λ b. AllByRecursion (λ (p : Point). p.start < to) (cond b (p ∷ part from to ps) (part from to ps)) in
    elim (cases_Bool (in_part from to p)) as (λ _. Below (in_part from to p)) [
      | inl y ↦ subst Below (sym y) (ltb-true p.start to (and_right (nat_le from p.start) (nat_lt p.start to) y), begin_before from to ps)
      | inr n ↦ subst Below (sym n) (begin_before from to ps)
    ]

pub part_is_small : (from to : ℕ) (points text : List Point) → text ≡ part from to points → to ≤ 16777215 → All (λ (p : Point). p.start < 2 ^ 24) text
part_is_small from to points text is fits =
    subst (λ (ps : List Point). All (λ (p : Point). p.start < 2 ^ 24) ps) (sym is)
    (All-from_recursion (λ (p : Point). p.start < 2 ^ 24) (part from to points) (smaller (part from to points) (begin_before from to points)))
  where
    smaller : (points : List Point) → AllByRecursion (λ (p : Point). p.start < to) points → AllByRecursion (λ (p : Point). p.start < 2 ^ 24) points
    smaller [] h = tt
    smaller (p ∷ ps) h = let lt : p.start < to = h.0 in (omega (arith, lt, fits), smaller ps h.1)
