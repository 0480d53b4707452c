-- Numbers that were sorted so that those of larger things stand first.
use Rattle.std.proofs.Common.{◌≡◌, ◌∙◌, ℕ, ◌+◌, ◌≤◌, Bool, true, false, not, ◌&&◌, cond, eqb, ltb, ltb-false, le-ltb, List, get_or, ap, refl, arith}
use Rattle.std.proofs.lemmas.Cmp.{nat_cmp_total}
use Rattle.std.proofs.lemmas.List.Sorted.{ranks_by, IsStrictWeakOrder-flip, sorted_far, ties_stay_sorted}
use Rattle.std.specs.Cmp.{IsStrictWeakOrder}
use Rattle.std.specs.List.Sorted.{IsNonDecreasing, IsSortedBy, IsStableBy}
use Rattle.std.specs.Ordering.{is_lt, nat_cmp}
use Rattle.std.specs.declared.cmp.Ordering.TheVariants.{Less, Equal, Greater}
use Rattle.session_orders.specs.Orders.{FallBy, TiesRise}

-- ---- two numbers

no_less : (equal : Bool) → is_lt (cond equal Equal Greater) ≡ false
no_less true = refl
no_less false = refl

not_less : (a b : ℕ) → b ≤ a → is_lt (nat_cmp a b) ≡ false
not_less a b h = ap (λ (less : Bool). is_lt (cond less Less (cond (eqb a b) Equal Greater))) (le-ltb a b h) ∙ no_less (eqb a b)

at_most_by : (a b : ℕ) (less equal : Bool) → ltb a b ≡ less → is_lt (cond less Less (cond equal Equal Greater)) ≡ false → b ≤ a
at_most_by a b true equal is h = absurd (cc)
at_most_by a b false equal is h = ltb-false a b is

at_most : (a b : ℕ) → is_lt (nat_cmp a b) ≡ false → b ≤ a
at_most a b h = at_most_by a b (ltb a b) (eqb a b) refl h

-- ---- lists of them

module _ (size : ℕ → ℕ) where
  -- the first number is that of a larger thing
  abbrev pub larger : ℕ → ℕ → Bool
  larger x y = is_lt (nat_cmp (size y) (size x))

  pub is_order : IsStrictWeakOrder larger
  is_order = IsStrictWeakOrder-flip (λ (x y : ℕ). is_lt (nat_cmp (size x) (size y))) (ranks_by nat_cmp_total size)

  pub falls : (numbers : List ℕ) → IsSortedBy larger numbers → FallBy size numbers
  falls numbers sorted i j d order there = at_most (size (get_or numbers i d)) (size (get_or numbers j d)) (sorted_far larger is_order numbers sorted i j d order there)

  -- the first number is the smaller one
  abbrev smaller : ℕ → ℕ → Bool
  smaller x y = is_lt (nat_cmp x y)

  rises : (before : List ℕ) → IsNonDecreasing before → IsSortedBy smaller before
  rises before rise k d low room = not_less (get_or before (k + 1) d) (get_or before k d) (rise k (k + 1) d (omega arith) room)

  pub ties_rise : (before after : List ℕ) → IsStableBy larger before after → IsNonDecreasing before → TiesRise size after
  ties_rise before after stable rise k d room same =
      let x : ℕ = get_or after k d in
      let y : ℕ = get_or after (k + 1) d in
      let first : larger x y ≡ false = not_less (size y) (size x) (omega arith) in
      let second : larger y x ≡ false = not_less (size x) (size y) (omega arith) in
      let tie : (not (larger x y) && not (larger y x)) ≡ true = ap (λ (b : Bool). not b && not (larger y x)) first ∙ ap not second in
      at_most y x (ties_stay_sorted smaller larger (ranks_by nat_cmp_total (λ (n : ℕ). n)) is_order before after (rises before rise) stable k d room tie)
