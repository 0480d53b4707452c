-- The greatest depth of a table.
use Rattle.std.proofs.Common.{◌≡◌, ℕ, ◌+◌, ◌<◌, ◌≤◌, max, ◌⊎◌, inl, inr, List, length, Option, Some, None, refl, sym, ap, subst, ◌∙◌, arith}
use Rattle.std.specs.Prelude.{unwrap_or}
use Rattle.std.proofs.lemmas.Bool.Decides.{leb_tells}
use Rattle.std.proofs.lemmas.List.{get_or_past}
use Rattle.code_check.specs.Survey.{depth_at}
use Rattle.bytecode_buf.specs.Verdicts.{IsGreatest}

-- some depth is this one, and none below an offset is greater
pub record GreatestTo (depths : List (Option ℕ)) (i most : ℕ) : Type 0 where
  pub at : ℕ
  pub is : depth_at depths at ≡ Some most
  pub above : (k d : ℕ) → k < i → depth_at depths k ≡ Some d → d ≤ most

pub greatest_none : (depths : List (Option ℕ)) → depth_at depths 0 ≡ Some 0 → GreatestTo depths 0 0
greatest_none depths first = record { at = 0; is = first; above = λ k d below is. absurd (omega arith) }

the_depth : (o : Option ℕ) (d : ℕ) → o ≡ Some d → d ≤ unwrap_or o 0
the_depth None d is = absurd (cc)
the_depth (Some e) d is = let same : e ≡ d = cc in omega (arith, same)

below_or_at : (k i : ℕ) → k < i + 1 → (k < i) ⊎ (k ≡ i)
below_or_at k i below = elim (leb_tells i k) [ inr under ↦ inl under.1 | inl over ↦ inr (omega (arith, over.1)) ]

above_more : (depths : List (Option ℕ)) (i most new : ℕ) → GreatestTo depths i most → most ≤ new → unwrap_or (depth_at depths i) 0 ≤ new → (k d : ℕ) → k < i + 1 → depth_at depths k ≡ Some d → d ≤ new
above_more depths i most new w up fits k d below is = elim (below_or_at k i below) [
  | inl under ↦ let was : d ≤ most = w.above k d under is in omega arith
  | inr same ↦ let low = the_depth (depth_at depths i) d (sym (ap (depth_at depths) same) ∙ is) in omega (arith, low)
]

higher : (depths : List (Option ℕ)) (i most : ℕ) (o : Option ℕ) → GreatestTo depths i most → o ≡ depth_at depths i → (new : ℕ) → new ≡ max most (unwrap_or o 0) → GreatestTo depths (i + 1) new
higher depths i most None w is new largest =
    let same : new ≡ most = omega arith in
    record { at = w.at; is = w.is ∙ ap (λ (n : ℕ). Some n) (sym same); above = above_more depths i most new w (omega arith) (subst (λ (o : Option ℕ). unwrap_or o 0 ≤ new) is (omega arith)) }
higher depths i most (Some e) w is new largest = elim (leb_tells e most) [
  | inl low ↦
      let same : new ≡ most = omega (arith, low.1) in
      record { at = w.at; is = w.is ∙ ap (λ (n : ℕ). Some n) (sym same); above = above_more depths i most new w (omega arith) (subst (λ (o : Option ℕ). unwrap_or o 0 ≤ new) is (omega (arith, low.1))) }
  | inr high ↦
      let same : new ≡ e = omega (arith, high.1) in
      record { at = i; is = sym is ∙ ap (λ (n : ℕ). Some n) (sym same); above = above_more depths i most new w (omega (arith, high.1)) (subst (λ (o : Option ℕ). unwrap_or o 0 ≤ new) is (omega arith)) }
]

pub greatest_more : (depths : List (Option ℕ)) (i most new : ℕ) → GreatestTo depths i most → new ≡ max most (unwrap_or (depth_at depths i) 0) → GreatestTo depths (i + 1) new
greatest_more depths i most new w largest = higher depths i most (depth_at depths i) w refl new largest

pub greatest_all : (depths : List (Option ℕ)) (i most : ℕ) → length depths ≤ i → GreatestTo depths i most → IsGreatest (depth_at depths) most
greatest_all depths i most all w = record {
  at = w.at;
  is = w.is;
  most = λ k d is. elim (leb_tells i k) [ inr under ↦ w.above k d under.1 is | inl over ↦ absurd (past k d (omega (arith, over.1)) is) ];
}
  where
    past : (k d : ℕ) → length depths ≤ k → depth_at depths k ≡ Some d → ⊥
    past k d far is = let none : depth_at depths k ≡ None = get_or_past depths k None far in cc
