-- The numbers of tasks, rising.
use Rattle.std.proofs.Common.{◌∙◌, ℕ, List, zero, suc, ap, arith}
use Rattle.std.specs.List.{range_with_len}
use Rattle.std.specs.Prelude.{[], ◌++◌, ◌+◌, ◌∷◌, ◌≡◌}

-- one more number
pub rising_more : (from count next : ℕ) → from + count ≡ next → range_with_len from (count + 1) ≡ range_with_len from count ++ next ∷ []
rising_more from zero next is = ap (λ (n : ℕ). n ∷ []) (let e : from ≡ next = omega (arith, is) in e)
rising_more from (suc n) next is =
    let e : suc n + 1 ≡ suc (n + 1) = omega arith in
    ap (range_with_len from) e ∙ ap (λ (xs : List ℕ). from ∷ xs) (rising_more (from + 1) n next (omega (arith, is)))
