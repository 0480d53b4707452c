use Rattle.std.proofs.Common.{ℕ, List, [], ◌∷◌, ◌++◌, ◌+◌, ◌∙◌, sym, ap, arith}
use Rattle.session_requests.proofs.TaskNumbers.{rising_more}
use Rattle.session_requests.proofs.requests.all_numbers.Goals as goal

pub loop-number-preserved : goal.loop-number-preserved
loop-number-preserved c =
    let n = c.loop-number.number in
    c.in_ok-push.ensures.items ∙ (ap (λ (xs : List ℕ). xs ++ (n + 1) ∷ []) c.loop-number.invariant ∙ sym (rising_more 1 n (n + 1) (omega arith)))
