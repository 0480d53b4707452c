use Rattle.helper_tasks.proofs.Orders.{order_up}
use Rattle.session_requests.proofs.TaskNumbers.{rising_more}
use Rattle.std.proofs.Common.{List, length-append, ◌∙◌, refl, sym, ap, arith}
use Rattle.std.specs.Prelude.{ℕ, [], length, ◌++◌, ◌∷◌}
use Rattle.session_requests.proofs.numbers.rising.Goals as goal

pub loop-number-preserved : goal.loop-number-preserved
loop-number-preserved c =
    let inv = c.loop-number.invariant in
    let more = c.in_ok-push.ensures.items in
    let n = ap length more in
    let m = length-append c.loop-number.numbers.items (c.loop-number.number ∷ []) in
    let size = inv.0 in
    let next = c.loop-number.number in
    (omega arith, λ x. order_up x next _ c.loop-number.numbers.items _ refl more (inv.1 x), more ∙ (ap (λ (xs : List ℕ). xs ++ next ∷ []) inv.2 ∙ sym (rising_more 0 next next (omega arith))))
