use Rattle.std.proofs.Common.{[], ap, arith, length-append, refl, ◌∷◌}
use Rattle.std.specs.Prelude.{length}
use Rattle.helper_tasks.proofs.Orders.{order_up}
use Rattle.session_output.proofs.printing.numbers.Goals as goal

pub loop-number-preserved : goal.loop-number-preserved
loop-number-preserved c =
    let inv = c.loop-number.invariant in
    let more = c.in_ok-push.ensures.items in
    let n = ap length more in
    let m = length-append c.loop-number.numbers.items (c.loop-number.number ∷ []) in
    let size = inv.0 in
    let next = c.loop-number.number in
    (omega arith, λ x. order_up x next _ c.loop-number.numbers.items _ refl more (inv.1 x))
