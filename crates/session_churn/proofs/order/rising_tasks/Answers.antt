use Rattle.std.proofs.Common.{[], ap, arith, length-append, refl, ◌∷◌}
use Rattle.std.specs.Prelude.{length}
use Rattle.helper_tasks.proofs.Orders.{order_up}
use Rattle.session_churn.proofs.order.rising_tasks.Goals as goal

pub loop-task-preserved : goal.loop-task-preserved
loop-task-preserved c =
    let inv = c.loop-task.invariant in
    let more = c.in_ok-push.ensures.items in
    let n = ap length more in
    let m = length-append c.loop-task.tasks.items (c.loop-task.task ∷ []) in
    let size = inv.0 in
    let next = c.loop-task.task in
    (omega arith, λ x. order_up x next _ c.loop-task.tasks.items _ refl more (inv.1 x))
