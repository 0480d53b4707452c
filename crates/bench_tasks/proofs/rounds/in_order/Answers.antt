use Rattle.std.proofs.Common.{[], ◌∷◌, length, refl, ap, arith, length-append}
use Rattle.helper_tasks.proofs.Orders.{order_up}
use Rattle.bench_tasks.proofs.rounds.in_order.Goals as goal

pub loop-task-preserved : goal.loop-task-preserved
loop-task-preserved c =
    let inv = c.loop-task.invariant in
    let more = c.in_ok-push.ensures.items in
    let n = ap length more in
    let m = length-append c.loop-task.order.items (c.loop-task.task ∷ []) in
    let size = inv.0 in
    (omega arith, λ x. order_up x c.loop-task.task _ c.loop-task.order.items _ refl more (inv.1 x))
