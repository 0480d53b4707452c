use Rattle.std.proofs.Common.{◌≡◌, ◌+◌, ◌-◌, [], ◌∷◌, length, ap, arith, length-append}
use Rattle.helper_tasks.proofs.Orders.{order_down}
use Rattle.test_threads.proofs.tasks.last_first.Goals as goal

pub loop-left-preserved : goal.loop-left-preserved
loop-left-preserved c =
    let inv = c.loop-left.invariant in
    let more = c.in_ok-push.ensures.items in
    let n = ap length more in
    let m = length-append c.loop-left.order.items ((c.loop-left.left - 1) ∷ []) in
    let size = inv.0 in
    (omega arith, λ x. order_down x (c.loop-left.left - 1) c.loop-left.left _ c.loop-left.order.items _ (omega arith) more (inv.1 x))
