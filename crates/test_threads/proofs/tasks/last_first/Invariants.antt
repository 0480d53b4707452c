use Rattle.std.proofs.Common.{◌≡◌, ℕ, ◌+◌, length}
use Rattle.helper_tasks.specs.Count.{times, once_below}
use Rattle.test_threads.proofs.tasks.last_first.Given as goal

abbrev pub invariant-loop-left : goal.invariant-loop-left
invariant-loop-left l =
    (length l.order.items + l.left ≡ l.count)
    × ((x : ℕ) → times x l.order.items + once_below x l.left ≡ once_below x l.count)

abbrev pub decreases-loop-left : goal.decreases-loop-left
decreases-loop-left l = l.left
