use Rattle.std.proofs.Common.{◌≡◌, ℕ, length}
use Rattle.helper_tasks.specs.Count.{times, once_below}
use Rattle.bench_tasks.proofs.rounds.in_order.Given as goal

abbrev pub invariant-loop-task : goal.invariant-loop-task
invariant-loop-task l =
    (length l.order.items ≡ l.task)
    × ((x : ℕ) → times x l.order.items ≡ once_below x l.task)
