use Rattle.std.proofs.Common.{ℕ}
use Rattle.std.specs.Prelude.{length, ◌≡◌}
use Rattle.helper_tasks.specs.Count.{once_below, times}
use Rattle.session_churn.proofs.order.rising_tasks.Given as goal

abbrev pub invariant-loop-task : goal.invariant-loop-task
invariant-loop-task l = (length l.tasks.items ≡ l.task) × ((x : ℕ) → times x l.tasks.items ≡ once_below x l.task)
