use Rattle.std.proofs.Common.{◌≡◌, length}
use Rattle.test_threads.proofs.tasks.no_tasks_yet.Given as goal

abbrev pub invariant-loop : goal.invariant-loop
invariant-loop l = length l.shares.items ≡ l.counter
