use Rattle.std.proofs.Common.{◌≡◌}
use Rattle.helper_tasks.proofs.injector.Queue.fetch.Given as goal

abbrev pub invariant-loop : goal.invariant-loop
invariant-loop g l =
    (goal.iterator-loop g).can_next l.iterator'
    × (goal.iterator-loop g).is_finite l.iterator'
    × (l.fetcher ≡ l.initial.fetcher)
