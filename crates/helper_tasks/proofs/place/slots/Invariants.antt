use Rattle.std.proofs.Common.{◌≡◌}
use Rattle.helper_tasks.specs.Crew.{empty_slots}
use Rattle.helper_tasks.proofs.place.slots.Given as goal

abbrev pub invariant-loop : goal.invariant-loop
invariant-loop g l = l.slots.items ≡ empty_slots l.counter
