use Rattle.std.proofs.Common.{◌≡◌, ◌<◌, length}
use Rattle.helper_tasks.specs.Count.{Each}
use Rattle.helper_tasks.specs.Crew.{placed}
use Rattle.helper_tasks.proofs.place.place_all.Given as goal

abbrev pub invariant-loop-one : goal.invariant-loop-one
invariant-loop-one g l =
    (goal.iterator-loop-one g).can_next l.one-iterator
    × (goal.iterator-loop-one g).is_finite l.one-iterator
    × (placed l.slots l.one-iterator.rest.items ≡ placed l.fn.slots l.fn.made.items)
    × Each (λ m. m.task < length l.slots) l.one-iterator.rest.items
