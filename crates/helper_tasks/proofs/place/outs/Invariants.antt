use Rattle.std.proofs.Common.{◌≡◌, ◌++◌, map, Some, IsSome}
use Rattle.helper_tasks.specs.Count.{Each}
use Rattle.helper_tasks.proofs.place.outs.Given as goal

abbrev pub invariant-loop-slot : goal.invariant-loop-slot
invariant-loop-slot g l =
    (goal.iterator-loop-slot g).can_next l.slot-iterator
    × (goal.iterator-loop-slot g).is_finite l.slot-iterator
    × (map (λ x. Some x) l.outs.items ++ l.slot-iterator.rest.items ≡ l.fn.slots.items)
    × Each IsSome l.slot-iterator.rest.items
