use Rattle.std.proofs.Common.{◌≡◌, ◌<◌, ◌++◌, length, map}
use Rattle.helper_tasks.specs.Count.{Each}
use Rattle.helper_tasks.specs.Crew.{placed, empty_slots, all_made}
use Rattle.helper_tasks.proofs.place.collect.Given as goal

abbrev pub invariant-loop-desk : goal.invariant-loop-desk
invariant-loop-desk g l =
    (goal.iterator-loop-desk g).can_next l.desk-iterator
    × (goal.iterator-loop-desk g).is_finite l.desk-iterator
    × (l.shares.items ++ map (λ d. d.share) l.desk-iterator.rest.items ≡ map (λ d. d.share) l.fn.desks.items)
    × (placed l.slots.items (all_made l.desk-iterator.rest.items) ≡ placed (empty_slots l.fn.count) (all_made l.fn.desks.items))
    × (length l.slots.items ≡ l.fn.count)
    × Each (λ m. m.task < l.fn.count) (all_made l.desk-iterator.rest.items)
