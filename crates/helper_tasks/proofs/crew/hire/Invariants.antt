use Rattle.std.proofs.Common.{◌≡◌, ℕ, ◌+◌, ◌-◌, ◌<◌, ◌≤◌, [], ◌++◌, length, map, take, drop}
use Rattle.helper_tasks.specs.Count.{times, total, Each}
use Rattle.helper_tasks.specs.Rule.{dealt}
use Rattle.helper_tasks.specs.Handles.{reach_at}
use Rattle.helper_tasks.specs.Crew.{Hired, alone}
use Rattle.helper_tasks.proofs.crew.hire.Given as goal

abbrev pub invariant-loop-share : goal.invariant-loop-share
invariant-loop-share g l =
    (goal.iterator-loop-share g).can_next l.share-iterator
    × (goal.iterator-loop-share g).is_finite l.share-iterator
    × (map (λ h. h.desk.share) l.helpers.items ++ l.share-iterator.rest.items ≡ l.fn.shares.items)
    × (l.number + length l.share-iterator.rest.items ≡ length l.fn.shares.items)
    × (length l.helpers.items ≡ l.number)
    × (l.all ≡ reach_at l.queue (dealt (64 - l.number) (take l.pushed l.order) []))
    × Each (Hired l.queue (length l.fn.shares.items) l.order) l.helpers.items
    × ((x : ℕ) → total (alone l.order x) l.helpers.items + times x (drop l.rest l.order) ≡ times x (drop l.pushed l.order))
    × (0 < l.number → l.rest ≡ length l.order)
    × (l.rest ≤ length l.order)
