use Rattle.std.proofs.Common.{◌≡◌, ◌<◌, map, drop}
use Rattle.helper_tasks.specs.Count.{Each}
use Rattle.helper_tasks.specs.Hands.{places}
use Rattle.helper_tasks.specs.Crew.{deque_of, all_took_in}
use Rattle.helper_tasks.proofs.Settling.{from}
use Rattle.helper_tasks.proofs.settle.bring_back.Given as goal

abbrev pub invariant-loop-look : goal.invariant-loop-look
invariant-loop-look g l =
    (goal.iterator-loop-look g).can_next l.look-iterator
    × (goal.iterator-loop-look g).is_finite l.look-iterator
    × (places l.look-iterator.rest.items ≡ drop l.at (map deque_of l.helpers))
    × Each (λ h. 0 < h.handles.own.dealt.parts) l.helpers
    × (from l.at l.helpers l.look-iterator.rest.items ≡ all_took_in l.fn.helpers l.fn.looks.items)
