use Rattle.std.proofs.Common.{◌≡◌, ◌-◌, [], map, take}
use Rattle.helper_tasks.specs.Count.{Each}
use Rattle.helper_tasks.specs.Rule.{dealt}
use Rattle.helper_tasks.specs.Crew.{aspect, deque_of, new_look}
use Rattle.helper_tasks.proofs.crew.give_looks.Given as goal

abbrev pub invariant-loop-at : goal.invariant-loop-at
invariant-loop-at g l =
    (map aspect l.helpers ≡ map aspect l.initial.helpers)
    × Each (λ h. h.handles.own.dealt ≡ dealt (64 - l.at) [] []) l.helpers
    × Each (λ h. h.handles.looks.items ≡ map (λ k. new_look (deque_of k)) l.initial.helpers) (take l.at l.helpers)
