use Rattle.std.proofs.Common.{◌≡◌, ◌++◌, map, take, drop}
use Rattle.helper_tasks.specs.Crew.{deque_of, new_look, gave_part}
use Rattle.helper_tasks.proofs.crew.look_at_all.Given as goal

abbrev pub invariant-loop-helper : goal.invariant-loop-helper
invariant-loop-helper g l =
    (l.looks.items ≡ map (λ h. new_look (deque_of h)) (take l.helper-index l.initial.helpers))
    × (l.helpers ≡ map gave_part (take l.helper-index l.initial.helpers) ++ drop l.helper-index l.initial.helpers)
