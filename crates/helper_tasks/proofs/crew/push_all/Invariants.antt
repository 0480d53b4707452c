use Rattle.std.proofs.Common.{◌≡◌, [], take}
use Rattle.helper_tasks.specs.Rule.{dealt}
use Rattle.helper_tasks.specs.Handles.{reach_at}
use Rattle.helper_tasks.proofs.crew.push_all.Given as goal

abbrev pub invariant-loop-at : goal.invariant-loop-at
invariant-loop-at g l = l.all ≡ reach_at l.queue (dealt 64 (take l.at l.order) [])
