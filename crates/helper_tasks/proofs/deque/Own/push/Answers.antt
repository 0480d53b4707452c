use Rattle.std.proofs.Common.{rules}
use Rattle.helper_tasks.proofs.Steps.{pushes}
use Rattle.helper_tasks.proofs.deque.Own.push.Goals as goal

pub push_as-requires-clause-pushes : goal.push_as-requires-clause-pushes
push_as-requires-clause-pushes g c = pushes _ _ _ _ (search rules) (search rules)
