use Rattle.std.proofs.Common.{rules}
use Rattle.helper_tasks.proofs.Steps.{pushes}
use Rattle.helper_tasks.proofs.injector.Queue.push.Goals as goal

pub push_as-requires-clause-rule : goal.push_as-requires-clause-rule
push_as-requires-clause-rule g c = pushes _ _ _ _ (search rules) (search rules)
