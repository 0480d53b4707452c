use Rattle.std.proofs.Common.{rules}
use Rattle.helper_tasks.proofs.Steps.{forks}
use Rattle.helper_tasks.proofs.injector.Queue.another.Goals as goal

pub another-requires-clause-rule : goal.another-requires-clause-rule
another-requires-clause-rule g c = forks _ _ _ (search rules)
