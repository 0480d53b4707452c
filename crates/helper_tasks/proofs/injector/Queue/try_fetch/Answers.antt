use Rattle.std.proofs.Common.{rules}
use Rattle.helper_tasks.proofs.Steps.{takes, finds}
use Rattle.helper_tasks.proofs.injector.Queue.try_fetch.Goals as goal

pub steal_as-requires-clause-rule : goal.steal_as-requires-clause-rule
steal_as-requires-clause-rule g c = (takes _ _ _ (search rules), finds _ _ _)
