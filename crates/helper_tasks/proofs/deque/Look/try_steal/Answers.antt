use Rattle.std.proofs.Common.{rules}
use Rattle.helper_tasks.proofs.Steps.{takes}
use Rattle.helper_tasks.proofs.deque.Look.try_steal.Goals as goal

pub steal_as-requires-clause-takes : goal.steal_as-requires-clause-takes
steal_as-requires-clause-takes g c = takes _ _ _ (search rules)
