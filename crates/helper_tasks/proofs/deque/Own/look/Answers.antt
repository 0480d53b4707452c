use Rattle.std.proofs.Common.{rules}
use Rattle.helper_tasks.proofs.Steps.{forks}
use Rattle.helper_tasks.proofs.deque.Own.look.Goals as goal

pub another-requires : goal.another-requires
another-requires g c = forks _ _ _ (search rules)
