use Rattle.std.proofs.Common.{rules}
use Rattle.helper_tasks.proofs.Steps.{merges}
use Rattle.helper_tasks.proofs.deque.Own.absorb.Goals as goal

pub absorb-requires-clause-rule : goal.absorb-requires-clause-rule
absorb-requires-clause-rule g c = merges _ _ _ _ _ (search rules)
