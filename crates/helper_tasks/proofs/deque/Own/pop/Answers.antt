use Rattle.std.proofs.Common.{rules}
use Rattle.helper_tasks.proofs.Steps.{takes, pops, finds}
use Rattle.helper_tasks.proofs.deque.Own.pop.Goals as goal

pub pop_as-requires-clause-fifo : goal.pop_as-requires-clause-fifo
pop_as-requires-clause-fifo g c = λ _. takes _ _ _ (search rules)

pub pop_as-requires-clause-lifo : goal.pop_as-requires-clause-lifo
pop_as-requires-clause-lifo g c = λ _. pops _ _ _ (search rules)

pub pop_as-requires-clause-empty : goal.pop_as-requires-clause-empty
pop_as-requires-clause-empty g c = finds _ _ _
