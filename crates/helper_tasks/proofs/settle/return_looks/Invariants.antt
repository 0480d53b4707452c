use Rattle.helper_tasks.proofs.Settling.{Returning}
use Rattle.helper_tasks.proofs.settle.return_looks.Given as goal

abbrev pub invariant-loop-at : goal.invariant-loop-at
invariant-loop-at g l = Returning l.initial.helpers l.helpers l.at
