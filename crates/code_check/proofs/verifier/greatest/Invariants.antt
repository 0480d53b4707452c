use Rattle.code_check.proofs.Greatest.{GreatestTo}
use Rattle.code_check.proofs.verifier.greatest.Given as goal

abbrev pub invariant-loop-depth : goal.invariant-loop-depth
invariant-loop-depth l = GreatestTo l.depths l.depth-index l.most
