use Rattle.code_check.proofs.Greatest.{greatest_all}
use Rattle.code_check.proofs.verifier.greatest.Goals as goal

pub returns : goal.returns
returns c = greatest_all c.args.depths.now c.loop-depth.depth-index c.loop-depth.most c.loop-depth-test.false c.loop-depth.invariant
