use Rattle.std.proofs.Common.{drop_of_length-le}
use Rattle.emit_exprs.proofs.Lists.{powers_begin, powers_next, powers_end}
use Rattle.emit_exprs.proofs.shortcuts.powers.Goals as goal

pub loop-operand-init : goal.loop-operand-init
loop-operand-init c = powers_begin _ _

pub loop-operand-preserved : goal.loop-operand-preserved
loop-operand-preserved c = powers_next _ c.loop-operand._operand-index c.loop-operand-test.true c.in_ok-plain.ensures c.loop-operand.invariant

pub returns : goal.returns
returns c = powers_end _ (drop_of_length-le c.args.rest.now c.loop-operand-test.false) c.loop-operand.invariant
