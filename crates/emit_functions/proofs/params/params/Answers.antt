use Rattle.std.proofs.Common.{drop_of_length-le}
use Rattle.emit_exprs.proofs.Lists.{next_of}
use Rattle.emit_functions.proofs.ParamRows as list
use Rattle.emit_functions.proofs.params.params.Goals as goal

pub loop-item-init : goal.loop-item-init
loop-item-init c = list.params_begin _ _ _

pub loop-item-preserved : goal.loop-item-preserved
loop-item-preserved c = list.params_next _ _ c.item-item.result (next_of c.args.params.now c.loop-item.item-index c.item-item.result c.loop-item-test.true c.item-item.is) c.in_ok-param.ensures c.loop-item.invariant

pub returns : goal.returns
returns c = list.params_end _ (drop_of_length-le c.args.params.now c.loop-item-test.false) c.loop-item.invariant
