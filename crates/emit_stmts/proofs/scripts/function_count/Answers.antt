use Rattle.std.proofs.Common.{drop_of_length-le}
use Rattle.emit_exprs.proofs.Lists.{next_of}
use Rattle.emit_stmts.proofs.ScriptRows as list
use Rattle.emit_stmts.proofs.scripts.function_count.Goals as goal

pub loop-item-init : goal.loop-item-init
loop-item-init c = list.count_begin _

pub loop-item-preserved : goal.loop-item-preserved
loop-item-preserved c = list.count_next _ _ c.item-item.result c.functions_in-count.result (next_of c.args.items.now c.loop-item.item-index c.item-item.result c.loop-item-test.true c.item-item.is) c.functions_in-count.ensures c.loop-item.invariant

pub returns : goal.returns
returns c = list.count_end _ (drop_of_length-le c.args.items.now c.loop-item-test.false) c.loop-item.invariant
