use Rattle.std.proofs.Common.{drop_of_length-le}
use Rattle.emit_exprs.proofs.Lists.{next_of}
use Rattle.emit_functions.proofs.TopRows as list
use Rattle.emit_functions.proofs.tops.top_declares.Goals as goal

pub loop-item-init : goal.loop-item-init
loop-item-init c = list.looked_begin _

pub returns-then-stmt_declares : goal.returns-then-stmt_declares
returns-then-stmt_declares c = list.looked_found _ _ c.item-item.result c.stmt_declares.result (next_of c.args.items.now c.loop-item.item-index c.item-item.result c.loop-item-test.true c.item-item.is) c.stmt_declares.ensures c.if-stmt_declares.true c.loop-item.invariant

pub loop-item-preserved : goal.loop-item-preserved
loop-item-preserved c = list.looked_next _ _ c.item-item.result c.stmt_declares.result (next_of c.args.items.now c.loop-item.item-index c.item-item.result c.loop-item-test.true c.item-item.is) c.stmt_declares.ensures c.if-stmt_declares.false c.loop-item.invariant

pub returns : goal.returns
returns c = list.looked_none _ (drop_of_length-le c.args.items.now c.loop-item-test.false) c.loop-item.invariant
