use Rattle.std.proofs.Common.{drop_of_length-le}
use Rattle.emit_exprs.proofs.Lists.{next_of}
use Rattle.emit_stmts.proofs.Values as list
use Rattle.emit_stmts.proofs.bindings.bind_names.Goals as goal

pub loop-bind-init : goal.loop-bind-init
loop-bind-init c = list.binds_begin _ _ _ _

pub loop-bind-preserved : goal.loop-bind-preserved
loop-bind-preserved c = list.binds_next _ _ c.bind-item.result (next_of c.args.binds.now c.loop-bind.bind-index c.bind-item.result c.loop-bind-test.true c.bind-item.is) c.in_ok-bind_name.ensures c.loop-bind.invariant

pub returns : goal.returns
returns c = list.binds_end _ (drop_of_length-le c.args.binds.now c.loop-bind-test.false) c.loop-bind.invariant
