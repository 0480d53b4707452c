use Rattle.std.proofs.Common.{drop_of_length-le}
use Rattle.emit_exprs.proofs.Lists.{next_of}
use Rattle.emit_stmts.proofs.Values as list
use Rattle.emit_stmts.proofs.functions.clause_functions.Goals as goal

pub loop-clause-init : goal.loop-clause-init
loop-clause-init c = list.clauses_begin _ _ _

pub loop-clause-preserved : goal.loop-clause-preserved
loop-clause-preserved c = list.clauses_next _ _ c.clause-item.result _ (next_of c.args.clauses.now c.loop-clause.clause-index c.clause-item.result c.loop-clause-test.true c.clause-item.is) c.deref.ensures.value c.in_ok-block_functions.ensures c.loop-clause.invariant

pub returns : goal.returns
returns c = list.clauses_end _ (drop_of_length-le c.args.clauses.now c.loop-clause-test.false) c.loop-clause.invariant
