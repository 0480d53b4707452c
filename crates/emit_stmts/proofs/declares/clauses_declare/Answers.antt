use Rattle.std.proofs.Common.{drop_of_length-le}
use Rattle.emit_exprs.proofs.Lists.{next_of}
use Rattle.emit_stmts.proofs.Declaring as list
use Rattle.emit_stmts.proofs.declares.clauses_declare.Goals as goal

pub returns-then-block_declares : goal.returns-then-block_declares
returns-then-block_declares c = list.clauses_found _ _ c.clause-item.result c.deref.result.now c.block_declares.result (next_of c.args.clauses.now c.loop-clause.clause-index c.clause-item.result c.loop-clause-test.true c.clause-item.is) c.deref.ensures.value c.block_declares.ensures c.if-block_declares.true c.loop-clause.invariant

pub loop-clause-preserved : goal.loop-clause-preserved
loop-clause-preserved c = list.clauses_next _ _ c.clause-item.result c.deref.result.now c.block_declares.result (next_of c.args.clauses.now c.loop-clause.clause-index c.clause-item.result c.loop-clause-test.true c.clause-item.is) c.deref.ensures.value c.block_declares.ensures c.if-block_declares.false c.loop-clause.invariant

pub returns : goal.returns
returns c = list.clauses_none _ (drop_of_length-le c.args.clauses.now c.loop-clause-test.false) c.loop-clause.invariant
