use Rattle.std.proofs.Common.{drop_of_length-le}
use Rattle.emit_exprs.proofs.Lists.{next_of}
use Rattle.emit_stmts.proofs.HeadRows as list
use Rattle.emit_stmts.proofs.switching.default_aim.Goals as goal

pub loop-place-init : goal.loop-place-init
loop-place-init c = list.default_begin _ _

pub returns-in-None-clause-is : goal.returns-in-None-clause-is
returns-in-None-clause-is c = list.default_found _ _ c.index-clauses-place.result (next_of c.args.clauses.now c.loop-place.place c.index-clauses-place.result c.loop-place-test.true c.index-clauses-place.is) c.in-None.is c.loop-place.invariant

pub loop-place-preserved : goal.loop-place-preserved
loop-place-preserved c = list.default_next _ _ c.index-clauses-place.result c.in-Some.field-0 (next_of c.args.clauses.now c.loop-place.place c.index-clauses-place.result c.loop-place-test.true c.index-clauses-place.is) c.in-Some.is c.loop-place.invariant

pub returns-clause-is : goal.returns-clause-is
returns-clause-is c = list.default_none _ (drop_of_length-le c.args.clauses.now c.loop-place-test.false) c.loop-place.invariant
