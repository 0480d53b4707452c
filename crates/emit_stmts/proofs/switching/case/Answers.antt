use Rattle.std.proofs.Common.{◌+◌, sym, subst}
use Rattle.emit_stmts.specs.Clauses.{InOrder}
use Rattle.emit_stmts.proofs.HeadRows.{case_some, case_none}
use Rattle.emit_stmts.proofs.Landing.{in_order_last, in_order_more}
use Rattle.emit_stmts.proofs.switching.case.Goals as goal

pub returns-in_ok-jump_to-in-Some-clause-code : goal.returns-in_ok-jump_to-in-Some-clause-code
returns-in_ok-jump_to-in-Some-clause-code c = case_some c.args.site.now c.args.place c.args.test.now c.in-Some.value c.in-Some.is (c.in_ok-plain-in-Some.ensures c.args.site.now.exprs.texts.now) c.in_ok-emit_expr-in-Some.ensures (c.in_ok-plain-in-Some-2.ensures c.args.site.now.exprs.texts.now) c.in_ok-jump_to-in-Some.ensures.jumps

pub returns-in_ok-jump_to-in-Some-clause-order : goal.returns-in_ok-jump_to-in-Some-clause-order
returns-in_ok-jump_to-in-Some-clause-order c = λ x. subst (InOrder 0 (c.args.place + 1)) (sym c.in_ok-jump_to-in-Some.ensures.waits) (in_order_last 0 c.args.place _ c.args.waits.now.items x)

pub returns-in-None-clause-code : goal.returns-in-None-clause-code
returns-in-None-clause-code c = case_none c.args.site.now c.args.out.now c.args.waits.now.items c.args.place c.args.test.now c.in-None.is

pub returns-in-None-clause-order : goal.returns-in-None-clause-order
returns-in-None-clause-order c = in_order_more 0 c.args.place c.args.waits.now.items
