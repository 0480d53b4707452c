use Rattle.emit_stmts.proofs.HeadRows.{tested_some, tested_none}
use Rattle.emit_stmts.proofs.heads.loop_test.Goals as goal

pub returns-in_ok-jump_to-in-Some : goal.returns-in_ok-jump_to-in-Some
returns-in_ok-jump_to-in-Some c = tested_some c.args.site.now c.args.level c.args.test.now c.in-Some.value c.in-Some.is c.in_ok-emit_expr-in-Some.ensures c.in_ok-jump_to-in-Some.ensures.jumps

pub returns-in-None : goal.returns-in-None
returns-in-None c = tested_none c.args.site.now c.args.out.now c.args.waits.now.items c.args.level c.args.test.now c.in-None.is
