use Rattle.emit_stmts.proofs.HeadRows.{keys_tested}
use Rattle.emit_stmts.proofs.heads.keys_test.Goals as goal

pub returns : goal.returns
returns c = keys_tested c.args.level c.in_ok-plain.ensures c.in_ok-plain-2.ensures c.in_ok-plain-3.ensures c.in_ok-jump_to.ensures.jumps
