use Rattle.emit_stmts.proofs.SimpleRows.{debugger_row}
use Rattle.emit_stmts.proofs.simple.debugger_stmt.Goals as goal

pub returns : goal.returns
returns c = λ ws semi. debugger_row c.args.site.now ws c.args.out.now.notes.items c.args.out.now.next semi (c.in_ok-plain.ensures c.args.site.now.exprs.texts.now)
