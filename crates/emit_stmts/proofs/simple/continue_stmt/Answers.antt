use Rattle.emit_stmts.proofs.SimpleRows.{continue_row}
use Rattle.emit_stmts.proofs.simple.continue_stmt.Goals as goal

pub returns : goal.returns
returns c = λ at semi. continue_row c.args.site.now c.args.label c.args.out.now.notes.items c.args.out.now.next at semi c.in_ok-leaving.ensures
