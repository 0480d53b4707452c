use Rattle.emit_stmts.proofs.ReturnRows.{return_row}
use Rattle.emit_stmts.proofs.returning.return_stmt.Goals as goal

pub returns : goal.returns
returns c = λ ws semi. return_row c.args.site.now c.args.value.now ws c.args.out.now.notes.items c.args.out.now.next semi c.in_ok-value_or_undefined.ensures c.in_ok-returning.ensures
