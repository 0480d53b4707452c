use Rattle.emit_stmts.proofs.SimpleRows.{binding_row}
use Rattle.emit_stmts.proofs.valued.binding_stmt.Goals as goal

pub returns : goal.returns
returns c = λ ws semi. binding_row c.args.site.now c.args.decl c.args.binds.now ws c.args.out.now.notes.items c.args.out.now.next semi c.in_ok-bind_names.ensures
