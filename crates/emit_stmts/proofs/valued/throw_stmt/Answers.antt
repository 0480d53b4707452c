use Rattle.emit_stmts.proofs.SimpleRows.{throw_row}
use Rattle.emit_stmts.proofs.valued.throw_stmt.Goals as goal

pub returns : goal.returns
returns c = λ ws semi. throw_row c.args.site.now c.args.value.now ws c.args.out.now.notes.items c.args.out.now.next semi c.in_ok-emit_expr.ensures (c.in_ok-plain.ensures c.args.site.now.exprs.texts.now)
