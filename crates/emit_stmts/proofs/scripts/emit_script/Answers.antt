use Rattle.emit_stmts.proofs.ScriptRows.{script_row}
use Rattle.emit_stmts.proofs.scripts.emit_script.Goals as goal

pub returns : goal.returns
returns c = script_row c.args.site.now c.args.items.now c.function_count-count.result c.function_count-count.ensures (c.in_ok-counted.ensures c.args.site.now.exprs.texts.now) c.in_ok-emit_stmts.ensures (c.in_ok-plain.ensures c.args.site.now.exprs.texts.now)
