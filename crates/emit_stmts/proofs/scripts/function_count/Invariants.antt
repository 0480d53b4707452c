use Rattle.std.proofs.Common.{drop}
use Rattle.emit_stmts.proofs.ScriptRows.{Counting}
use Rattle.emit_stmts.proofs.scripts.function_count.Given as goal

abbrev pub invariant-loop-item : goal.invariant-loop-item
invariant-loop-item l = Counting l.items (drop l.item-index l.items) l.count
