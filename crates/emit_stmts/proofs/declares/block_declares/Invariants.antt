use Rattle.std.proofs.Common.{drop}
use Rattle.emit_stmts.proofs.Declaring.{BlockLooked}
use Rattle.emit_stmts.proofs.declares.block_declares.Given as goal

abbrev pub invariant-loop-item : goal.invariant-loop-item
invariant-loop-item l = BlockLooked l.items (drop l.item-index l.items)
