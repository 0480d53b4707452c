use Rattle.std.proofs.Common.{drop}
use Rattle.emit_stmts.proofs.Values.{BlockLeft}
use Rattle.emit_stmts.proofs.functions.block_functions.Given as goal

abbrev pub invariant-loop-item : goal.invariant-loop-item
invariant-loop-item l = BlockLeft l.site l.initial.out l.out l.items (drop l.item-index l.items)
