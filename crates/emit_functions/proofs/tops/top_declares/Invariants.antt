use Rattle.std.proofs.Common.{drop}
use Rattle.emit_functions.proofs.TopRows.{TopsLooked}
use Rattle.emit_functions.proofs.tops.top_declares.Given as goal

abbrev pub invariant-loop-item : goal.invariant-loop-item
invariant-loop-item l = TopsLooked l.items (drop l.item-index l.items)
