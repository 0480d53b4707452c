use Rattle.std.proofs.Common.{drop}
use Rattle.emit_functions.proofs.TopRows.{FunctionsLeft}
use Rattle.emit_functions.proofs.tops.top_functions.Given as goal

abbrev pub invariant-loop-item : goal.invariant-loop-item
invariant-loop-item l = FunctionsLeft l.site l.initial.out l.out l.items (drop l.item-index l.items)
