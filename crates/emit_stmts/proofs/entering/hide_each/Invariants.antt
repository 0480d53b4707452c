use Rattle.std.proofs.Common.{drop}
use Rattle.emit_stmts.proofs.Hiding.{HidesLeft}
use Rattle.emit_stmts.proofs.entering.hide_each.Given as goal

abbrev pub invariant-loop-slot : goal.invariant-loop-slot
invariant-loop-slot l = HidesLeft l.initial.out l.out l.slots (drop l.slot-index l.slots)
