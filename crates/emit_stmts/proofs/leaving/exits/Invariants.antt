use Rattle.std.proofs.Common.{drop}
use Rattle.emit_stmts.proofs.Exits.{ExitsLeft}
use Rattle.emit_stmts.proofs.leaving.exits.Given as goal

abbrev pub invariant-loop-frame : goal.invariant-loop-frame
invariant-loop-frame l = ExitsLeft l.site l.initial.out l.out l.frames (drop l.frame-index l.frames)
