use Rattle.std.proofs.Common.{drop}
use Rattle.emit_stmts.specs.Positions.{position_of}
use Rattle.emit_stmts.proofs.ReturnRows.{ExitLooked}
use Rattle.emit_stmts.proofs.returning.have_exit.Given as goal

abbrev pub invariant-loop-frame : goal.invariant-loop-frame
invariant-loop-frame l = ExitLooked (position_of l.site).scopes l.site.exprs.texts.now l.frames (drop l.frame-index l.frames)
