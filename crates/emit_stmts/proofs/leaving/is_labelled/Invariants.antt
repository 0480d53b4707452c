use Rattle.std.proofs.Common.{◌≡◌, drop}
use Rattle.stencil_data.specs.StandsFor.{text_at}
use Rattle.emit_stmts.specs.Frames.{is_labelled}
use Rattle.emit_stmts.specs.Positions.{frames_in}
use Rattle.emit_stmts.proofs.leaving.is_labelled.Given as goal

abbrev pub invariant-loop-frame : goal.invariant-loop-frame
invariant-loop-frame l = is_labelled (text_at l.texts l.atom) (frames_in l.texts (drop l.frame-index l.frames)) ≡ is_labelled (text_at l.texts l.atom) (frames_in l.texts l.frames)
