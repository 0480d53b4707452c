use Rattle.stencil_data.specs.declared.stencils.TryNote.{TryNote}
use Rattle.code_check.proofs.Spreading.{holds_none, holds_more, holds_all}
use Rattle.code_check.proofs.note_index.NoteIndex.new.Goals as goal

abbrev blank : TryNote
blank = record { start = 0; end = 0; depth = 0 }

pub loop-left-init : goal.loop-left-init
loop-left-init c = holds_none c.args.notes.now c.args.size c.in_ok-index.index c.in_ok-index.ensures

pub loop-left-preserved : goal.loop-left-preserved
loop-left-preserved c = holds_more c.args.notes.now c.args.size c.loop-left.left c.loop-left.index c.insert.new.self blank c.loop-left-test.true c.requires.sorted c.loop-left.invariant c.in_ok-insert.ensures

pub returns : goal.returns
returns c = holds_all c.args.notes.now c.args.size c.loop-left.left c.loop-left.index c.loop-left-test.false c.loop-left.invariant
