use Rattle.std.proofs.Common.{rules}
use Rattle.code_check.specs.NoteIndex.{HoldsBack}
use Rattle.code_check.proofs.Catches.{none_taken, takes_all, takes_blocked, takes_more, takes_smaller}
use Rattle.code_check.proofs.Stops.{handed}
use Rattle.code_check.proofs.survey.Survey.catch_at.Goals as goal

pub loop-note-preserved : goal.loop-note-preserved
loop-note-preserved c = takes_more c.args.notes.now c.args.starts.now c.args.node c.args.depth c.args.self.now c.args.index.now c.loop-note.self c.loop-note.index c.take.new.self c.in-Some.note c.requires.node c.loop-note.invariant c.in-Some.ensures.some c.from.result (search rules) c.arrive.new.self c.in_ok-arrive.ensures.ok

pub loop-note-smaller : goal.loop-note-smaller
loop-note-smaller c = takes_smaller c.args.notes.now c.args.starts.now c.args.node c.args.depth c.args.self.now c.args.index.now c.loop-note.self c.loop-note.index c.take.new.self c.in-Some.note c.requires.node c.loop-note.invariant c.in-Some.ensures.some c.requires.linked

pub returns-in_err-arrive-clause-err : goal.returns-in_err-arrive-clause-err
returns-in_err-arrive-clause-err c =
    handed c.from_residual.result c.in_err-arrive.field-0.0 c.from_residual.ensures.1
    (takes_blocked c.args.notes.now c.args.starts.now c.args.node c.args.depth c.args.self.now c.args.index.now c.loop-note.self c.loop-note.index c.take.new.self c.in-Some.note c.requires.node c.loop-note.invariant c.in-Some.ensures.some c.from.result (search rules))
    c.in_err-arrive.ensures.err

pub returns-clause-ok : goal.returns-clause-ok
returns-clause-ok c =
    takes_all c.args.notes.now c.args.starts.now c.args.node c.args.depth c.args.self.now c.args.index.now c.loop-note.self c.loop-note.index c.take.new.self c.loop-note.invariant
    (none_taken c.take.result (HoldsBack c.args.notes.now c.args.node c.args.depth c.loop-note.index c.take.new.self) c.in_default.not-Some c.take.ensures.none)
