use Rattle.code_check.specs.NoteIndex.{head_of}
use Rattle.code_check.proofs.Catches.{TakesTo}
use Rattle.code_check.proofs.Rows.{rank}
use Rattle.code_check.proofs.survey.Survey.catch_at.Given as goal

abbrev pub invariant-loop-note : goal.invariant-loop-note
invariant-loop-note l = TakesTo l.notes l.starts l.node l.depth l.initial.self l.initial.index l.self l.index

abbrev pub decreases-loop-note : goal.decreases-loop-note
decreases-loop-note l = rank (head_of l.index l.node)
