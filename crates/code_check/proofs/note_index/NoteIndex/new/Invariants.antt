use Rattle.code_check.proofs.Spreading.{HoldsFrom}
use Rattle.code_check.proofs.note_index.NoteIndex.new.Given as goal

abbrev pub invariant-loop-left : goal.invariant-loop-left
invariant-loop-left l = HoldsFrom l.notes l.size l.left l.index

abbrev pub decreases-loop-left : goal.decreases-loop-left
decreases-loop-left l = l.left
