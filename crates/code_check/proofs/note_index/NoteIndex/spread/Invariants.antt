use Rattle.code_check.proofs.Spreading.{SpreadsTo}
use Rattle.code_check.proofs.note_index.NoteIndex.spread.Given as goal

abbrev pub invariant-loop-low : goal.invariant-loop-low
invariant-loop-low l = SpreadsTo l.number l.low-2 l.high-2 l.initial.self l.low l.high l.self

abbrev pub decreases-loop-low : goal.decreases-loop-low
decreases-loop-low l = l.high
