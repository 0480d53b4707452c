use Rattle.std.proofs.Common.{◌≡◌, true, take}
use Rattle.session_words.proofs.NumberLemmas.{is_piece}
use Rattle.session_words.proofs.numbers.cut.Given as goal

abbrev pub invariant-loop-i : goal.invariant-loop-i
invariant-loop-i l = is_piece (take l.i l.word) ≡ true
