use Rattle.std.proofs.Common.{◌≡◌, length}
use Rattle.session_words.specs.Numbers.{all_digits}
use Rattle.session_words.proofs.numbers.all_digits.Given as goal

abbrev pub invariant-loop-byte : goal.invariant-loop-byte
invariant-loop-byte l = all_digits l.word ≡ all_digits l.fn.word

abbrev pub decreases-loop-byte : goal.decreases-loop-byte
decreases-loop-byte l = length l.word
