use Rattle.std.proofs.Common.{◌≡◌, ◌≤◌, true, length}
use Rattle.session_words.specs.Numbers.{all_digits, value, value_behind}
use Rattle.session_words.proofs.numbers.value_within.Given as goal

-- the digits that were read have a value within the limit, and the others stand after it
abbrev pub invariant-loop-byte : goal.invariant-loop-byte
invariant-loop-byte l = (all_digits l.rest ≡ true) × (l.value ≤ l.high) × (value_behind l.value l.rest ≡ value l.digits)

abbrev pub decreases-loop-byte : goal.decreases-loop-byte
decreases-loop-byte l = length l.rest
