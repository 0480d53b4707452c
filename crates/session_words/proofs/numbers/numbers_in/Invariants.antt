use Rattle.std.proofs.Common.{◌≡◌, ◌++◌, length, option_map}
use Rattle.session_words.specs.Numbers.{each_number, numbers_in, pieces}
use Rattle.session_words.proofs.numbers.numbers_in.Given as goal

-- the numbers that were read, and those of the pieces that are left
abbrev pub invariant-loop-numbers : goal.invariant-loop-numbers
invariant-loop-numbers l = option_map (λ ns. l.numbers.items ++ ns) (each_number 1 16777215 (pieces l.rest)) ≡ numbers_in 1 16777215 l.word

abbrev pub decreases-loop-numbers : goal.decreases-loop-numbers
decreases-loop-numbers l = length l.rest
