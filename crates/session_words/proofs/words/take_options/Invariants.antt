use Rattle.std.proofs.Common.{◌≡◌, length, map}
use Rattle.std.specs.Prelude.{string_bytes}
use Rattle.session_words.specs.Chosen.{given}
use Rattle.session_words.specs.Words.{take_options, nothing_given}
use Rattle.session_words.proofs.words.take_options.Given as goal

abbrev pub invariant-loop-word : goal.invariant-loop-word
invariant-loop-word l = take_options (given l.choices) (map string_bytes l.rest) ≡ take_options nothing_given (map string_bytes l.words)

abbrev pub decreases-loop-word : goal.decreases-loop-word
decreases-loop-word l = length l.rest
