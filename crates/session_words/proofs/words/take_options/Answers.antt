use Rattle.std.proofs.Common.{arith, map}
use Rattle.std.specs.Prelude.{string_bytes}
use Rattle.std.proofs.lemmas.Grind.{common_steps}
use Rattle.session_words.specs.Chosen.{given}
use Rattle.session_words.specs.Words.{nothing_given}
use Rattle.session_words.proofs.OptionLemmas.{option_taken}
use Rattle.session_words.proofs.words.take_options.Goals as goal

pub loop-word-preserved : goal.loop-word-preserved
loop-word-preserved c =
    option_taken (given c.loop-word.choices) (given c.in-Some-2.more) nothing_given (string_bytes c.in-Some.word.now) (string_bytes c.in-Some-split_first.value.now)
    (map string_bytes c.loop-word.rest.now) (map string_bytes c.in-Some-split_first.further.now) (map string_bytes c.args.words.now)
    (grind (arith, common_steps)) (grind (arith, common_steps)) (grind (arith, common_steps)) c.loop-word.invariant
