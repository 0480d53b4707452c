use Rattle.std.proofs.Common.{arith, ◌+◌, ◌*◌, ◌-◌}
use Rattle.std.proofs.lemmas.Grind.{common_steps}
use Rattle.session_words.proofs.NumberLemmas.{too_large}
use Rattle.session_words.proofs.numbers.value_within.Goals as goal

pub returns-then-value-high : goal.returns-then-value-high
returns-then-value-high c = too_large (c.loop-byte.value * 10 + (c.in-Some.byte.now - 48)) c.args.high c.args.digits.now c.in-Some.behind.now c.if-value-high.true (grind (arith, common_steps))
