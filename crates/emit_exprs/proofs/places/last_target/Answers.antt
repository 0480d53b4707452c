use Rattle.std.proofs.Common.{◌∙◌}
use Rattle.script_grammar.specs.TreeOf.{tail_of}
use Rattle.emit_exprs.proofs.LastTail.{last_at}
use Rattle.emit_exprs.proofs.places.last_target.Goals as goal

pub returns-in-Some : goal.returns-in-Some
returns-in-Some c i = c.tail_target.ensures i ∙ last_at (tail_of i) c.args.tails.now c.in-Some.tail.now c.in-Some.ensures.value
