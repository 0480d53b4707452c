use Rattle.std.proofs.Common.{refl}
use Rattle.script_grammar.specs.Tree.{Empty}
use Rattle.parse_exprs.proofs.Steps.{just}
use Rattle.parse_bodies.proofs.words.empty.Goals as goal

pub returns : goal.returns
returns g c = λ i s. (Empty, c.in_ok-node.ensures i, refl, just _ Empty _)
