use Rattle.std.proofs.Common.{false, refl}
use Rattle.script_grammar.specs.Tree as model
use Rattle.parse_skim_handler.proofs.Made.{stmt-made}
use Rattle.parse_skim_handler.proofs.Standing.{nothing-stands}
use Rattle.parse_skim_handler.proofs.handler.SkimmingHandler.make_empty.Goals as goal

pub returns : goal.returns
returns c = λ i. stmt-made i c.in_ok-node.node model.Empty false c.in_ok-node.ensures refl refl (c.nothing.ensures i) (λ top. nothing-stands i)
