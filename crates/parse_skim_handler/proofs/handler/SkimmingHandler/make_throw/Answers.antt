use Rattle.std.proofs.Common.{false, refl}
use Rattle.script_grammar.specs.Tree as model
use Rattle.parse_skim_handler.proofs.Made.{stmt-made}
use Rattle.parse_skim_handler.proofs.handler.SkimmingHandler.make_throw.Goals as goal

pub returns : goal.returns
returns c = λ i t h. stmt-made i c.in_ok-node.node (model.Throw t c.args._semi) false c.in_ok-node.ensures refl refl (c.of_expr.ensures i) (λ top. h.stands)
