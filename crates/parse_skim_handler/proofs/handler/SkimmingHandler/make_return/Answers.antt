use Rattle.std.proofs.Common.{false, refl}
use Rattle.script_grammar.specs.Tree as model
use Rattle.script_grammar.specs.TreeLists.{maybe_expr_of}
use Rattle.parse_skim_handler.proofs.Made.{stmt-made}
use Rattle.parse_skim_handler.proofs.Meanings.{begun}
use Rattle.parse_skim_handler.proofs.StandingParts.{maybe_expr-stands}
use Rattle.parse_skim_handler.proofs.handler.SkimmingHandler.make_return.Goals as goal

pub returns : goal.returns
returns c = λ i t h. stmt-made i c.in_ok-node.node (model.Return (maybe_expr_of t) c.args._semi) false c.in_ok-node.ensures refl refl (begun i (c.nothing.ensures i) (c.in_ok-kept.ensures i)) (λ top. maybe_expr-stands i c.args.value t h)
