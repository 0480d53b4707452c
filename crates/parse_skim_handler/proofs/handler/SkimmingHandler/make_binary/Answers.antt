use Rattle.std.proofs.Common.{refl}
use Rattle.script_grammar.specs.Tree as model
use Rattle.script_grammar.specs.TreeLists.{operands_of}
use Rattle.parse_skim_handler.proofs.Made.{expr-made}
use Rattle.parse_skim_handler.proofs.Meanings.{from}
use Rattle.parse_skim_handler.proofs.Standing.{then-stands}
use Rattle.parse_skim_handler.proofs.StandingParts.{operands-stand}
use Rattle.parse_skim_handler.proofs.handler.SkimmingHandler.make_binary.Goals as goal

pub returns : goal.returns
returns c = λ i t os h q. expr-made i c.in_ok-node.node (model.Binary t (operands_of os)) _ _ c.in_ok-node.ensures (from i (c.of_expr.ensures i) (c.in_ok-kept.ensures i)) (then-stands i h.stands (operands-stand i c.args.rest.items os q)) (λ e k. ((h.errors.holds e k).start, refl))
