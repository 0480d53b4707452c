use Rattle.std.proofs.Common.{◌∙◌}
use Rattle.script_grammar.specs.Tree as model
use Rattle.parse_early_handler.proofs.Properties.{key-proto}
use Rattle.parse_skim_handler.specs.Skims.{SkimsExpr}
use Rattle.parse_skim_handler.proofs.Made.{prop-made}
use Rattle.parse_skim_handler.proofs.Meanings.{adds-then, begun}
use Rattle.parse_skim_handler.proofs.Standing.{then-stands}
use Rattle.parse_skim_handler.proofs.StandingParts.{key-stands}
use Rattle.parse_skim_handler.proofs.handler.SkimmingHandler.make_pair.Goals as goal

pub returns : goal.returns
returns c = λ i k v h q. prop-made i c.in_ok-node.node (model.Pair k v) _ c.in_ok-node.ensures (begun i (c.nothing.ensures i) (adds-then i (c.in_ok-named.ensures i) (c.in_ok-kept.ensures i))) (then-stands i (key-stands i c.args.key k h) q.stands) (λ e w. c.proto_key-proto.ensures i w ∙ key-proto i (SkimsExpr i) c.args.key k h)
