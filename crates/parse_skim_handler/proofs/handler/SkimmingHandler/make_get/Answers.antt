use Rattle.std.proofs.Common.{false, refl}
use Rattle.script_grammar.specs.Tree as model
use Rattle.parse_skim_handler.proofs.Made.{prop-made}
use Rattle.parse_skim_handler.proofs.Meanings.{adds-then, begun}
use Rattle.parse_skim_handler.proofs.Standing.{then-stands}
use Rattle.parse_skim_handler.proofs.StandingFunctions.{function-stands}
use Rattle.parse_skim_handler.proofs.StandingParts.{key-stands}
use Rattle.parse_skim_handler.proofs.handler.SkimmingHandler.make_get.Goals as goal

pub returns : goal.returns
returns c = λ i k f h q. prop-made i c.in_ok-node.node (model.Get k f) _ c.in_ok-node.ensures (begun i (c.nothing.ensures i) (adds-then i (c.in_ok-named.ensures i) (c.in_ok-kept.ensures i))) (then-stands i (key-stands i c.args.key k h) (function-stands i false c.args.func f q)) (λ e w. refl)
