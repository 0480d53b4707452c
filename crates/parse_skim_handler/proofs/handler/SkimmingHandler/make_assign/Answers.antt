use Rattle.std.proofs.Common.{refl}
use Rattle.script_grammar.specs.Tree as model
use Rattle.parse_skim_handler.proofs.Made.{assign-stands, expr-made}
use Rattle.parse_skim_handler.proofs.Meanings.{from}
use Rattle.parse_skim_handler.proofs.Standing.{then-stands}
use Rattle.parse_skim_handler.proofs.StandingParts.{target-stands}
use Rattle.parse_skim_handler.proofs.handler.SkimmingHandler.make_assign.Goals as goal

pub returns : goal.returns
returns c = λ i t v h q. expr-made i c.in_ok-node.node (model.Assign c.args._op t v) _ _ c.in_ok-node.ensures (from i (c.of_target.ensures i) (c.in_ok-kept.ensures i)) (assign-stands i c.args._op t v (then-stands i (target-stands i c.args.target t h) q.stands)) (λ e k. ((h.errors.holds e k).start, refl))
