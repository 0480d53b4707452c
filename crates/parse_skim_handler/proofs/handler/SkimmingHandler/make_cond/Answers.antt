use Rattle.std.proofs.Common.{refl}
use Rattle.script_grammar.specs.Tree as model
use Rattle.parse_skim_handler.proofs.Made.{expr-made}
use Rattle.parse_skim_handler.proofs.Meanings.{adds-then, from}
use Rattle.parse_skim_handler.proofs.Standing.{then-stands}
use Rattle.parse_skim_handler.proofs.handler.SkimmingHandler.make_cond.Goals as goal

pub returns : goal.returns
returns c = λ i t u v h q r. expr-made i c.in_ok-node.node (model.Cond t u v) _ _ c.in_ok-node.ensures (from i (c.of_expr.ensures i) (adds-then i (c.in_ok-chosen.ensures i) (c.in_ok-kept.ensures i))) (then-stands i h.stands (then-stands i q.stands r.stands)) (λ e k. ((h.errors.holds e k).start, refl))
