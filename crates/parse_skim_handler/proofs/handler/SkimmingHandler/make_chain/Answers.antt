use Rattle.std.proofs.Common.{ap, ◌∙◌}
use Rattle.script_grammar.specs.Tree as model
use Rattle.script_grammar.specs.TreeLists.{tails_of}
use Rattle.parse_early_handler.specs.Firsts.{end_in_property}
use Rattle.parse_early_handler.specs.Shapes.{chain_shape}
use Rattle.parse_early_handler.proofs.Expressions.{last-property}
use Rattle.parse_skim_handler.specs.Skims.{SkimsExpr}
use Rattle.parse_skim_handler.proofs.Made.{expr-made}
use Rattle.parse_skim_handler.proofs.Meanings.{from}
use Rattle.parse_skim_handler.proofs.Standing.{then-stands}
use Rattle.parse_skim_handler.proofs.StandingParts.{tails-stand}
use Rattle.parse_skim_handler.proofs.handler.SkimmingHandler.make_chain.Goals as goal

pub returns : goal.returns
returns c = λ i t ts h q.
    let property = c.end_in_property-property.ensures ∙ (ap end_in_property c.deref.ensures.value ∙ last-property i (SkimsExpr i) c.args.tails.items ts q) in
    expr-made i c.in_ok-node.node (model.Chain t (tails_of ts)) _ _ c.in_ok-node.ensures (from i (c.of_expr.ensures i) (c.in_ok-kept.ensures i)) (then-stands i h.stands (tails-stand i c.args.tails.items ts q)) (λ e k. ((h.errors.holds e k).start, c.of_chain-shape.ensures ∙ ap chain_shape property))
