use Rattle.std.proofs.Common.{ap, ◌∙◌}
use Rattle.parse_early_handler.specs.Firsts.{end_in_property}
use Rattle.parse_early_handler.specs.HasErrors.{HasErrorsExpr}
use Rattle.parse_early_handler.specs.Shapes.{chain_shape}
use Rattle.parse_early_handler.proofs.Expressions.{expr-first, last-property, tails-first}
use Rattle.parse_early_handler.proofs.Parting.{same-first, then-first}
use Rattle.parse_early_handler.proofs.handler.EarlyErrorHandlerHandler.make_chain.Goals as goal

pub returns : goal.returns
returns c = λ i t ts h q. record {
  holds = λ e k. record {
    first = (same-first c.sooner-first.ensures (then-first (expr-first i e k c.args.head t h) (same-first c.first_early.ensures (tails-first i e k c.args.tails.items ts q)))).is;
    start = (h.holds e k).start;
    shape = c.of_chain-shape.ensures ∙ ap chain_shape (c.end_in_property-property.ensures ∙ (ap end_in_property c.deref.ensures.value ∙ last-property i (HasErrorsExpr i) c.args.tails.items ts q));
  };
}
