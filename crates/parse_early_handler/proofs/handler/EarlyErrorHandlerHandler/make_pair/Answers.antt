use Rattle.std.proofs.Common.{◌∙◌}
use Rattle.parse_early_handler.specs.HasErrors.{HasErrorsExpr}
use Rattle.parse_early_handler.proofs.Expressions.{expr-first}
use Rattle.parse_early_handler.proofs.Parting.{same-first, then-first}
use Rattle.parse_early_handler.proofs.Properties.{key-first, key-proto}
use Rattle.parse_early_handler.proofs.handler.EarlyErrorHandlerHandler.make_pair.Goals as goal

pub returns : goal.returns
returns c = λ i t v h q. record {
  holds = λ e k. record {
    first = (same-first c.sooner-first.ensures (then-first (same-first c.first_early.ensures (key-first i e k c.args.key t h)) (expr-first i e k c.args.value v q))).is;
    proto = c.proto_key.ensures i k ∙ key-proto i (HasErrorsExpr i) c.args.key t h;
  };
}
