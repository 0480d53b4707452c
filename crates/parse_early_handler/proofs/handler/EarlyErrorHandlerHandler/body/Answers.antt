use Rattle.std.proofs.Common.{ap, ◌∙◌}
use Rattle.parse_track.specs.EarlyErrors.{error_of}
use Rattle.parse_early_handler.specs.Firsts.{strict_first}
use Rattle.parse_early_handler.proofs.Parting.{same-first}
use Rattle.parse_early_handler.proofs.Statements.{stmts-first, strict-first}
use Rattle.parse_early_handler.proofs.handler.EarlyErrorHandlerHandler.body.Goals as goal

pub returns : goal.returns
returns c = λ i ss h. record {
  holds = λ e k. record {
    first = (same-first c.first_early.ensures (stmts-first i e k c.args.items.items ss h)).is;
    strict = ap (λ o. error_of 14 o) (c.first_strict-strict.ensures ∙ ap strict_first c.deref.ensures.value) ∙ (strict-first i e k c.args.items.items ss h).is;
  };
}
