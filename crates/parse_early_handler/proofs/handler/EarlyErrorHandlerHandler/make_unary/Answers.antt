use Rattle.std.proofs.Common.{ap, refl, ◌∙◌}
use Rattle.script_grammar.specs.Tree as model
use Rattle.parse_track.specs.Notes.{error_if, first_note}
use Rattle.parse_early_handler.proofs.Expressions.{expr-first}
use Rattle.parse_early_handler.proofs.Made.{other-made}
use Rattle.parse_early_handler.proofs.Parting.{same-first, then-first}
use Rattle.parse_early_handler.proofs.Targets.{delete-first}
use Rattle.parse_early_handler.proofs.handler.EarlyErrorHandlerHandler.make_unary.Goals as goal

pub returns : goal.returns
returns c = λ i t h. other-made i c.other.result (model.Unary c.args.at c.args.op t c.args.is_word) _ _ c.other.ensures refl (λ e k. (same-first c.sooner-first.ensures (then-first (delete-first c.args.at c.args.op c.args.is_word c.args.of t c.error_if-wrong.result (h.holds e k) (c.error_if-wrong.ensures ∙ ap (λ b. first_note (error_if b 10 c.args.at)) c.deletes_name.ensures)) (expr-first i e k c.args.of t h)), refl))
