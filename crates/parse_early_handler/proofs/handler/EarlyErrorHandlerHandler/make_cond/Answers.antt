use Rattle.std.proofs.Common.{refl}
use Rattle.script_grammar.specs.Tree as model
use Rattle.parse_early_handler.proofs.Expressions.{expr-first}
use Rattle.parse_early_handler.proofs.Made.{other-made}
use Rattle.parse_early_handler.proofs.Parting.{same-first, then-first}
use Rattle.parse_early_handler.proofs.handler.EarlyErrorHandlerHandler.make_cond.Goals as goal

pub returns : goal.returns
returns c = λ i t u v h q r. other-made i c.other.result (model.Cond t u v) _ _ c.other.ensures refl (λ e k. (same-first c.sooner-first.ensures (then-first (expr-first i e k c.args.test t h) (same-first c.sooner-branches.ensures (then-first (expr-first i e k c.args.yes u q) (expr-first i e k c.args.no v r)))), (h.holds e k).start))
