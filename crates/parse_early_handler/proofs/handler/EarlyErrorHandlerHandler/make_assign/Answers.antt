use Rattle.std.proofs.Common.{append_assoc, refl, sym}
use Rattle.script_grammar.specs.Tree as model
use Rattle.parse_track.specs.Notes.{notes_expr, target_error}
use Rattle.parse_early_handler.proofs.Expressions.{expr-first}
use Rattle.parse_early_handler.proofs.Made.{other-made}
use Rattle.parse_early_handler.proofs.Parting.{first-as, same-first, then-first}
use Rattle.parse_early_handler.proofs.Targets.{target-first}
use Rattle.parse_early_handler.proofs.handler.EarlyErrorHandlerHandler.make_assign.Goals as goal

pub returns : goal.returns
returns c = λ i t v h q. other-made i c.other.result (model.Assign c.args._op t v) _ _ c.other.ensures refl (λ e k. (first-as (λ xs. xs) (sym (append_assoc (target_error t) (notes_expr t) (notes_expr v))) (same-first c.sooner-first.ensures (then-first (same-first c.target_first-assigned.ensures (target-first c.args.target t (h.holds e k))) (expr-first i e k c.args.value v q))), (h.holds e k).start))
