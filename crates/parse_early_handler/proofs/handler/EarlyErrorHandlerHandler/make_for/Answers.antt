use Rattle.std.proofs.Common.{refl}
use Rattle.script_grammar.specs.Tree as model
use Rattle.script_grammar.specs.TreeLists.{maybe_expr_of}
use Rattle.parse_early_handler.proofs.Expressions.{maybe_expr-first}
use Rattle.parse_early_handler.proofs.Made.{plain-made}
use Rattle.parse_early_handler.proofs.Parting.{same-first, then-first}
use Rattle.parse_early_handler.proofs.Statements.{init-first, stmt-first}
use Rattle.parse_early_handler.proofs.handler.EarlyErrorHandlerHandler.make_for.Goals as goal

pub returns : goal.returns
returns c = λ i n t u b h q r w. plain-made i c.plain.result (model.For n (maybe_expr_of t) (maybe_expr_of u) b) _ c.plain.ensures refl (λ e k. same-first c.sooner-first.ensures (then-first (same-first c.first_early-begun.ensures (init-first i e k c.args.init n h)) (same-first c.sooner-rest.ensures (then-first (same-first c.first_early-tested.ensures (maybe_expr-first i e k c.args.test t q)) (same-first c.sooner-turn.ensures (then-first (same-first c.first_early-updated.ensures (maybe_expr-first i e k c.args.update u r)) (stmt-first i e k c.args.body b w)))))))
