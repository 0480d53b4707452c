use Rattle.std.proofs.Common.{◌∙◌, ap, option_map}
use Rattle.script_grammar.specs.Tree as model
use Rattle.script_grammar.specs.TreeLists.{maybe_expr_of}
use Rattle.script_grammar.specs.TreeOf.{expr_of, stmt_of}
use Rattle.parse_handlers.specs.Kept.{IsExpr}
use Rattle.parse_handlers.proofs.KeptShown.{if_ok, maybe_shown, init_shown}
use Rattle.parse_handlers.proofs.full.FullHandler.make_for.Goals as goal

pub returns : goal.returns
returns c = λ i n t u b h g k l. if_ok c.for_stmt.result (λ made p. p i ∙ ap (λ x. model.For x (maybe_expr_of (option_map (expr_of i) c.args.test)) (maybe_expr_of (option_map (expr_of i) c.args.update)) (stmt_of i c.args.body)) (c.in_ok-init.ensures i ∙ init_shown i c.args.init n h) ∙ ap (λ x. model.For n (maybe_expr_of x) (maybe_expr_of (option_map (expr_of i) c.args.update)) (stmt_of i c.args.body)) (maybe_shown (IsExpr i) (expr_of i) (λ e x p. p) c.args.test t g) ∙ ap (λ x. model.For n (maybe_expr_of t) (maybe_expr_of x) (stmt_of i c.args.body)) (maybe_shown (IsExpr i) (expr_of i) (λ e x p. p) c.args.update u k) ∙ ap (model.For n (maybe_expr_of t) (maybe_expr_of u)) l) c.for_stmt.ensures
