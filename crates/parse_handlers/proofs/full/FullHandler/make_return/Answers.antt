use Rattle.std.proofs.Common.{◌∙◌, ap}
use Rattle.script_grammar.specs.Tree as model
use Rattle.script_grammar.specs.TreeLists.{maybe_expr_of}
use Rattle.script_grammar.specs.TreeOf.{expr_of}
use Rattle.parse_handlers.specs.Kept.{IsExpr}
use Rattle.parse_handlers.proofs.KeptShown.{maybe_shown}
use Rattle.parse_handlers.proofs.full.FullHandler.make_return.Goals as goal

pub returns : goal.returns
returns c = λ i t h. c.return_stmt.ensures i ∙ ap (λ x. model.Return (maybe_expr_of x) c.args.semi) (maybe_shown (IsExpr i) (expr_of i) (λ e x p. p) c.args.value t h)
