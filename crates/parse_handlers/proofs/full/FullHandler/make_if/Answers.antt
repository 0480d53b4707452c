use Rattle.std.proofs.Common.{◌∙◌, ap, option_map}
use Rattle.script_grammar.specs.Tree as model
use Rattle.script_grammar.specs.TreeLists.{maybe_stmt_of}
use Rattle.script_grammar.specs.TreeOf.{stmt_of}
use Rattle.parse_handlers.specs.Kept.{IsStmt}
use Rattle.parse_handlers.proofs.KeptShown.{if_ok, maybe_shown}
use Rattle.parse_handlers.proofs.full.FullHandler.make_if.Goals as goal

pub returns : goal.returns
returns c = λ i t u v h g k. if_ok c.if_stmt.result (λ made p. p i ∙ ap (λ x. model.If x (stmt_of i c.args.yes) (maybe_stmt_of (option_map (stmt_of i) c.args.no))) h ∙ ap (λ x. model.If t x (maybe_stmt_of (option_map (stmt_of i) c.args.no))) g ∙ ap (λ x. model.If t u (maybe_stmt_of x)) (maybe_shown (IsStmt i) (stmt_of i) (λ e x p. p) c.args.no v k)) c.if_stmt.ensures
