use Rattle.std.proofs.Common.{◌∙◌, ap, option_map}
use Rattle.script_grammar.specs.Tree as model
use Rattle.script_grammar.specs.TreeLists.{maybe_args_of}
use Rattle.script_grammar.specs.TreeOf.{args_of}
use Rattle.script_grammar.specs.Shows.{ShowArgs}
use Rattle.parse_handlers.specs.Kept.{IsExpr, kept_args}
use Rattle.parse_handlers.proofs.KeptShown.{if_ok, maybe_shown, args_shown}
use Rattle.parse_handlers.proofs.full.FullHandler.make_new.Goals as goal

pub returns : goal.returns
returns c = λ i t a h g. if_ok c.new_expr.result (λ made p. p i ∙ ap (λ x. model.New c.args.at x (maybe_args_of (option_map (args_of i) c.maybe_args.result))) h ∙ ap (λ x. model.New c.args.at t (maybe_args_of x)) (c.maybe_args.ensures i ∙ maybe_shown (ShowArgs (IsExpr i)) (kept_args i) (args_shown i) c.args.args a g)) c.new_expr.ensures
