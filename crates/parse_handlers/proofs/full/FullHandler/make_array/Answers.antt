use Rattle.std.proofs.Common.{◌∙◌, ap, option_map}
use Rattle.script_grammar.specs.Tree as model
use Rattle.script_grammar.specs.TreeLists.{items_of}
use Rattle.script_grammar.specs.TreeOf.{expr_of}
use Rattle.script_grammar.specs.Shows.{ShowMaybe}
use Rattle.parse_handlers.specs.Kept.{IsExpr}
use Rattle.parse_handlers.proofs.KeptLists.{map-shown}
use Rattle.parse_handlers.proofs.KeptShown.{maybe_shown}
use Rattle.parse_handlers.proofs.full.FullHandler.make_array.Goals as goal

pub returns : goal.returns
returns c = λ i ts h. c.array.ensures i ∙ ap (λ xs. model.Array c.args.at (items_of xs) c.args.comma) (map-shown (ShowMaybe (IsExpr i)) (option_map (expr_of i)) (maybe_shown (IsExpr i) (expr_of i) (λ e x p. p)) c.args.items.items ts h)
