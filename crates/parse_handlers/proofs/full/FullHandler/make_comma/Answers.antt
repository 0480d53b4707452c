use Rattle.std.proofs.Common.{◌∙◌, ap}
use Rattle.script_grammar.specs.Tree as model
use Rattle.script_grammar.specs.TreeLists.{exprs_of}
use Rattle.parse_handlers.proofs.KeptShown.{exprs_shown}
use Rattle.parse_handlers.proofs.full.FullHandler.make_comma.Goals as goal

pub returns : goal.returns
returns c = λ i ts h. c.comma.ensures i ∙ ap (λ xs. model.Comma (exprs_of xs)) (exprs_shown i c.args.items.items ts h)
