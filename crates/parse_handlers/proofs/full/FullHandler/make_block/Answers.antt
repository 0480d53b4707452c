use Rattle.std.proofs.Common.{◌∙◌, ap}
use Rattle.script_grammar.specs.Tree as model
use Rattle.script_grammar.specs.TreeLists.{stmts_of}
use Rattle.parse_handlers.proofs.KeptShown.{stmts_shown}
use Rattle.parse_handlers.proofs.full.FullHandler.make_block.Goals as goal

pub returns : goal.returns
returns c = λ i ss h. c.block.ensures i ∙ ap (λ xs. model.Block (stmts_of xs)) (stmts_shown i c.args.items.items ss h)
