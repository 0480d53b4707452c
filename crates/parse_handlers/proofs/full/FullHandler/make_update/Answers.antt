use Rattle.std.proofs.Common.{◌∙◌, ap}
use Rattle.script_grammar.specs.Tree as model
use Rattle.parse_handlers.proofs.KeptShown.{if_ok}
use Rattle.parse_handlers.proofs.full.FullHandler.make_update.Goals as goal

pub returns : goal.returns
returns c = λ i t h. if_ok c.update.result (λ made p. p i ∙ ap (model.Update c.args.at c.args.op c.args.prefix) h) c.update.ensures
