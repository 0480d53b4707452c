use Rattle.std.proofs.Common.{◌∙◌, ap}
use Rattle.script_grammar.specs.Tree as model
use Rattle.parse_handlers.proofs.KeptShown.{if_ok}
use Rattle.parse_handlers.proofs.full.FullHandler.make_paren.Goals as goal

pub returns : goal.returns
returns c = λ i t h. if_ok c.paren.result (λ made p. p i ∙ ap (model.Paren c.args.at) h) c.paren.ensures
