use Rattle.std.proofs.Common.{◌∙◌, ap}
use Rattle.script_grammar.specs.Interpretation.{named}
use Rattle.script_grammar.specs.Tree as model
use Rattle.parse_handlers.proofs.KeptShown.{if_ok}
use Rattle.parse_handlers.proofs.full.FullHandler.make_label.Goals as goal

pub returns : goal.returns
returns c = λ i b h. if_ok c.label.result (λ made p. p i ∙ ap (model.Label (named i c.args.name)) h) c.label.ensures
