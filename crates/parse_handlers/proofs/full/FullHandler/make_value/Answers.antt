use Rattle.std.proofs.Common.{◌∙◌, ap}
use Rattle.script_grammar.specs.Tree as model
use Rattle.parse_handlers.proofs.full.FullHandler.make_value.Goals as goal

pub returns : goal.returns
returns c = λ i t h. c.value.ensures i ∙ ap (λ x. model.Value x c.args.semi) h
