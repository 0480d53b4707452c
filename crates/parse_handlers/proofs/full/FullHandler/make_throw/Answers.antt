use Rattle.std.proofs.Common.{◌∙◌, ap}
use Rattle.script_grammar.specs.Tree as model
use Rattle.parse_handlers.proofs.full.FullHandler.make_throw.Goals as goal

pub returns : goal.returns
returns c = λ i t h. c.throw.ensures i ∙ ap (λ x. model.Throw x c.args.semi) h
