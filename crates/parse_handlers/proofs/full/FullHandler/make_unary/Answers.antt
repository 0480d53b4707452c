use Rattle.std.proofs.Common.{◌∙◌, ap}
use Rattle.script_grammar.specs.Tree as model
use Rattle.parse_handlers.proofs.KeptShown.{if_ok}
use Rattle.parse_handlers.proofs.full.FullHandler.make_unary.Goals as goal

pub returns : goal.returns
returns c = λ i t h. if_ok c.unary.result (λ made p. p i ∙ ap (λ x. model.Unary c.args.at c.args.op x c.args.is_word) h) c.unary.ensures
