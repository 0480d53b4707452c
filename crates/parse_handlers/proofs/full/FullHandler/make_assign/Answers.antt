use Rattle.std.proofs.Common.{◌∙◌, ap}
use Rattle.script_grammar.specs.Tree as model
use Rattle.script_grammar.specs.TreeOf.{expr_of}
use Rattle.parse_handlers.proofs.KeptShown.{if_ok}
use Rattle.parse_handlers.proofs.full.FullHandler.make_assign.Goals as goal

pub returns : goal.returns
returns c = λ i t v h g. if_ok c.assign.result (λ made p. p i ∙ ap (λ x. model.Assign c.args.op x (expr_of i c.args.value)) h ∙ ap (model.Assign c.args.op t) g) c.assign.ensures
