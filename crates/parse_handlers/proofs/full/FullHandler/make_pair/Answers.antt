use Rattle.std.proofs.Common.{◌∙◌, ap}
use Rattle.script_grammar.specs.Tree as model
use Rattle.script_grammar.specs.TreeOf.{expr_of}
use Rattle.parse_handlers.proofs.KeptShown.{key_shown}
use Rattle.parse_handlers.proofs.full.FullHandler.make_pair.Goals as goal

pub returns : goal.returns
returns c = λ i k v h g. c.pair.ensures i ∙ ap (λ x. model.Pair x (expr_of i c.args.value)) (c.key.ensures i ∙ key_shown i c.args.key k h) ∙ ap (model.Pair k) g
