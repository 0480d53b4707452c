use Rattle.std.proofs.Common.{◌∙◌, ap}
use Rattle.script_grammar.specs.Tree as model
use Rattle.script_grammar.specs.TreeOf.{func_of}
use Rattle.parse_handlers.proofs.KeptShown.{if_ok, key_shown, func_shown}
use Rattle.parse_handlers.proofs.full.FullHandler.make_get.Goals as goal

pub returns : goal.returns
returns c = λ i k f h g. if_ok c.getter.result (λ made p. p i ∙ ap (λ x. model.Get x (func_of i c.in_ok-func.func)) (c.key.ensures i ∙ key_shown i c.args.key k h) ∙ ap (model.Get k) (c.in_ok-func.ensures i ∙ func_shown i c.args.func f g)) c.getter.ensures
