use Rattle.std.proofs.Common.{◌∙◌, ap}
use Rattle.script_grammar.specs.Tree as model
use Rattle.script_grammar.specs.TreeOf.{func_of}
use Rattle.parse_handlers.proofs.KeptShown.{if_ok, key_shown, func_shown}
use Rattle.parse_handlers.proofs.full.FullHandler.make_method.Goals as goal

pub returns : goal.returns
returns c = λ i k f h g. if_ok c.method.result (λ made p. p i ∙ ap (λ x. model.Method x (func_of i c.in_ok-func.func)) (c.key.ensures i ∙ key_shown i c.args.key k h) ∙ ap (model.Method k) (c.in_ok-func.ensures i ∙ func_shown i c.args.func f g)) c.method.ensures
