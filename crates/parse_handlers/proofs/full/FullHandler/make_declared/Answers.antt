use Rattle.std.proofs.Common.{◌∙◌, ap}
use Rattle.script_grammar.specs.Tree as model
use Rattle.parse_handlers.proofs.KeptShown.{if_ok, func_shown}
use Rattle.parse_handlers.proofs.full.FullHandler.make_declared.Goals as goal

pub returns : goal.returns
returns c = λ i f g. if_ok c.declared.result (λ made p. p i ∙ ap model.Declared (c.in_ok-func.ensures i ∙ func_shown i c.args.func f g)) c.declared.ensures
