use Rattle.std.proofs.Common.{refl}
use Rattle.script_grammar.specs.Tree as model
use Rattle.parse_early_handler.proofs.Functions.{function-first}
use Rattle.parse_early_handler.proofs.Made.{plain-made}
use Rattle.parse_early_handler.proofs.Parting.{same-first}
use Rattle.parse_early_handler.proofs.handler.EarlyErrorHandlerHandler.make_declared.Goals as goal

pub returns : goal.returns
returns c = λ i f h. plain-made i c.plain.result (model.Declared f) _ c.plain.ensures refl (λ e k. same-first c.first_early.ensures (function-first i e k c.args.func f h))
