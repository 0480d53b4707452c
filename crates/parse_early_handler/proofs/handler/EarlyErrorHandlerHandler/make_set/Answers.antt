use Rattle.std.proofs.Common.{refl}
use Rattle.script_grammar.specs.Tree as model
use Rattle.parse_early_handler.proofs.Functions.{function-first}
use Rattle.parse_early_handler.proofs.Made.{prop-made}
use Rattle.parse_early_handler.proofs.Parting.{then-first}
use Rattle.parse_early_handler.proofs.Properties.{key-first}
use Rattle.parse_early_handler.proofs.handler.EarlyErrorHandlerHandler.make_set.Goals as goal

pub returns : goal.returns
returns c = λ i t f h q. prop-made i c.method.result (model.Set t f) _ c.method.ensures refl (λ e k. then-first (key-first i e k c.args.key t h) (function-first i e k c.args.func f q))
