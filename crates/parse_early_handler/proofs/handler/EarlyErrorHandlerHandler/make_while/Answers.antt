use Rattle.std.proofs.Common.{refl}
use Rattle.script_grammar.specs.Tree as model
use Rattle.parse_early_handler.proofs.Expressions.{expr-first}
use Rattle.parse_early_handler.proofs.Made.{plain-made}
use Rattle.parse_early_handler.proofs.Parting.{same-first, then-first}
use Rattle.parse_early_handler.proofs.Statements.{stmt-first}
use Rattle.parse_early_handler.proofs.handler.EarlyErrorHandlerHandler.make_while.Goals as goal

pub returns : goal.returns
returns c = λ i t b h q. plain-made i c.plain.result (model.While t b) _ c.plain.ensures refl (λ e k. same-first c.sooner-first.ensures (then-first (expr-first i e k c.args.test t h) (stmt-first i e k c.args.body b q)))
