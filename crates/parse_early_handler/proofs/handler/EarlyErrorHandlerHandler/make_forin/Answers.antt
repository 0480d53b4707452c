use Rattle.std.proofs.Common.{refl}
use Rattle.script_grammar.specs.Tree as model
use Rattle.parse_early_handler.proofs.Expressions.{expr-first}
use Rattle.parse_early_handler.proofs.Made.{plain-made}
use Rattle.parse_early_handler.proofs.Parting.{same-first, then-first}
use Rattle.parse_early_handler.proofs.Statements.{each-first, stmt-first}
use Rattle.parse_early_handler.proofs.handler.EarlyErrorHandlerHandler.make_forin.Goals as goal

pub returns : goal.returns
returns c = λ i n t b h q r. plain-made i c.plain.result (model.ForIn n t b) _ c.plain.ensures refl (λ e k. same-first c.sooner-first.ensures (then-first (same-first c.first_early.ensures (each-first i e k c.args.each n h)) (same-first c.sooner-rest.ensures (then-first (expr-first i e k c.args.over t q) (stmt-first i e k c.args.body b r)))))
