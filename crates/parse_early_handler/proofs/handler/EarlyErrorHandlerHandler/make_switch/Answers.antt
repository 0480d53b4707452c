use Rattle.std.proofs.Common.{refl}
use Rattle.script_grammar.specs.Tree as model
use Rattle.script_grammar.specs.TreeLists.{clauses_of}
use Rattle.parse_early_handler.proofs.Expressions.{expr-first}
use Rattle.parse_early_handler.proofs.Made.{plain-made}
use Rattle.parse_early_handler.proofs.Parting.{same-first, then-first}
use Rattle.parse_early_handler.proofs.Statements.{clauses-first}
use Rattle.parse_early_handler.proofs.handler.EarlyErrorHandlerHandler.make_switch.Goals as goal

pub returns : goal.returns
returns c = λ i t cs h q. plain-made i c.plain.result (model.Switch t (clauses_of cs)) _ c.plain.ensures refl (λ e k. same-first c.sooner-first.ensures (then-first (expr-first i e k c.args.of t h) (same-first c.first_early.ensures (clauses-first i e k c.args.clauses.items cs q))))
