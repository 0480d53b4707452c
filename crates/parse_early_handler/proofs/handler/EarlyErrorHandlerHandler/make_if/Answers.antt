use Rattle.std.proofs.Common.{refl}
use Rattle.script_grammar.specs.Tree as model
use Rattle.script_grammar.specs.TreeLists.{maybe_stmt_of}
use Rattle.parse_early_handler.proofs.Expressions.{expr-first}
use Rattle.parse_early_handler.proofs.Made.{plain-made}
use Rattle.parse_early_handler.proofs.Parting.{same-first, then-first}
use Rattle.parse_early_handler.proofs.Statements.{maybe_stmt-first, stmt-first}
use Rattle.parse_early_handler.proofs.handler.EarlyErrorHandlerHandler.make_if.Goals as goal

pub returns : goal.returns
returns c = λ i t u v h q r. plain-made i c.plain.result (model.If t u (maybe_stmt_of v)) _ c.plain.ensures refl (λ e k. same-first c.sooner-first.ensures (then-first (expr-first i e k c.args.test t h) (same-first c.sooner-branches.ensures (then-first (stmt-first i e k c.args.yes u q) (same-first c.first_early.ensures (maybe_stmt-first i e k c.args.no v r))))))
