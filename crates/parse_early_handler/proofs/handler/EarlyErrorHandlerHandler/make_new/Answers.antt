use Rattle.std.proofs.Common.{refl}
use Rattle.script_grammar.specs.Tree as model
use Rattle.script_grammar.specs.TreeLists.{maybe_args_of}
use Rattle.parse_early_handler.proofs.Expressions.{expr-first, maybe_args-first}
use Rattle.parse_early_handler.proofs.Made.{other-made}
use Rattle.parse_early_handler.proofs.Parting.{same-first, then-first}
use Rattle.parse_early_handler.proofs.handler.EarlyErrorHandlerHandler.make_new.Goals as goal

pub returns : goal.returns
returns c = λ i t a h q. other-made i c.other.result (model.New c.args.at t (maybe_args_of a)) _ _ c.other.ensures refl (λ e k. (same-first c.sooner-first.ensures (then-first (expr-first i e k c.args.callee t h) (same-first c.first_early.ensures (maybe_args-first i e k c.args.args a q))), refl))
