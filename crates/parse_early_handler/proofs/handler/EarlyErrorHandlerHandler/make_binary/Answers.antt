use Rattle.std.proofs.Common.{refl}
use Rattle.script_grammar.specs.Tree as model
use Rattle.script_grammar.specs.TreeLists.{operands_of}
use Rattle.parse_early_handler.proofs.Expressions.{expr-first, operands-first}
use Rattle.parse_early_handler.proofs.Made.{other-made}
use Rattle.parse_early_handler.proofs.Parting.{same-first, then-first}
use Rattle.parse_early_handler.proofs.handler.EarlyErrorHandlerHandler.make_binary.Goals as goal

pub returns : goal.returns
returns c = λ i t os h q. other-made i c.other.result (model.Binary t (operands_of os)) _ _ c.other.ensures refl (λ e k. (same-first c.sooner-first.ensures (then-first (expr-first i e k c.args.first t h) (same-first c.first_early.ensures (operands-first i e k c.args.rest.items os q))), (h.holds e k).start))
