use Rattle.std.proofs.Common.{refl}
use Rattle.script_grammar.specs.Tree as model
use Rattle.script_grammar.specs.TreeLists.{stmts_of}
use Rattle.parse_early_handler.proofs.Made.{plain-made}
use Rattle.parse_early_handler.proofs.Parting.{same-first}
use Rattle.parse_early_handler.proofs.Statements.{stmts-first}
use Rattle.parse_early_handler.proofs.handler.EarlyErrorHandlerHandler.make_block.Goals as goal

pub returns : goal.returns
returns c = λ i ss h. plain-made i c.plain.result (model.Block (stmts_of ss)) _ c.plain.ensures refl (λ e k. same-first c.first_early.ensures (stmts-first i e k c.args.items.items ss h))
