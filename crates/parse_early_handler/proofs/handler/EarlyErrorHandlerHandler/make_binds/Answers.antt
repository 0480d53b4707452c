use Rattle.std.proofs.Common.{refl}
use Rattle.script_grammar.specs.Tree as model
use Rattle.script_grammar.specs.TreeLists.{binds_of}
use Rattle.parse_early_handler.proofs.Made.{plain-made}
use Rattle.parse_early_handler.proofs.Parting.{same-first}
use Rattle.parse_early_handler.proofs.Statements.{binds-first}
use Rattle.parse_early_handler.proofs.handler.EarlyErrorHandlerHandler.make_binds.Goals as goal

pub returns : goal.returns
returns c = λ i bs h. plain-made i c.plain.result (model.Binding c.args.decl (binds_of bs) c.args._semi) _ c.plain.ensures refl (λ e k. same-first c.binds_first.ensures (binds-first i e k c.args.decl c.args.binds.items bs h))
