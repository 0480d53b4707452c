use Rattle.std.proofs.Common.{refl}
use Rattle.script_grammar.specs.Tree as model
use Rattle.script_grammar.specs.TreeLists.{items_of}
use Rattle.parse_early_handler.proofs.Expressions.{items-first}
use Rattle.parse_early_handler.proofs.Made.{other-made}
use Rattle.parse_early_handler.proofs.Parting.{same-first}
use Rattle.parse_early_handler.proofs.handler.EarlyErrorHandlerHandler.make_array.Goals as goal

pub returns : goal.returns
returns c = λ i ts h. other-made i c.other.result (model.Array c.args.at (items_of ts) c.args._comma) _ _ c.other.ensures refl (λ e k. (same-first c.first_early.ensures (items-first i e k c.args.items.items ts h), refl))
