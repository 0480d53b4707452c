use Rattle.std.proofs.Common.{refl}
use Rattle.script_grammar.specs.Interpretation.{text_of}
use Rattle.script_grammar.specs.Tree as model
use Rattle.script_grammar.specs.TreeLists.{parts_of}
use Rattle.parse_early_handler.proofs.Expressions.{parts-first}
use Rattle.parse_early_handler.proofs.Made.{other-made}
use Rattle.parse_early_handler.proofs.Parting.{same-first}
use Rattle.parse_early_handler.proofs.handler.EarlyErrorHandlerHandler.make_template.Goals as goal

pub returns : goal.returns
returns c = λ i ps h. other-made i c.other.result (model.Template c.args.at (text_of i c.args._first) (parts_of ps)) _ _ c.other.ensures refl (λ e k. (same-first c.first_early.ensures (parts-first i e k c.args.parts.items ps h), refl))
