use Rattle.std.proofs.Common.{ap, refl, ◌∙◌}
use Rattle.script_grammar.specs.Tree as model
use Rattle.script_grammar.specs.TreeLists.{exprs_of}
use Rattle.parse_early_handler.specs.Firsts.{start_of_first}
use Rattle.parse_early_handler.proofs.Expressions.{comma-start, exprs-first}
use Rattle.parse_early_handler.proofs.Made.{other-made}
use Rattle.parse_early_handler.proofs.Parting.{same-first}
use Rattle.parse_early_handler.proofs.handler.EarlyErrorHandlerHandler.make_comma.Goals as goal

pub returns : goal.returns
returns c = λ i ts h. other-made i c.other.result (model.Comma (exprs_of ts)) _ _ c.other.ensures refl (λ e k. (same-first c.first_early.ensures (exprs-first i e k c.args.items.items ts h), c.start_of_first-start.ensures ∙ (ap start_of_first c.deref.ensures.value ∙ comma-start i e k c.args.items.items ts h)))
