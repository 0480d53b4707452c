use Rattle.std.proofs.Common.{◌∙◌, ap, sym}
use Rattle.script_grammar.specs.Tree as model
use Rattle.script_grammar.specs.TreeLists.{exprs_of}
use Rattle.script_grammar.proofs.ExprEquations.{tail_of-Call}
use Rattle.parse_handlers.specs.Kept.{kept_tail}
use Rattle.parse_handlers.proofs.parts.tail.Goals as goal

pub returns-in-Call : goal.returns-in-Call
returns-in-Call c = λ i. tail_of-Call i c.args-in-Call.result ∙ ap (λ a. model.Call (exprs_of a.items) a.comma) (c.args-in-Call.ensures i) ∙ ap (kept_tail i) (sym c.in-Call.is)
