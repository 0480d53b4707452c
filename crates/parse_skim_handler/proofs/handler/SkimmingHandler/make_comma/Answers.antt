use Rattle.std.proofs.Common.{ap, map, refl, ◌∙◌}
use Rattle.script_grammar.specs.Tree as model
use Rattle.script_grammar.specs.TreeLists.{exprs_of}
use Rattle.parse_early_handler.specs.Firsts.{start_of_first}
use Rattle.parse_early_handler.proofs.Expressions.{comma-start}
use Rattle.parse_skim_handler.specs.Packed.{expr_errors}
use Rattle.parse_skim_handler.proofs.Made.{expr-made}
use Rattle.parse_skim_handler.proofs.Meanings.{begun}
use Rattle.parse_skim_handler.proofs.StandingParts.{errors-shown, exprs-stand}
use Rattle.parse_skim_handler.proofs.handler.SkimmingHandler.make_comma.Goals as goal

pub returns : goal.returns
returns c = λ i ts h.
    let items = c.args.items.items in
    expr-made i c.in_ok-node.node (model.Comma (exprs_of ts)) _ _ c.in_ok-node.ensures (begun i (c.nothing.ensures i) (c.in_ok-kept.ensures i)) (exprs-stand i items ts h)
    (λ e k. (c.start_of_first-start.ensures ∙ (ap (λ l. start_of_first (map expr_errors l)) c.deref.ensures.value ∙ comma-start i e k (map expr_errors items) ts (errors-shown i items ts h)), refl))
