use Rattle.std.proofs.Common.{◌≡◌, ◌∷◌, refl, sym, subst, ◌∙◌}
use Rattle.script_grammar.specs.Endings.{ending, last_ending}
use Rattle.script_grammar.specs.Tree as model
use Rattle.script_grammar.specs.TreeLists.{exprs_of}
use Rattle.script_grammar.specs.Shows.{ShowAll}
use Rattle.grammar_parser_specs.specs.Exprs.{comma_case}
use Rattle.parse_exprs.specs.declared.part.Rank.TheVariants as ranks
use Rattle.parse_exprs.specs.Means.{ending_as}
use Rattle.parse_exprs.specs.Ranks.{rank_of}
use Rattle.parse_exprs.proofs.Made.{nonempty}
use Rattle.parse_exprs.proofs.state.State.make_comma.Goals as goal

pub returns-clause-makes : goal.returns-clause-makes
returns-clause-makes g c = λ i t ts m a e.
    let shows = g.H.Handler.shows_expr i in
    let x = nonempty shows c.args.rest.items.items ts a _ c.args.rest.items.ok.0 (sym c.is_empty.ensures ∙ c.if-is_empty.false) in
    let node = c.in_ok-node.ensures i (t ∷ ts) (subst (λ es. ShowAll shows es (t ∷ ts)) (sym c.in_ok-insert.ensures.items) (m.0, a)) in
    subst (λ y. shows c.in_ok-node.node (comma_case t y) × (ranks.Other ≡ rank_of (comma_case t y)) × (ending_as c.args.rest.last ≡ ending (comma_case t y))) (sym x.2)
    (subst (λ y. shows c.in_ok-node.node (model.Comma (exprs_of (t ∷ y)))) x.2 node, refl, subst (λ y. ending_as c.args.rest.last ≡ last_ending (ending t) (exprs_of y)) x.2 e)
