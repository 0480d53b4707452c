use Rattle.std.proofs.Common.{◌≡◌, ◌∷◌, refl, sym, subst, ◌∙◌}
use Rattle.script_grammar.specs.Endings.{ending}
use Rattle.script_grammar.specs.Pieces as pieces
use Rattle.script_grammar.specs.Tree as model
use Rattle.script_grammar.specs.TreeLists.{tails_of}
use Rattle.script_grammar.specs.Shows.{ShowTail}
use Rattle.grammar_parser_specs.specs.Exprs.{chain_case}
use Rattle.parse_exprs.specs.declared.part.Rank.TheVariants as ranks
use Rattle.parse_exprs.specs.Ranks.{rank_of}
use Rattle.parse_exprs.proofs.Made.{nonempty}
use Rattle.parse_exprs.proofs.RankFacts.{chain_rank}
use Rattle.parse_exprs.proofs.state.State.make_chain.Goals as goal

pub returns-clause-makes : goal.returns-clause-makes
returns-clause-makes g c = λ i t ts m a.
    let shows = g.H.Handler.shows_expr i in
    let x = nonempty (ShowTail i shows) c.args.tails.items ts a _ c.args.tails.ok.0 (sym c.is_empty.ensures ∙ c.if-is_empty.false) in
    let node = c.in_ok-node.ensures i t ts m.0 a in
    subst (λ y. shows c.in_ok-node.node (chain_case t y) × (ranks.Left ≡ rank_of (chain_case t y)) × (pieces.Operand ≡ ending (chain_case t y))) (sym x.2)
    (subst (λ y. shows c.in_ok-node.node (model.Chain t (tails_of y))) x.2 node, chain_rank t (tails_of (x.0 ∷ x.1)), refl)
