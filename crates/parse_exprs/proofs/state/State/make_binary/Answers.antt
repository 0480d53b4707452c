use Rattle.std.proofs.Common.{◌≡◌, ◌∷◌, sym, subst, ◌∙◌}
use Rattle.script_grammar.specs.Endings.{ending, operands_ending}
use Rattle.script_grammar.specs.Tree as model
use Rattle.script_grammar.specs.TreeLists.{operands_of}
use Rattle.script_grammar.specs.Shows.{ShowOperand}
use Rattle.grammar_parser_specs.specs.Exprs.{binary_case}
use Rattle.parse_exprs.specs.declared.part.Rank.TheVariants as ranks
use Rattle.parse_exprs.specs.Means.{ending_as}
use Rattle.parse_exprs.specs.Ranks.{rank_of}
use Rattle.parse_exprs.proofs.Made.{nonempty}
use Rattle.parse_exprs.proofs.RankFacts.{binary_rank}
use Rattle.parse_exprs.proofs.state.State.make_binary.Goals as goal

pub returns-clause-makes : goal.returns-clause-makes
returns-clause-makes g c = λ i t os m a e.
    let shows = g.H.Handler.shows_expr i in
    let x = nonempty (ShowOperand shows) c.args.rest.items.items os a _ c.args.rest.items.ok.0 (sym c.is_empty.ensures ∙ c.if-is_empty.false) in
    let node = c.in_ok-node.ensures i t os m.0 a in
    subst (λ y. shows c.in_ok-node.node (binary_case t y) × (ranks.Other ≡ rank_of (binary_case t y)) × (ending_as c.args.rest.last ≡ ending (binary_case t y))) (sym x.2)
    (subst (λ y. shows c.in_ok-node.node (model.Binary t (operands_of y))) x.2 node, binary_rank t (operands_of (x.0 ∷ x.1)), subst (λ y. ending_as c.args.rest.last ≡ operands_ending (ending t) (operands_of y)) x.2 e)
