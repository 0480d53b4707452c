use Rattle.std.proofs.Common.{refl}
use Rattle.script_grammar.specs.Tree as tree
use Rattle.script_grammar.specs.TreeLists.{maybe_expr_of}
use Rattle.grammar_parser_specs.specs.Stmts.{return_of}
use Rattle.parse_exprs.proofs.Steps.{then, made}
use Rattle.parse_bodies.proofs.Parts.{returned_read}
use Rattle.parse_bodies.proofs.values.return_from.Goals as goal

pub returns : goal.returns
unfolding return_of
returns g c = λ i. let a = returned_read (g.H.Handler.shows_expr i) c.in_ok-value.value (c.in_ok-value.ensures i) in
    let b = rw (c.return_ending-ending.ensures, a.2) at (c.in_ok-semi.ensures i) in
    let m = rw c.returned_node.ensures at (c.in_ok-node.ensures i a.0) in
    (tree.Return (maybe_expr_of a.0) c.in_ok-semi.semi, m a.1, refl, then _ a.3 (made _ b))
