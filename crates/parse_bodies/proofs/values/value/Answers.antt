use Rattle.std.proofs.Common.{refl}
use Rattle.script_grammar.specs.Tree as tree
use Rattle.grammar_parser_specs.specs.Stmts.{value_stmt, semi_of}
use Rattle.parse_exprs.proofs.Steps.{then, made}
use Rattle.parse_bodies.proofs.values.value.Goals as goal

pub returns : goal.returns
unfolding value_stmt semi_of
returns g c = λ i. let a = c.in_ok-value.ensures i in let b = rw a.3 at (c.in_ok-semi.ensures i) in
    (tree.Value a.0 c.in_ok-semi.semi, c.in_ok-node.ensures i a.0 a.1, refl, then _ a.4 (made _ b))
