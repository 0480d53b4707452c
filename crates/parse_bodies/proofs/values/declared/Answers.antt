use Rattle.std.proofs.Common.{refl}
use Rattle.script_grammar.specs.Tree as tree
use Rattle.grammar_parser_specs.specs.Stmts.{declared_of}
use Rattle.parse_exprs.proofs.Steps.{then, made}
use Rattle.parse_bodies.proofs.Parts.{func_read}
use Rattle.parse_bodies.proofs.values.declared.Goals as goal

pub returns : goal.returns
unfolding declared_of
returns g c = λ i. let a = func_read i (g.H.Handler.shows_expr i) (g.H.Handler.shows_body i) c.in_ok-func.func (c.in_ok-func.ensures i) in
    (tree.Declared a.0, c.in_ok-node.ensures i a.0 a.1, refl, then _ (c.in_ok-name.ensures i) (made _ a.2))
