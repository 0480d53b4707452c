use Rattle.grammar_parser_specs.specs.Stmts.{parens_of}
use Rattle.parse_exprs.proofs.Steps.{then, made}
use Rattle.parse_bodies.proofs.values.parens.Goals as goal

pub returns : goal.returns
unfolding parens_of
returns g c = λ i. let a = c.in_ok-value.ensures i in
    (a.0, a.1, then _ (c.in_ok-expect.ensures i) (then _ a.4 (made _ (c.in_ok-expect-2.ensures i))))
