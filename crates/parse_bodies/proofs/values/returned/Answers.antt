use Rattle.std.proofs.Common.{◌∙◌, sym, Some}
use Rattle.grammar_parser_specs.specs.Stmts.{returned_of}
use Rattle.parse_exprs.proofs.Steps.{made, when_false}
use Rattle.parse_bodies.proofs.values.returned.Goals as goal

pub returns : goal.returns
unfolding returned_of
returns g c = λ i. let a = c.in_ok-value.ensures i in (a.0, a.1, a.2, a.3, when_false _ _ (sym (c.ends_return.ensures i) ∙ c.if-ends_return.false) (made Some a.4))
