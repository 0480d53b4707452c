use Rattle.std.proofs.Common.{◌∙◌, sym, Some}
use Rattle.grammar_parser_specs.specs.Stmts.{value_of}
use Rattle.parse_exprs.proofs.Steps.{made, when_true}
use Rattle.parse_bodies.proofs.bindings.initializer.Goals as goal

pub returns : goal.returns
unfolding value_of
returns g c = λ i. let a = rw (c.step.ensures.at i, c.step.ensures.records i) at (c.in_ok-value.ensures i) in (a.0, a.1, a.2, a.3, when_true _ _ (sym (c.is_mark.ensures i) ∙ c.if-not-is_mark.false) (made Some a.4))
