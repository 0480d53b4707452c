use Rattle.std.proofs.Common.{◌∙◌, sym, Some}
use Rattle.grammar_parser_specs.specs.Stmts.{option_of}
use Rattle.parse_exprs.proofs.Steps.{made, when_false}
use Rattle.parse_bodies.proofs.values.option.Goals as goal

pub returns : goal.returns
unfolding option_of
returns g c = λ i. let a = c.in_ok-value.ensures i in (a.0, a.1, when_false _ _ (sym (c.is_mark.ensures i) ∙ c.if-is_mark.false) (made Some a.4))
