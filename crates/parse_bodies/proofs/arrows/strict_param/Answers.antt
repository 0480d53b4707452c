use Rattle.std.proofs.Common.{◌∙◌, sym}
use Rattle.grammar_parser_specs.specs.Parser.{Again}
use Rattle.parse_exprs.proofs.ParamParts.{again_reads, param_read}
use Rattle.grammar_parser_specs.specs.Stmts.{strict_param}
use Rattle.parse_exprs.proofs.Steps.{made, when_true, when_false}
use Rattle.parse_bodies.proofs.arrows.strict_param.Goals as goal

pub returns : goal.returns
unfolding strict_param
returns g c = λ i. let a = param_read i (g.H.Handler.shows_expr i) c.in_ok-param.param (c.in_ok-param.ensures i) in
    again_reads i (g.H.Handler.shows_expr i) c.in_ok-param.param a.0 a.1 (when_false _ _ (sym (c.is_mark.ensures i) ∙ c.if-is_mark.false) (when_true _ _ (sym (c.is_name.ensures i) ∙ c.if-not-is_name.false) (made Again a.2)))
