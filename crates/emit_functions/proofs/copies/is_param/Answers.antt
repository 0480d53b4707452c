use Rattle.std.proofs.Common.{sym, ◌∙◌, ap, drop_of_length-le}
use Rattle.scope_analysis.specs.DeclaredNames.{has_text, param_names}
use Rattle.emit_exprs.proofs.Lists.{next_of}
use Rattle.emit_functions.specs.ParamCode.{params_under}
use Rattle.emit_functions.proofs.CopyRows as list
use Rattle.emit_functions.proofs.copies.is_param.Goals as goal

pub loop-param-init : goal.loop-param-init
loop-param-init c = list.looked_begin _ _ _

pub returns-then-same_units : goal.returns-then-same_units
returns-then-same_units c = λ bodies.
    list.looked_found _ _ c.param-item.result c.units_of.result.now (next_of c.args.params.now c.loop-param.param-index c.param-item.result c.loop-param-test.true c.param-item.is) c.units_of.ensures (sym c.same_units.ensures ∙ c.if-same_units.true) c.loop-param.invariant bodies
    ∙ ap (has_text (param_names (params_under c.args.texts.now bodies c.args.params.now))) c.units_of-units.ensures

pub loop-param-preserved : goal.loop-param-preserved
loop-param-preserved c = list.looked_next _ _ c.param-item.result c.units_of.result.now (next_of c.args.params.now c.loop-param.param-index c.param-item.result c.loop-param-test.true c.param-item.is) c.units_of.ensures (sym c.same_units.ensures ∙ c.if-same_units.false) c.loop-param.invariant

pub returns : goal.returns
returns c = λ bodies.
    list.looked_end _ (drop_of_length-le c.args.params.now c.loop-param-test.false) c.loop-param.invariant bodies
    ∙ ap (has_text (param_names (params_under c.args.texts.now bodies c.args.params.now))) c.units_of-units.ensures
