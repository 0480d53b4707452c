use Rattle.std.proofs.Common.{drop}
use Rattle.emit_functions.proofs.ParamRows.{ParamsLeft}
use Rattle.emit_functions.proofs.params.params.Given as goal

abbrev pub invariant-loop-item : goal.invariant-loop-item
invariant-loop-item l = ParamsLeft l.site l.initial.out l.out l.params (drop l.item-index l.params)
