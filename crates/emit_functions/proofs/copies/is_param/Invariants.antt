use Rattle.std.proofs.Common.{drop}
use Rattle.emit_functions.proofs.CopyRows.{ParamsLooked}
use Rattle.emit_functions.proofs.copies.is_param.Given as goal

abbrev pub invariant-loop-param : goal.invariant-loop-param
invariant-loop-param l = ParamsLooked l.texts l.units l.params (drop l.param-index l.params)
