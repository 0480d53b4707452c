use Rattle.std.proofs.Common.{drop}
use Rattle.emit_functions.proofs.ParamRows.{SpecialsLeft}
use Rattle.emit_functions.proofs.params.specials.Given as goal

abbrev pub invariant-loop-binding : goal.invariant-loop-binding
invariant-loop-binding l = SpecialsLeft l.site l.initial.out l.out l.bindings (drop l.binding-index l.bindings)
