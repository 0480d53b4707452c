use Rattle.emit_exprs.proofs.Lists.{PowersLeft}
use Rattle.std.proofs.Common.{drop}
use Rattle.emit_exprs.proofs.shortcuts.powers.Given as goal

abbrev pub invariant-loop-operand : goal.invariant-loop-operand
invariant-loop-operand l = PowersLeft l.initial.out l.out l.rest (drop l._operand-index l.rest)
