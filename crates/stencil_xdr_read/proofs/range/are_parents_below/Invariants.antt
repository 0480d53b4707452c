use Rattle.stencil_xdr_read.specs.Within.{ParentBelow}
use Rattle.stencil_xdr_read.proofs.Loops.{Reaches}
use Rattle.stencil_xdr_read.proofs.range.are_parents_below.Given as goal

abbrev pub invariant-loop-number : goal.invariant-loop-number
invariant-loop-number l = Reaches ParentBelow l.scopes l.number
