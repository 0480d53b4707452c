use Rattle.stencil_xdr_read.specs.Within.{IsEntryAt}
use Rattle.stencil_xdr_read.proofs.Loops.{Reaches}
use Rattle.stencil_xdr_read.proofs.range.are_entries.Given as goal

abbrev pub invariant-loop-at : goal.invariant-loop-at
invariant-loop-at l = Reaches (IsEntryAt l.records) l.entries l.at
