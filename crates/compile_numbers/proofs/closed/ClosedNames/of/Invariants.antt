use Rattle.std.proofs.Common.{take}
use Rattle.compile_numbers.specs.Sorted.{AreSorted}
use Rattle.compile_numbers.proofs.closed.ClosedNames.of.Given as goal

abbrev pub invariant-loop-at : goal.invariant-loop-at
invariant-loop-at l = AreSorted (take l.at-index l.closed) l.names
