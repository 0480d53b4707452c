use Rattle.std.proofs.Common.{take}
use Rattle.parse_function.specs.Holes.{AreFound}
use Rattle.parse_function.proofs.holes.holes_in.Given as goal

-- the holes so far are those of some of the functions so far
abbrev pub invariant-loop-inner : goal.invariant-loop-inner
invariant-loop-inner l = AreFound l.file (take l.inner-index l.inside) l.holes.items
