use Rattle.std.proofs.Common.{◌≡◌, ◌++◌, map, take, drop}
use Rattle.parse_function.specs.Shifted.{shifted}
use Rattle.parse_function.proofs.points.shift.Given as goal

-- the points so far are further after, and the others as they were
abbrev pub invariant-loop-point : goal.invariant-loop-point
invariant-loop-point l = l.points ≡ map (shifted l.by) (take l.point-index l.initial.points) ++ drop l.point-index l.initial.points
