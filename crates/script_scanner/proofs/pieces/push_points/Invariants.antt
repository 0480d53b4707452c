use Rattle.std.proofs.Common.{◌≡◌, ◌++◌, drop, map}
use Rattle.unit_text.specs.Points.{code_of}
use Rattle.unit_text.specs.Units.{text_units}
use Rattle.script_scanner.proofs.pieces.push_points.Given as goal

-- the units of the points so far, and those of the rest, are those of the points
abbrev pub invariant-loop-at : goal.invariant-loop-at
invariant-loop-at g l = l.units.items ++ text_units (map code_of (drop l.at (g.T.Source.points l.points))) ≡ l.initial.units.items ++ text_units (map code_of (g.T.Source.points l.points))
