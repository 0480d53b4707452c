use Rattle.std.proofs.Common.{◌≡◌, drop, map}
use Rattle.unit_text.specs.Points.{code_of}
use Rattle.unit_text.specs.Units.{text_units}
use Rattle.script_scanner.proofs.known.are_units.Given as goal

-- where the rest is the same, all is
abbrev pub invariant-loop-at : goal.invariant-loop-at
invariant-loop-at g l = text_units (map code_of (drop l.at (g.T.Source.points l.points))) ≡ drop l.at l.units → text_units (map code_of (g.T.Source.points l.points)) ≡ l.units
