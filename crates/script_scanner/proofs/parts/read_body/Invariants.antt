use Rattle.std.proofs.Common.{◌-◌, length}
use Rattle.script_scanner.proofs.PartLemmas.{IsReading}
use Rattle.script_scanner.proofs.parts.read_body.Given as goal

abbrev pub invariant-loop-at : goal.invariant-loop-at
invariant-loop-at g l = IsReading l.ending (g.T.Source.points l.rest) l.at l.units.items

abbrev pub decreases-loop-at : goal.decreases-loop-at
decreases-loop-at g l = length (g.T.Source.points l.rest) - l.at
