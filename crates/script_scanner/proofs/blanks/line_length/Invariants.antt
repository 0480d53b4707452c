use Rattle.std.proofs.Common.{◌≡◌, ◌+◌, ◌-◌, ◌≤◌, length, drop, map}
use Rattle.unit_text.specs.Points.{code_of}
use Rattle.script_scanner.specs.Blanks.{line_length}
use Rattle.script_scanner.proofs.blanks.line_length.Given as goal

-- none of the points passed is a line end
abbrev pub invariant-loop-at : goal.invariant-loop-at
invariant-loop-at g l = record {
  within : l.at ≤ length (g.T.Source.points l.rest);
  so_far : l.at + line_length (map code_of (drop l.at (g.T.Source.points l.rest))) ≡ line_length (map code_of (g.T.Source.points l.rest));
}

abbrev pub decreases-loop-at : goal.decreases-loop-at
decreases-loop-at g l = length (g.T.Source.points l.rest) - l.at
