use Rattle.std.proofs.Common.{◌≡◌, ◌-◌, ◌≤◌, length, drop, map}
use Rattle.std.specs.List.{list_any}
use Rattle.unit_text.specs.Points.{code_of}
use Rattle.script_scanner.specs.Blanks.{is_line_end}
use Rattle.script_scanner.proofs.blanks.holds_line_end.Given as goal

-- none of the points passed is a line end
abbrev pub invariant-loop-at : goal.invariant-loop-at
invariant-loop-at g l = record {
  within : l.at ≤ length (g.T.Source.points l.points);
  so_far : list_any is_line_end (map code_of (drop l.at (g.T.Source.points l.points))) ≡ list_any is_line_end (map code_of (g.T.Source.points l.points));
}

abbrev pub decreases-loop-at : goal.decreases-loop-at
decreases-loop-at g l = length (g.T.Source.points l.points) - l.at
