use Rattle.std.proofs.Common.{◌≡◌, ◌+◌, ◌-◌, ◌≤◌, length, drop, map}
use Rattle.std.specs.Prelude.{◌==◌}
use Rattle.std.specs.List.{prefix_len}
use Rattle.unit_text.specs.Points.{code_of}
use Rattle.script_scanner.proofs.blanks.spaces_length.Given as goal

-- the points passed are spaces
abbrev pub invariant-loop-at : goal.invariant-loop-at
invariant-loop-at g l = record {
  within : l.at ≤ length (g.T.Source.points l.rest);
  so_far : l.at + prefix_len (λ c. c == 0x20) (map code_of (drop l.at (g.T.Source.points l.rest))) ≡ prefix_len (λ c. c == 0x20) (map code_of (g.T.Source.points l.rest));
}

abbrev pub decreases-loop-at : goal.decreases-loop-at
decreases-loop-at g l = length (g.T.Source.points l.rest) - l.at
