use Rattle.std.proofs.Common.{◌≡◌, ◌+◌, ◌-◌, ◌≤◌, length, drop, map}
use Rattle.std.specs.Prelude.{option_map}
use Rattle.unit_text.specs.Points.{code_of}
use Rattle.script_scanner.specs.Blanks.{length_to_star_slash}
use Rattle.script_scanner.proofs.blanks.length_to_star_slash.Given as goal

-- none of the points passed begins a `*/`
abbrev pub invariant-loop-at : goal.invariant-loop-at
invariant-loop-at g l = record {
  within : l.at ≤ length (g.T.Source.points l.rest);
  so_far : length_to_star_slash (map code_of (g.T.Source.points l.rest)) ≡ option_map (λ n. l.at + n) (length_to_star_slash (map code_of (drop l.at (g.T.Source.points l.rest))));
}

abbrev pub decreases-loop-at : goal.decreases-loop-at
decreases-loop-at g l = length (g.T.Source.points l.rest) - l.at
