use Rattle.std.proofs.Common.{◌≡◌, ◌+◌, ◌-◌, ◌<◌, ◌≤◌, length, drop, map}
use Rattle.std.specs.List.{prefix_len}
use Rattle.unit_text.specs.Points.{code_of}
use Rattle.script_scanner.specs.Names.{is_name_part, name_length}
use Rattle.script_scanner.proofs.names.spelled_name.Given as goal

-- the points passed are of the name
abbrev pub invariant-loop-length : goal.invariant-loop-length
invariant-loop-length g l = record {
  so_far : l.length + prefix_len is_name_part (map code_of (drop l.length (g.T.Source.points l.rest))) ≡ name_length (map code_of (g.T.Source.points l.rest));
  some : 0 < l.length;
  within : l.length ≤ length (g.T.Source.points l.rest);
}

abbrev pub decreases-loop-length : goal.decreases-loop-length
decreases-loop-length g l = length (g.T.Source.points l.rest) - l.length
