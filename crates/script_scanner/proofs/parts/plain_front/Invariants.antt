use Rattle.std.proofs.Common.{◌≡◌, ◌+◌, ◌-◌, ◌≤◌, length, drop, map}
use Rattle.std.specs.List.{prefix_len}
use Rattle.unit_text.specs.Points.{code_of}
use Rattle.script_scanner.specs.Parts.{is_plain}
use Rattle.script_scanner.proofs.parts.plain_front.Given as goal

-- the points passed stand for themselves
abbrev pub invariant-loop-length : goal.invariant-loop-length
invariant-loop-length g l = record {
  so_far : l.length + prefix_len (λ c. is_plain l.quote c) (map code_of (drop l.length (g.T.Source.points l.rest))) ≡ prefix_len (λ c. is_plain l.quote c) (map code_of (g.T.Source.points l.rest));
  within : l.length ≤ length (g.T.Source.points l.rest);
}

abbrev pub decreases-loop-length : goal.decreases-loop-length
decreases-loop-length g l = length (g.T.Source.points l.rest) - l.length
