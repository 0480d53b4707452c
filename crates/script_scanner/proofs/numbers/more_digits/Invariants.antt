use Rattle.std.proofs.Common.{◌≡◌, ◌+◌, ◌-◌, ◌≤◌, length, drop, map}
use Rattle.unit_text.specs.Points.{code_of}
use Rattle.script_scanner.specs.Numbers.{more_digits}
use Rattle.script_scanner.proofs.numbers.more_digits.Given as goal

-- the points passed are digits
abbrev pub invariant-loop-at : goal.invariant-loop-at
invariant-loop-at g l = record {
  within : l.at ≤ length (g.T.Source.points l.rest);
  so_far : more_digits l.radix (map code_of (g.T.Source.points l.rest)) ≡ l.at + more_digits l.radix (map code_of (drop l.at (g.T.Source.points l.rest)));
}

abbrev pub decreases-loop-at : goal.decreases-loop-at
decreases-loop-at g l = length (g.T.Source.points l.rest) - l.at
