use Rattle.std.proofs.Common.{◌≡◌, ◌≤◌, drop, map}
use Rattle.std.specs.Prelude.{fold}
use Rattle.unit_text.specs.Points.{code_of}
use Rattle.script_scanner.specs.Numbers.{with_digit}
use Rattle.script_scanner.proofs.numbers.digits_value.Given as goal

-- the value of the digits read, which is within the limit, and from which the others go on
abbrev pub invariant-loop-at : goal.invariant-loop-at
invariant-loop-at g l = record {
  small : l.value ≤ 9007199254740991;
  so_far : fold (with_digit l.radix) l.value (map code_of (drop l.at (g.T.Source.points l.digits))) ≡ fold (with_digit l.radix) 0 (map code_of (g.T.Source.points l.digits));
}
