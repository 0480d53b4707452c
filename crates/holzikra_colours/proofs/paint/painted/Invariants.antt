use Rattle.std.proofs.Common.{◌≤◌, length}
use Rattle.holzikra_colours.specs.Colours.{IsPainted}
use Rattle.holzikra_colours.proofs.paint.painted.Given as goal

abbrev pub invariant-loop-part : goal.invariant-loop-part
invariant-loop-part l = (l.at ≤ length l.text) × IsPainted l.text l.at l.out.items
