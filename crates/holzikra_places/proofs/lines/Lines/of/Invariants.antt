use Rattle.std.proofs.Common.{◌≡◌}
use Rattle.holzikra_places.specs.Places.{line_starts}
use Rattle.holzikra_places.proofs.lines.Lines.of.Given as goal

abbrev pub invariant-loop-at : goal.invariant-loop-at
invariant-loop-at l = l.starts.items ≡ line_starts l.text l.at
