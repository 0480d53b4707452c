use Rattle.std.proofs.Common.{◌≡◌, ◌≤◌, ◌*◌}
use Rattle.holzikra_places.specs.Places.{marks_below, units_from}
use Rattle.holzikra_places.proofs.text_places.marks_of.Given as goal

abbrev pub invariant-loop-piece : goal.invariant-loop-piece
invariant-loop-piece l =
    (l.marks.items ≡ marks_below l.text l.piece) × (l.units ≡ units_from l.text 0 (l.piece * 1024)) × (l.units ≤ 2 * (l.piece * 1024))
