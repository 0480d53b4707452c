use Rattle.std.proofs.Common.{◌≡◌, Bool, length, map, drop}
use Rattle.parse_track.specs.EarlyErrors.{smaller}
use Rattle.parse_track.specs.Clashes.{clashes, no_firsts}
use Rattle.parse_track.specs.LexicalNames.{offset_for}
use Rattle.parse_track.specs.Log.{told_items, told_region, outermost}
use Rattle.parse_track.specs.Rows.{row_of}
use Rattle.parse_track.proofs.clashing.first_clashes.Given as goal

abbrev pub invariant-loop-region : goal.invariant-loop-region
invariant-loop-region l =
    (heads : Bool) →
    smaller (offset_for heads l.found) (clashes heads no_firsts (told_items (map row_of l.rows) (told_region (length l.rows) (map row_of l.rows)) (outermost l.region (map row_of (drop l.region l.rows)))))
    ≡ clashes heads no_firsts (told_items (map row_of l.rows) (told_region (length l.rows) (map row_of l.rows)) (outermost 0 (map row_of l.rows)))
