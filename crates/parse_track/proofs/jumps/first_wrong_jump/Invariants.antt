use Rattle.std.proofs.Common.{◌≡◌, nat_eq, length, map, drop}
use Rattle.parse_track.specs.EarlyErrors.{smaller, smallest, nothing_around, wrong_jumps}
use Rattle.parse_track.specs.Log.{told_items, told_region, outermost}
use Rattle.parse_track.specs.Rows.{row_of}
use Rattle.parse_track.proofs.jumps.first_wrong_jump.Given as goal

abbrev pub invariant-loop-region : goal.invariant-loop-region
invariant-loop-region l =
    smaller l.first (smallest (wrong_jumps nat_eq nothing_around (told_items (map row_of l.rows) (told_region (length l.rows) (map row_of l.rows)) (outermost l.region (map row_of (drop l.region l.rows))))))
    ≡ smallest (wrong_jumps nat_eq nothing_around (told_items (map row_of l.rows) (told_region (length l.rows) (map row_of l.rows)) (outermost 0 (map row_of l.rows))))
