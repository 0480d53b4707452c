use Rattle.std.proofs.Common.{◌+◌, ◌*◌, ◌≤◌, None, false, drop, length, map}
use Rattle.parse_track.specs.Counted.{region_count}
use Rattle.parse_track.specs.Log.{known_names, told_items, told_region, outermost}
use Rattle.parse_track.specs.Rows.{row_of}
use Rattle.parse_track.specs.Pruned.{pruned}
use Rattle.parse_track.specs.Visited.{Stand, Visits, stand_of}
use Rattle.parse_track.proofs.closed_names.visit_script.Given as goal

abbrev pub invariant-loop-region : goal.invariant-loop-region
invariant-loop-region l = ((last : Stand)
    → Visits (known_names l.known) false None 0 (stand_of l.found l.scope) last
    (pruned (known_names l.known) false (told_items (map row_of l.rows) (told_region (length l.rows) (map row_of l.rows)) (outermost l.region (map row_of (drop l.region l.rows)))))
    → Visits (known_names l.known) false None 0 (stand_of l.fn.found 0) last
    (pruned (known_names l.known) false (told_items (map row_of l.rows) (told_region (length l.rows) (map row_of l.rows)) (outermost 0 (map row_of l.rows)))))
    × (l.scope + 2 * region_count (told_items (map row_of l.rows) (told_region (length l.rows) (map row_of l.rows)) (outermost l.region (map row_of (drop l.region l.rows))))
    ≤ 2 * region_count (told_items (map row_of l.rows) (told_region (length l.rows) (map row_of l.rows)) (outermost 0 (map row_of l.rows))))
