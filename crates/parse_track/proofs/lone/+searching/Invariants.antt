use Rattle.std.proofs.Common.{◌≡◌, ◌+◌, ◌-◌, ◌*◌, drop, map}
use Rattle.parse_track.specs.Log.{told_items, told_region}
use Rattle.parse_track.specs.Rows.{item_of, row_of}
use Rattle.parse_track.specs.Pruned.{lone}
use Rattle.parse_track.proofs.lone.+searching.Given as goal

abbrev pub decreases-is_lone_item : goal.decreases-is_lone_item
decreases-is_lone_item l = 2 * l.room + 1

abbrev pub decreases-is_lone : goal.decreases-is_lone
decreases-is_lone l = 2 * l.room

abbrev pub invariant-is_lone-loop-item : goal.invariant-is_lone-loop-item
invariant-is_lone-loop-item l =
    lone (told_items (map row_of l.rows) (told_region (l.room - 1) (map row_of l.rows)) (map item_of (drop l.item-index l.item-items)))
    ≡ lone (told_items (map row_of l.rows) (told_region (l.room - 1) (map row_of l.rows)) (map item_of l.item-items))
