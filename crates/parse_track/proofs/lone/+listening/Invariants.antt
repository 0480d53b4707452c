use Rattle.std.proofs.Common.{◌≡◌, ◌+◌, ◌-◌, ◌*◌, drop, map}
use Rattle.parse_track.specs.AtomTables.{entry}
use Rattle.parse_track.specs.Log.{told_items, told_region}
use Rattle.parse_track.specs.Rows.{item_of, row_of}
use Rattle.parse_track.specs.Pruned.{quiet}
use Rattle.parse_track.proofs.lone.+listening.Given as goal

abbrev pub decreases-is_quiet_item : goal.decreases-is_quiet_item
decreases-is_quiet_item l = 2 * l.room + 1

abbrev pub decreases-is_quiet : goal.decreases-is_quiet
decreases-is_quiet l = 2 * l.room

abbrev pub invariant-is_quiet-loop-item : goal.invariant-is_quiet-loop-item
invariant-is_quiet-loop-item l =
    quiet (entry l.env.entries.items) l.depth (told_items (map row_of l.rows) (told_region (l.room - 1) (map row_of l.rows)) (map item_of (drop l.item-index l.item-items)))
    ≡ quiet (entry l.env.entries.items) l.depth (told_items (map row_of l.rows) (told_region (l.room - 1) (map row_of l.rows)) (map item_of l.item-items))
