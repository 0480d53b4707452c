use Rattle.std.proofs.Common.{◌≡◌, ◌++◌, map, drop, ◌+◌, ◌-◌, ◌*◌}
use Rattle.parse_track.specs.RegionNames.{vars}
use Rattle.parse_track.specs.Log.{name_of, told_items, told_region}
use Rattle.parse_track.specs.Rows.{item_of, row_of}
use Rattle.parse_track.proofs.names.+hoisting.Given as goal

abbrev pub decreases-add_item_vars : goal.decreases-add_item_vars
decreases-add_item_vars l = 2 * l.room + 1

abbrev pub decreases-add_vars : goal.decreases-add_vars
decreases-add_vars l = 2 * l.room

abbrev pub invariant-add_vars-loop-item : goal.invariant-add_vars-loop-item
invariant-add_vars-loop-item l =
    map name_of l.names.items ++ vars (told_items (map row_of l.rows) (told_region (l.room - 1) (map row_of l.rows)) (map item_of (drop l.item-index l.items)))
    ≡ map name_of l.fn.names.items ++ vars (told_items (map row_of l.rows) (told_region (l.room - 1) (map row_of l.rows)) (map item_of l.items))
