use Rattle.std.proofs.Common.{◌≡◌, nat_eq, ◌+◌, ◌-◌, ◌*◌, map, drop}
use Rattle.parse_track.specs.EarlyErrors.{smaller, smallest, wrong_jumps}
use Rattle.parse_track.specs.Log.{told_items, told_region}
use Rattle.parse_track.specs.Rows.{item_of, row_of}
use Rattle.parse_track.specs.Targets.{around_of}
use Rattle.parse_track.proofs.jumps.+jumping.Given as goal

abbrev pub decreases-jumps_in_item : goal.decreases-jumps_in_item
decreases-jumps_in_item l = 4 * l.room + 3

abbrev pub decreases-jumps_inside : goal.decreases-jumps_inside
decreases-jumps_inside l = 4 * l.room + 2

abbrev pub decreases-jumps_in_function : goal.decreases-jumps_in_function
decreases-jumps_in_function l = 4 * l.room + 1

abbrev pub decreases-jumps_in_loop : goal.decreases-jumps_in_loop
decreases-jumps_in_loop l = 4 * l.room + 1

abbrev pub decreases-jumps_in_switch : goal.decreases-jumps_in_switch
decreases-jumps_in_switch l = 4 * l.room + 1

abbrev pub decreases-jumps_in_label : goal.decreases-jumps_in_label
decreases-jumps_in_label l = 4 * l.room + 1

abbrev pub decreases-jumps_in : goal.decreases-jumps_in
decreases-jumps_in l = 4 * l.room

abbrev pub invariant-jumps_in-loop-item : goal.invariant-jumps_in-loop-item
invariant-jumps_in-loop-item l =
    (around_of l.targets ≡ around_of l.fn.targets)
    × (smaller l.first (smallest (wrong_jumps nat_eq (around_of l.fn.targets) (told_items (map row_of l.rows) (told_region (l.room - 1) (map row_of l.rows)) (map item_of (drop l.item-index l.items)))))
    ≡ smallest (wrong_jumps nat_eq (around_of l.fn.targets) (told_items (map row_of l.rows) (told_region (l.room - 1) (map row_of l.rows)) (map item_of l.items))))
