use Rattle.std.proofs.Common.{◌≡◌, ◌+◌, ◌-◌, ◌*◌, map, drop}
use Rattle.parse_track.specs.EarlyErrors.{smaller, smallest, at_regions}
use Rattle.parse_track.specs.Log.{known_names, told_items, told_region}
use Rattle.parse_track.specs.Rows.{item_of, row_of}
use Rattle.parse_track.specs.Rules.{RegionRule, rule_of, offset_of}
use Rattle.parse_track.proofs.rules.+seeking.Given as goal

abbrev pub decreases-seek_in_item : goal.decreases-seek_in_item
decreases-seek_in_item l = 2 * l.room + 1

abbrev pub decreases-seek_in : goal.decreases-seek_in
decreases-seek_in l = 2 * l.room

abbrev pub invariant-seek_in-loop-item : goal.invariant-seek_in-loop-item
invariant-seek_in-loop-item l =
    (rule : RegionRule) →
    smaller (offset_of l.offsets rule) (smallest (at_regions (rule_of rule (known_names l.known)) (told_items (map row_of l.rows) (told_region (l.room - 1) (map row_of l.rows)) (map item_of (drop l.item-index l.items)))))
    ≡ smaller (offset_of l.fn.offsets rule) (smallest (at_regions (rule_of rule (known_names l.known)) (told_items (map row_of l.rows) (told_region (l.room - 1) (map row_of l.rows)) (map item_of l.items))))
