use Rattle.std.proofs.Common.{◌≡◌, ◌++◌, ◌-◌, map, drop}
use Rattle.parse_track.specs.RegionNames.{lexical_below}
use Rattle.parse_track.specs.Log.{name_of, told_items, told_region}
use Rattle.parse_track.specs.Rows.{item_of, row_of}
use Rattle.parse_track.specs.Rules.{is_inner}
use Rattle.parse_track.proofs.rules.add_inners.Given as goal

abbrev pub invariant-loop-item : goal.invariant-loop-item
invariant-loop-item l =
    map name_of l.names.items ++ lexical_below (is_inner l.inner) (told_items (map row_of l.rows) (told_region (l.room - 1) (map row_of l.rows)) (map item_of (drop l.item-index l.items)))
    ≡ map name_of l.fn.names.items ++ lexical_below (is_inner l.inner) (told_items (map row_of l.rows) (told_region (l.room - 1) (map row_of l.rows)) (map item_of l.items))
