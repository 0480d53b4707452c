use Rattle.std.proofs.Common.{◌≡◌, ℕ, Bool, ◌+◌, ◌-◌, ◌*◌, map, drop}
use Rattle.parse_track.specs.EarlyErrors.{smaller}
use Rattle.parse_track.specs.AtomTables.{entry}
use Rattle.parse_track.specs.Clashes.{clashes}
use Rattle.parse_track.specs.LexicalNames.{offset_for, firsts_of, AreKeptTo}
use Rattle.parse_track.specs.Log.{told_items, told_region}
use Rattle.parse_track.specs.Rows.{item_of, row_of}
use Rattle.parse_track.proofs.clashing.+clashing.Given as goal

abbrev pub decreases-clash_in_item : goal.decreases-clash_in_item
decreases-clash_in_item l = 3 * l.room + 2

abbrev pub decreases-clash_inside : goal.decreases-clash_inside
decreases-clash_inside l = 3 * l.room + 1

abbrev pub decreases-clash_in : goal.decreases-clash_in
decreases-clash_in l = 3 * l.room

abbrev pub invariant-clash_in-loop-item : goal.invariant-clash_in-loop-item
invariant-clash_in-loop-item l =
    ((y : ℕ) → entry l.names.entries.items y ≡ entry l.fn.names.entries.items y)
    × (AreKeptTo l.depth (entry l.fn.names.entries.items) → (heads : Bool) →
    smaller (offset_for heads l.found) (clashes heads (firsts_of heads l.depth (entry l.fn.names.entries.items)) (told_items (map row_of l.rows) (told_region (l.room - 1) (map row_of l.rows)) (map item_of (drop l.item-index l.items))))
    ≡ smaller (offset_for heads l.fn.found) (clashes heads (firsts_of heads l.depth (entry l.fn.names.entries.items)) (told_items (map row_of l.rows) (told_region (l.room - 1) (map row_of l.rows)) (map item_of l.items))))
