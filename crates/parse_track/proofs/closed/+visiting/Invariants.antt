use Rattle.std.proofs.Common.{◌≡◌, ◌+◌, ◌-◌, ◌*◌, ◌≤◌, drop, map}
use Rattle.parse_track.specs.Counted.{region_count}
use Rattle.parse_track.specs.Log.{known_names, told_items, told_region}
use Rattle.parse_track.specs.Rows.{item_of, row_of}
use Rattle.parse_track.specs.Pruned.{pruned}
use Rattle.parse_track.specs.Visited.{Stand, Visits, stand_of}
use Rattle.parse_track.proofs.closed.+visiting.Given as goal

abbrev pub decreases-visit_item : goal.decreases-visit_item
decreases-visit_item l = 4 * l.room + 3

abbrev pub decreases-visit_inner : goal.decreases-visit_inner
decreases-visit_inner l = 4 * l.room + 2

abbrev pub decreases-visit_region : goal.decreases-visit_region
decreases-visit_region l = 4 * l.room + 1

abbrev pub decreases-visit : goal.decreases-visit
decreases-visit l = 4 * l.room

abbrev pub invariant-visit-loop-item : goal.invariant-visit-loop-item
invariant-visit-loop-item l =
    (l.found.shadowed.items ≡ l.fn.found.shadowed.items)
    × (((last : Stand)
    → Visits (known_names l.known) l.around.named l.around.func l.around.depth (stand_of l.found l.next) last
    (pruned (known_names l.known) l.around.named (told_items (map row_of l.rows) (told_region (l.room - 1) (map row_of l.rows)) (map item_of (drop l.item-index l.item-items))))
    → Visits (known_names l.known) l.around.named l.around.func l.around.depth (stand_of l.fn.found l.scope) last
    (pruned (known_names l.known) l.around.named (told_items (map row_of l.rows) (told_region (l.room - 1) (map row_of l.rows)) (map item_of l.item-items))))
    × (l.next + 2 * region_count (told_items (map row_of l.rows) (told_region (l.room - 1) (map row_of l.rows)) (map item_of (drop l.item-index l.item-items)))
    ≤ l.scope + 2 * region_count (told_items (map row_of l.rows) (told_region (l.room - 1) (map row_of l.rows)) (map item_of l.item-items))))
