use Rattle.std.proofs.Common.{◌≡◌, ℕ, drop, map}
use Rattle.parse_track.specs.Told.{Told}
use Rattle.parse_track.specs.ClosedNames.{first_at}
use Rattle.parse_track.specs.Log.{told_items}
use Rattle.parse_track.specs.Rows.{item_of, row_of}
use Rattle.parse_track.proofs.closed.first_at.Given as goal

abbrev pub invariant-loop-item : goal.invariant-loop-item
invariant-loop-item l = (inside : ℕ → Told ℕ)
    → first_at l.at (told_items (map row_of l.rows) inside (map item_of (drop l.item-index l.items))) ≡ first_at l.at (told_items (map row_of l.rows) inside (map item_of l.items))
