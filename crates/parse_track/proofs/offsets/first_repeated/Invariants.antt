use Rattle.std.proofs.Common.{◌≡◌, ℕ, [], nat_eq, take, drop, map}
use Rattle.parse_track.specs.AtomSets.{has_atom}
use Rattle.parse_track.specs.EarlyErrors.{has_name, smaller, smallest, repeated}
use Rattle.parse_track.specs.Log.{name_of}
use Rattle.parse_track.proofs.offsets.first_repeated.Given as goal

abbrev pub invariant-loop-name : goal.invariant-loop-name
invariant-loop-name l =
    ((q : ℕ) → has_atom l.seen.marks.items l.seen.version q ≡ has_name nat_eq q (map name_of (take l.name-index l.names)))
    × (smaller l.first (smallest (repeated nat_eq (map name_of (take l.name-index l.names)) (map name_of (drop l.name-index l.names)))) ≡ smallest (repeated nat_eq [] (map name_of l.names)))
