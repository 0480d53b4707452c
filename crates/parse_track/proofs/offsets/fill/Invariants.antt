use Rattle.std.proofs.Common.{◌≡◌, ℕ, nat_eq, take, map}
use Rattle.parse_track.specs.AtomSets.{has_atom}
use Rattle.parse_track.specs.EarlyErrors.{has_name}
use Rattle.parse_track.specs.Log.{name_of}
use Rattle.parse_track.proofs.offsets.fill.Given as goal

abbrev pub invariant-loop-name : goal.invariant-loop-name
invariant-loop-name l = (q : ℕ) → has_atom l.atoms.marks.items l.atoms.version q ≡ has_name nat_eq q (map name_of (take l.name-index l.names))
