use Rattle.std.proofs.Common.{◌≡◌, nat_eq, drop, map}
use Rattle.parse_track.specs.EarlyErrors.{smaller, smallest, reserved}
use Rattle.parse_track.specs.Log.{name_of, known_names}
use Rattle.parse_track.proofs.offsets.first_reserved.Given as goal

abbrev pub invariant-loop-name : goal.invariant-loop-name
invariant-loop-name l =
    smaller l.first (smallest (reserved nat_eq (known_names l.known) (map name_of (drop l.name-index l.names)))) ≡ smallest (reserved nat_eq (known_names l.known) (map name_of l.names))
