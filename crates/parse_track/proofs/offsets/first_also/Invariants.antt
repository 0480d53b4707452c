use Rattle.std.proofs.Common.{◌≡◌, nat_eq, drop, map}
use Rattle.parse_track.specs.EarlyErrors.{smaller, smallest, also_in}
use Rattle.parse_track.specs.Log.{name_of}
use Rattle.parse_track.proofs.offsets.first_also.Given as goal

abbrev pub invariant-loop-name : goal.invariant-loop-name
invariant-loop-name l =
    smaller l.first (smallest (also_in nat_eq (map name_of l.xs) (map name_of (drop l.name-index l.ys)))) ≡ smallest (also_in nat_eq (map name_of l.xs) (map name_of l.ys))
