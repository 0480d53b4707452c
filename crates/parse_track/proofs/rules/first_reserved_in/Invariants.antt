use Rattle.std.proofs.Common.{◌≡◌, nat_eq, drop, map}
use Rattle.std.specs.Prelude.{filter_map}
use Rattle.parse_track.specs.Asked.{asked_in}
use Rattle.parse_track.specs.declared.names.Asked.TheVariants.{All}
use Rattle.parse_track.specs.EarlyErrors.{smaller, smallest, reserved}
use Rattle.parse_track.specs.Log.{name_of, known_names}
use Rattle.parse_track.proofs.rules.first_reserved_in.Given as goal

abbrev pub invariant-loop-item : goal.invariant-loop-item
invariant-loop-item l =
    smaller l.first (smallest (reserved nat_eq (known_names l.known) (map name_of (filter_map (asked_in All) (drop l.item-index l.items)))))
    ≡ smallest (reserved nat_eq (known_names l.known) (map name_of (filter_map (asked_in All) l.items)))
