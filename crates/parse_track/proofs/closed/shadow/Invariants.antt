use Rattle.std.proofs.Common.{◌≡◌, ◌++◌, map, drop}
use Rattle.parse_track.specs.AtomTables.{entry}
use Rattle.parse_track.specs.Shadows.{shadow_of}
use Rattle.parse_track.proofs.closed.shadow.Given as goal

abbrev pub invariant-loop-at : goal.invariant-loop-at
invariant-loop-at l =
    l.shadowed.items ++ map (shadow_of (entry l.env.entries.items)) (drop l.at-index l.bound) ≡ l.fn.shadowed.items ++ map (shadow_of (entry l.env.entries.items)) l.bound
