use Rattle.std.proofs.Common.{◌≡◌, ℕ, ◌++◌, nat_eq, take, drop}
use Rattle.std.specs.List.{list_any}
use Rattle.parse_track.specs.AtomSets.{has_atom}
use Rattle.parse_track.specs.ClosedNames.{distinct, without, bound_in}
use Rattle.parse_track.specs.Scopes.{bounds_of, names_in}
use Rattle.parse_track.proofs.scopes.push_scope.Given as goal

abbrev pub invariant-loop-name : goal.invariant-loop-name
invariant-loop-name l =
    ((q : ℕ) → has_atom l.seen.marks.items l.seen.version q ≡ list_any (nat_eq q) (take l.name-index (names_in l.names)))
    × (bounds_of l.bound.items ++ bound_in l.func l.scope (without nat_eq (take l.name-index (names_in l.names)) (drop l.name-index (names_in l.names)))
    ≡ bounds_of l.fn.bound.items ++ bound_in l.func l.scope (distinct nat_eq (names_in l.names)))
