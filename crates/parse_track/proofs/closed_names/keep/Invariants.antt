use Rattle.std.proofs.Common.{◌≡◌, ◌++◌, drop}
use Rattle.parse_track.specs.ClosedNames.{kept}
use Rattle.parse_track.specs.Scopes.{bounds_of}
use Rattle.parse_track.proofs.closed_names.keep.Given as goal

abbrev pub invariant-loop-place : goal.invariant-loop-place
invariant-loop-place l = bounds_of l.some.items ++ kept (drop l.place l.marked) (bounds_of (drop l.place l.bound)) ≡ kept l.marked (bounds_of l.bound)
