use Rattle.std.proofs.Common.{◌≡◌, ◌++◌, drop}
use Rattle.std.specs.List.{filter_map}
use Rattle.parse_track.specs.Asked.{asked_in}
use Rattle.parse_track.proofs.scopes.add_declared.Given as goal

abbrev pub invariant-loop-item : goal.invariant-loop-item
invariant-loop-item l = l.names.items ++ filter_map (asked_in l.asked) (drop l.item-index l.items) ≡ l.fn.names.items ++ filter_map (asked_in l.asked) l.items
