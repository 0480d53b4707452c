use Rattle.std.proofs.Common.{◌≡◌, take}
use Rattle.parse_track.specs.Walk.{marks}
use Rattle.parse_track.proofs.closed_names.mark.Given as goal

abbrev pub invariant-loop-hit : goal.invariant-loop-hit
invariant-loop-hit l = l.marked.items ≡ marks (take l.hit-index l.hits) 0 l.count
