use Rattle.std.proofs.Common.{◌≡◌, ◌*◌, ◌≤◌, map, take}
use Rattle.std.specs.Prelude.{sum}
use Rattle.holzikra_stats.specs.Counts.{closed_names}
use Rattle.holzikra_stats.proofs.sums.closed_of.Given as goal

abbrev pub invariant-loop-lazy : goal.invariant-loop-lazy
invariant-loop-lazy l = (l.count ≡ sum (map closed_names (take l.lazy-index l.records))) × (l.count ≤ l.lazy-index * 18446744073709551615)
