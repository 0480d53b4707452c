use Rattle.std.proofs.Common.{◌≡◌, ◌*◌, ◌≤◌, map, take}
use Rattle.std.specs.Prelude.{sum}
use Rattle.holzikra_stats.specs.Counts.{entry_instructions}
use Rattle.holzikra_stats.proofs.sums.instructions_of.Given as goal

abbrev pub invariant-loop-entry : goal.invariant-loop-entry
invariant-loop-entry l = (l.count ≡ sum (map entry_instructions (take l.entry-index l.entries))) × (l.count ≤ l.entry-index * 18446744073709551615)
