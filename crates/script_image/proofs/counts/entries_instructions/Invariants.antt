use Rattle.std.proofs.Common.{◌≡◌, ◌*◌, ◌≤◌, map, take}
use Rattle.std.specs.Prelude.{sum}
use Rattle.script_image.specs.Listed.{entry_size}
use Rattle.script_image.proofs.counts.entries_instructions.Given as goal

abbrev pub invariant-loop-entry : goal.invariant-loop-entry
invariant-loop-entry l = (l.count ≡ sum (map entry_size (take l.entry-index l.entries))) × (l.count ≤ l.entry-index * 18446744073709551615)
