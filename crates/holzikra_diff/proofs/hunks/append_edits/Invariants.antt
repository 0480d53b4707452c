use Rattle.std.proofs.Common.{◌≡◌, ◌++◌, take}
use Rattle.holzikra_diff.specs.Hunks.{edits_text}
use Rattle.holzikra_diff.proofs.hunks.append_edits.Given as goal

abbrev pub invariant-loop-edit : goal.invariant-loop-edit
invariant-loop-edit l = l.out.items ≡ l.initial.out.items ++ edits_text l.table (take l.edit-index l.edits)
