use Rattle.std.specs.Prelude.{All}
use Rattle.holzikra_diff.specs.Changes.{IsChange}
use Rattle.holzikra_diff.proofs.changes.changes_of.Given as goal

abbrev pub invariant-paired : goal.invariant-paired
invariant-paired l = All (IsChange l.old_lines l.new_lines) l.changes.items

abbrev pub invariant-removed : goal.invariant-removed
invariant-removed l = All (IsChange l.old_lines l.new_lines) l.changes.items
