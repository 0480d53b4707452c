use Rattle.std.proofs.Common.{◌≡◌, ◌++◌, drop}
use Rattle.holzikra_listing.specs.Notes.{kept_from, without_notes}
use Rattle.holzikra_listing.proofs.taking.without_notes.Given as goal

abbrev pub invariant-loop-byte : goal.invariant-loop-byte
invariant-loop-byte l = l.plain.items ++ kept_from l.place (drop l.byte-index l.text) ≡ without_notes l.text
