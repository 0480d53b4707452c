use Rattle.std.proofs.Common.{◌≡◌, ℕ, ◌+◌, length, slice_get, Some}
use Rattle.holzikra_objects.specs.declared.notes.ScriptNotes.{ScriptNotes}
use Rattle.holzikra_scripts.specs.Notes.{IsNoteAt, source_of}
use Rattle.holzikra_scripts.proofs.notes.script_notes.Given as goal

abbrev pub invariant-loop-index : goal.invariant-loop-index
invariant-loop-index l =
    (length l.notes.items ≡ l.index + 1)
    × ((k : ℕ) (note : ScriptNotes) → slice_get l.notes.items k ≡ Some note → IsNoteAt (source_of l.source) l.stencil k note)
