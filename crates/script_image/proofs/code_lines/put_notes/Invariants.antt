use Rattle.std.proofs.Common.{◌≡◌, ◌++◌, take, flat_map}
use Rattle.script_image.specs.CodeLines.{note_line}
use Rattle.script_image.proofs.code_lines.put_notes.Given as goal

abbrev pub invariant-loop-note : goal.invariant-loop-note
invariant-loop-note l = l.out.items ++ l.chunk.items ≡ (l.initial.out.items ++ l.initial.chunk.items) ++ flat_map note_line (take l.note-index l.notes)
