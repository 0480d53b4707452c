-- What the steps of an emitter do to code in the making: each maps what stood for code before it to what does after it,
-- from whatever start. This project's own choice.
use Rattle.std.specs.Prelude.{◌≡◌, ℕ, List, [], ◌∷◌, length}
use Rattle.stencil_data.specs.declared.stencils.TryNote.{TryNote}
use Rattle.bytecode_buf.specs.declared.opcode.Op.{Op}
use Rattle.bytecode_buf.specs.declared.waits.Aim.{Aim}
use Rattle.bytecode_buf.specs.declared.waits.Wait.{Wait}
use Rattle.bytecode_buf.specs.Command.{jump}
use Rattle.bytecode_buf.specs.Pieces.{Code, Waiting, landed_by, here, turning, command_width}
use Rattle.bytecode_buf.specs.Appends.{Emitted, Appends}

abbrev pub emitted : List ℕ → List Wait → List TryNote → Emitted
emitted bytes waits notes = record { bytes = bytes; waits = waits; notes = notes }

-- the bytes stand for the code whose jumps that wait for the aim go to its end
abbrev pub Lands : Aim → List ℕ → List Wait → List Wait → List ℕ → List Wait → Type 0
Lands aim bytes inner waits bytes_new waits_new =
    (texts : List (List ℕ)) (start : List ℕ) (notes notes_now : List TryNote) (code : Code)
    → Appends texts (emitted start [] notes) (emitted bytes inner notes_now) code
    → Appends texts (emitted start waits notes) (emitted bytes_new waits_new notes_now) (landed_by command_width jump aim code)

-- the same, and a JumpTarget after it
abbrev pub LandsHere : Aim → List ℕ → List Wait → List Wait → List ℕ → List Wait → Type 0
LandsHere aim bytes inner waits bytes_new waits_new =
    (texts : List (List ℕ)) (start : List ℕ) (notes notes_now : List TryNote) (code : Code)
    → Appends texts (emitted start [] notes) (emitted bytes inner notes_now) code
    → Appends texts (emitted start waits notes) (emitted bytes_new waits_new notes_now) (here aim code)

-- a jump that waits was appended
abbrev pub Waits : Op → Aim → List ℕ → List Wait → List ℕ → List Wait → Type 0
Waits op aim bytes waits bytes_new waits_new =
    (texts : List (List ℕ)) (notes : List TryNote) → Appends texts (emitted bytes waits notes) (emitted bytes_new waits_new notes)
    (Waiting op aim ∷ [])

-- a jump back to the beginning of what stands from `start` on was appended
abbrev pub TurnsBack : Op → ℕ → List ℕ → List ℕ → Type 0
TurnsBack op start bytes bytes_new =
    (texts : List (List ℕ)) (old : Emitted) (waits : List Wait) (notes : List TryNote) (code : Code) → length old.bytes ≡ start
    → Appends texts old (emitted bytes waits notes) code → Appends texts old (emitted bytes_new waits notes) (turning op code)

-- This code was appended; no jump waits in it, and it has no try note.
pub record Emits (texts : List (List ℕ)) (old new : List ℕ) (code : Code) : Type 0 where
  pub anywhere : (waits : List Wait) (notes : List TryNote) → Appends texts (emitted old waits notes) (emitted new waits notes) code
