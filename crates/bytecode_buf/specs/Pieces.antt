-- Code in the making: whole instructions, and jumps that wait for the place of their target. This project's own choice.
use Rattle.std.specs.Prelude.{ℕ, ◌+◌, ◌-◌, ◌^◌, Bool, true, false, nat_eq, if◌then◌else◌, List, [], ◌∷◌, ◌++◌, map}
use Rattle.stencil_data.specs.declared.stencils.TryNote.{TryNote}
use Rattle.bytecode_buf.specs.declared.opcode.Op.{Op}
use Rattle.bytecode_buf.specs.declared.opcode.Op.TheVariants as op
use Rattle.bytecode_buf.specs.declared.waits.Aim.{Aim}
use Rattle.bytecode_buf.specs.declared.waits.Aim.TheVariants as aim
use Rattle.bytecode_buf.specs.Width.{width_of}
use Rattle.bytecode_buf.specs.Command.{Command, plain, jump}

-- an instruction, a jump that waits for what it aims at, or a Try with the size of what it guards and its depth
pub data Piece (A : Type 0) : Type 0 where
  Whole : A → Piece A
  Waiting : Op → Aim → Piece A
  Trying : (size depth : ℕ) → Piece A

abbrev pub same_aim : Aim → Aim → Bool
same_aim aim.Otherwise aim.Otherwise = true
same_aim aim.After aim.After = true
same_aim (aim.Clause m) (aim.Clause n) = nat_eq m n
same_aim (aim.Break m) (aim.Break n) = nat_eq m n
same_aim (aim.Continue m) (aim.Continue n) = nat_eq m n
same_aim _ _ = false

-- the bytes that a piece will take
abbrev pub width_by : {A : Type 0} → (A → ℕ) → Piece A → ℕ
width_by width (Whole a) = width a
width_by width (Waiting op aim) = width_of op
width_by width (Trying size depth) = width_of op.Try

abbrev pub size_by : {A : Type 0} → (A → ℕ) → List (Piece A) → ℕ
size_by width [] = 0
size_by width (p ∷ ps) = width_by width p + size_by width ps

-- a piece when the place that its jump waits for is this far after its beginning
abbrev pub landing : {A : Type 0} → (Op → ℕ → A) → Aim → ℕ → Piece A → Piece A
landing make aim distance (Whole a) = Whole a
landing make aim distance (Waiting op other) = if same_aim aim other then Whole (make op distance) else Waiting op other
landing make aim distance (Trying size depth) = Trying size depth

-- each jump that waits for this aim goes to the place after the pieces
abbrev pub landed_by : {A : Type 0} → (A → ℕ) → (Op → ℕ → A) → Aim → List (Piece A) → List (Piece A)
landed_by width make aim [] = []
landed_by width make aim (p ∷ ps) = landing make aim (width_by width p + size_by width ps) p ∷ landed_by width make aim ps

-- what still waits is laid out with distance 0
abbrev pub settled_piece : {A : Type 0} → (Op → ℕ → A) → (Op → A) → Piece A → A
settled_piece make bare (Whole a) = a
settled_piece make bare (Waiting op aim) = make op 0
settled_piece make bare (Trying size depth) = bare op.Try

-- a try note of a Try at an offset: from after the Try to after what it guards
abbrev pub note_at : ℕ → ℕ → ℕ → TryNote
note_at at size depth = record { start = at + 1; end = at + 1 + size; depth = depth }

abbrev pub note_of : {A : Type 0} → ℕ → Piece A → List TryNote → List TryNote
note_of at (Whole a) further = further
note_of at (Waiting op aim) further = further
note_of at (Trying size depth) further = note_at at size depth ∷ further

-- the try notes of pieces that begin at an offset, in order of their start
abbrev pub notes_by : {A : Type 0} → (A → ℕ) → ℕ → List (Piece A) → List TryNote
notes_by width at [] = []
notes_by width at (p ∷ ps) = note_of at p (notes_by width (at + width_by width p) ps)

abbrev pub command_width : Command → ℕ
command_width c = width_of c.op

-- pieces of code
abbrev pub Code : Type 0
Code = List (Piece Command)

abbrev pub one : Command → Code
one c = Whole c ∷ []

abbrev pub size : Code → ℕ
size code = size_by command_width code

-- the code, with a JumpTarget after it to which each jump goes that waits for this aim
abbrev pub here : Aim → Code → Code
here aim code = landed_by command_width jump aim code ++ Whole (plain op.JumpTarget) ∷ []

-- the code, and a jump back to its beginning
abbrev pub turning : Op → Code → Code
turning op code = code ++ Whole (jump op (2 ^ 64 - size code)) ∷ []

-- the finished commands of a code, and its try notes
abbrev pub settled : Code → List Command
settled code = map (settled_piece jump plain) code

abbrev pub notes : Code → List TryNote
notes code = notes_by command_width 0 code
