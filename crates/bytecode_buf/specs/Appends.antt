-- When bytes with jumps that wait and try notes stand for code. This project's own choice.
use Rattle.std.specs.Prelude.{◌≡◌, ℕ, ◌+◌, ◌≤◌, Bool, true, false, List, [], ◌∷◌, ◌++◌, length, map}
use Rattle.stencil_data.specs.declared.stencils.TryNote.{TryNote}
use Rattle.bytecode_buf.specs.declared.opcode.Op.{Op}
use Rattle.bytecode_buf.specs.declared.opcode.Op.TheVariants as op
use Rattle.bytecode_buf.specs.declared.waits.Aim.{Aim}
use Rattle.bytecode_buf.specs.declared.waits.Wait.{Wait}
use Rattle.bytecode_buf.specs.Bytes.{le_bytes, written}
use Rattle.bytecode_buf.specs.Width.{width_of, is_jump}
use Rattle.bytecode_buf.specs.Layout.{Numbered, Fits, laid, distance_bits}
use Rattle.bytecode_buf.specs.Command.{Command, command_of}
use Rattle.bytecode_buf.specs.Pieces.{Piece, Whole, Waiting, Trying, Code, notes_by, same_aim}

abbrev pub numbered : Op → ℕ → Numbered
numbered op a = record { op = op; a = a; b = 0 }

abbrev pub numbered_width : Numbered → ℕ
numbered_width i = width_of i.op

-- a piece of numbered instructions, as it is laid out while its jump waits
abbrev pub piece_instruction : Piece Numbered → Numbered
piece_instruction (Whole i) = i
piece_instruction (Waiting op aim) = numbered op 0
piece_instruction (Trying size depth) = numbered op.Try 0

abbrev pub laid_pieces : List (Piece Numbered) → List ℕ
laid_pieces [] = []
laid_pieces (p ∷ ps) = laid (piece_instruction p) ++ laid_pieces ps

abbrev pub PieceFits : Piece Numbered → Type 0
PieceFits (Whole i) = Fits i
PieceFits (Waiting op aim) = is_jump op ≡ true
PieceFits (Trying size depth) = Unit {0}

abbrev pub PiecesFit : List (Piece Numbered) → Type 0
PiecesFit [] = Unit {0}
PiecesFit (p ∷ ps) = PieceFits p × PiecesFit ps

abbrev pub wait_of : ℕ → Piece Numbered → List Wait → List Wait
wait_of at (Whole i) further = further
wait_of at (Waiting op aim) further = record { at = at; aim = aim } ∷ further
wait_of at (Trying size depth) further = further

-- the jumps that wait in pieces that begin at an offset
abbrev pub waits_of : ℕ → List (Piece Numbered) → List Wait
waits_of at [] = []
waits_of at (p ∷ ps) = wait_of at p (waits_of (at + numbered_width (piece_instruction p)) ps)

-- the piece of code that a piece of numbered instructions stands for
abbrev pub piece_of : List (List ℕ) → Piece Numbered → Piece Command
piece_of texts (Whole i) = Whole (command_of texts i)
piece_of texts (Waiting op aim) = Waiting op aim
piece_of texts (Trying size depth) = Trying size depth

-- an emitter's state: the bytes, the jumps that wait, the try notes
pub record Emitted : Type 0 where
  pub bytes : List ℕ
  pub waits : List Wait
  pub notes : List TryNote

-- from the old state to the new one this code was appended
pub record Appends (texts : List (List ℕ)) (old new : Emitted) (code : Code) : Type 0 where
  pub pieces : List (Piece Numbered)
  pub fit : PiecesFit pieces
  pub bytes : new.bytes ≡ old.bytes ++ laid_pieces pieces
  pub waits : new.waits ≡ old.waits ++ waits_of (length old.bytes) pieces
  pub notes : new.notes ≡ old.notes ++ notes_by numbered_width (length old.bytes) pieces
  pub stands : map (piece_of texts) pieces ≡ code

-- the bytes when each jump that waits for this aim was sent to their end
abbrev pub patched_one : Bool → ℕ → List ℕ → List ℕ
patched_one true at bytes = written (at + 1) (le_bytes 8 (distance_bits at (length bytes))) bytes
patched_one false at bytes = bytes

abbrev pub patched : Aim → List Wait → List ℕ → List ℕ
patched aim [] bytes = bytes
patched aim (w ∷ ws) bytes = patched aim ws (patched_one (same_aim aim w.aim) w.at bytes)

-- the jumps that wait for other aims
abbrev pub kept_one : Bool → Wait → List Wait → List Wait
kept_one true w further = further
kept_one false w further = w ∷ further

abbrev pub kept : Aim → List Wait → List Wait
kept aim [] = []
kept aim (w ∷ ws) = kept_one (same_aim aim w.aim) w (kept aim ws)

-- each of these jumps lies within n bytes
abbrev pub AllRoom : ℕ → List Wait → Type 0
AllRoom size [] = Unit {0}
AllRoom size (w ∷ ws) = (w.at + 9 ≤ size) × AllRoom size ws
