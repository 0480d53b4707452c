-- Jumps that go to a place of the code that they stand in, its end included. This project's own choice.
use Rattle.std.specs.Prelude.{ℕ, ◌+◌, ◌%◌, ◌^◌, ◌≤◌, List, [], ◌∷◌}
use Rattle.bytecode_buf.specs.Command.{Operand, Nothing, Number, Text, Aliased, Distance, Target, Command}
use Rattle.bytecode_buf.specs.InRange.{JumpWithin}
use Rattle.bytecode_buf.specs.Layout.{Numbered}
use Rattle.bytecode_buf.specs.Pieces.{Piece, Whole, Waiting, Trying, Code, command_width, width_by, size}
use Rattle.bytecode_buf.specs.Width.{shape_of, width_of}

-- ---- commands

-- An operand at an offset of commands of this size: a jump goes to an offset from 0 to the size. No command that is made has
-- its jump's target in place of the distance.
abbrev pub OperandStays : ℕ → ℕ → Operand → Type 0
OperandStays size at Nothing = Unit {0}
OperandStays size at (Number n) = Unit {0}
OperandStays size at (Text text) = Unit {0}
OperandStays size at (Aliased hops slot) = Unit {0}
OperandStays size at (Distance distance) = (at + distance) % 2 ^ 64 ≤ size
OperandStays size at (Target offset) = ⊥

-- commands from an offset on
abbrev pub CommandsStay : ℕ → ℕ → List Command → Type 0
CommandsStay size at [] = Unit {0}
CommandsStay size at (c ∷ cs) = OperandStays size at c.operand × CommandsStay size (at + width_of c.op) cs

-- the bytes that commands take
abbrev pub commands_size : List Command → ℕ
commands_size [] = 0
commands_size (c ∷ cs) = width_of c.op + commands_size cs

-- each jump of these commands goes to a place of them, from the first offset to the end
pub record JumpsStay (commands : List Command) : Type 0 where
  pub stay : CommandsStay (commands_size commands) 0 commands

-- ---- pieces

abbrev pub PieceStays : ℕ → ℕ → Piece Command → Type 0
PieceStays size at (Whole c) = OperandStays size at c.operand
PieceStays size at (Waiting op aim) = Unit {0}
PieceStays size at (Trying size_guarded depth) = Unit {0}

abbrev pub PiecesStay : ℕ → ℕ → Code → Type 0
PiecesStay size at [] = Unit {0}
PiecesStay size at (p ∷ ps) = PieceStays size at p × PiecesStay size (at + width_by command_width p) ps

-- each jump of a code that waits for nothing goes to a place of the code
pub record Stays (code : Code) : Type 0 where
  pub stay : PiecesStay (size code) 0 code

-- ---- instructions

-- the jumps of instructions from an offset on go to offsets from 0 to this one
abbrev pub JumpsWithin : ℕ → ℕ → List Numbered → Type 0
JumpsWithin size at [] = Unit {0}
JumpsWithin size at (i ∷ is) = JumpWithin (shape_of i.op) at i.a size × JumpsWithin size (at + width_of i.op) is

-- the number that an operand is, or 0
abbrev pub number_in : Operand → ℕ
number_in (Number n) = n
number_in _ = 0
