-- Instructions with texts in place of atoms, and the list of instructions that a code is. This project's own choice.
use Rattle.std.specs.Prelude.{◌≡◌, ℕ, ◌+◌, ◌%◌, ◌^◌, List, [], ◌∷◌, slice_index_or}
use Rattle.bytecode_buf.specs.declared.opcode.Op.{Op}
use Rattle.bytecode_buf.specs.declared.opcode.Shape.{Shape}
use Rattle.bytecode_buf.specs.declared.opcode.Shape.TheVariants as shape
use Rattle.bytecode_buf.specs.Width.{shape_of, width_of}
use Rattle.bytecode_buf.specs.Layout.{Numbered, instructions, IsWhole}

-- what an instruction says besides its opcode
pub data Operand : Type 0 where
  Nothing : Operand
  Number : ℕ → Operand
  Text : List ℕ → Operand
  Aliased : (hops slot : ℕ) → Operand
  -- a jump's distance in bytes, modulo 2^64
  Distance : ℕ → Operand
  -- a jump's target as an offset of its code
  Target : ℕ → Operand

pub record Command : Type 0 where
  pub op : Op
  pub operand : Operand

-- the commands of each shape
abbrev pub plain : Op → Command
plain op = record { op = op; operand = Nothing }

abbrev pub counted : Op → ℕ → Command
counted op n = record { op = op; operand = Number n }

abbrev pub named : Op → List ℕ → Command
named op text = record { op = op; operand = Text text }

abbrev pub aliased : Op → ℕ → ℕ → Command
aliased op hops slot = record { op = op; operand = Aliased hops slot }

abbrev pub jump : Op → ℕ → Command
jump op distance = record { op = op; operand = Distance distance }

-- the operand that numbers stand for
abbrev pub operand_of : List (List ℕ) → Shape → ℕ → ℕ → Operand
operand_of texts shape.Nothing a b = Nothing
operand_of texts shape.Whole8 a b = Number a
operand_of texts shape.Whole16 a b = Number a
operand_of texts shape.Whole24 a b = Number a
operand_of texts shape.Whole32 a b = Number a
operand_of texts shape.Whole64 a b = Number a
operand_of texts shape.Atom a b = Text (slice_index_or texts a [])
operand_of texts shape.Arg a b = Number a
operand_of texts shape.Slot a b = Number a
operand_of texts shape.Aliased a b = Aliased a b
operand_of texts shape.Num a b = Number a
operand_of texts shape.Argc a b = Number a
operand_of texts shape.Place a b = Number a
operand_of texts shape.Jump a b = Distance a

-- the command that a numbered instruction stands for
abbrev pub command_of : List (List ℕ) → Numbered → Command
command_of texts i = record { op = i.op; operand = operand_of texts (shape_of i.op) i.a i.b }

-- an operand at an offset: a jump's distance as its target
abbrev pub operand_at : ℕ → Operand → Operand
operand_at at Nothing = Nothing
operand_at at (Number n) = Number n
operand_at at (Text text) = Text text
operand_at at (Aliased hops slot) = Aliased hops slot
operand_at at (Distance distance) = Target ((at + distance) % 2 ^ 64)
operand_at at (Target offset) = Target offset

abbrev pub command_at : ℕ → Command → Command
command_at at c = record { op = c.op; operand = operand_at at c.operand }

-- the commands of a list of instructions from an offset on, with their offsets, jumps by their targets
pub record Listed : Type 0 where
  pub at : ℕ
  pub command : Command

abbrev pub listed_from : List (List ℕ) → ℕ → List Numbered → List Listed
listed_from texts at [] = []
listed_from texts at (i ∷ is) = record { at = at; command = command_at at (command_of texts i) } ∷ listed_from texts (at + width_of i.op) is

-- What a code stands for: its whole instructions from offset 0, whatever they are, an atom as its text and a jump as
-- its target's offset, whether or not an instruction starts there.
abbrev pub listed : List (List ℕ) → List ℕ → List Listed
listed texts code = listed_from texts 0 (instructions code)

-- the list that commands with distances are, from an offset on
abbrev pub placed_from : ℕ → List Command → List Listed
placed_from at [] = []
placed_from at (c ∷ cs) = record { at = at; command = command_at at c } ∷ placed_from (at + width_of c.op) cs

abbrev pub placed : List Command → List Listed
placed commands = placed_from 0 commands

-- Bytes are whole instructions, and stand for these commands.
pub record ShowsCommands (texts : List (List ℕ)) (code : List ℕ) (commands : List Command) : Type 0 where
  pub is : listed texts code ≡ placed commands
  pub whole : IsWhole code
