-- Instructions whose atoms are changed for others, and which name a function by its number. This project's own choice.
use Rattle.std.specs.Prelude.{◌≡◌, ℕ, ◌+◌, Bool, true, false, List, map, Option, Some, None, slice_index_or, unwrap_or}
use Rattle.bytecode_buf.specs.declared.opcode.Op.{Op}
use Rattle.bytecode_buf.specs.declared.opcode.Op.TheVariants as op
use Rattle.bytecode_buf.specs.declared.opcode.Shape.{Shape}
use Rattle.bytecode_buf.specs.declared.opcode.Shape.TheVariants as shape
use Rattle.bytecode_buf.specs.Command.{Operand, Number, Command, Listed, listed}
use Rattle.bytecode_buf.specs.Layout.{Numbered, instructions, IsWhole}
use Rattle.bytecode_buf.specs.Width.{shape_of, width_of}
use Rattle.stencil_merge.specs.Atoms.{atom_by}
use Rattle.stencil_merge.specs.declared.code.Step.{Step}

-- ---- as numbers

-- the number of the function that an instruction makes, by its place among those directly inside
abbrev pub made_number : List ℕ → Op → ℕ → Option ℕ
made_number numbers op.Lambda place = Some (slice_index_or numbers place 0)
made_number numbers _ place = None

abbrev pub new_operand_of : List ℕ → List ℕ → Op → Shape → ℕ → Option ℕ
new_operand_of atoms numbers o shape.Atom a = Some (atom_by atoms a)
new_operand_of atoms numbers o _ a = made_number numbers o a

-- what an instruction of this opcode has in place of an operand, where it has something else
abbrev pub new_operand : List ℕ → List ℕ → Op → ℕ → Option ℕ
new_operand atoms numbers o a = new_operand_of atoms numbers o (shape_of o) a

abbrev pub instruction_by : List ℕ → List ℕ → Numbered → Numbered
instruction_by atoms numbers i = record { op = i.op; a = unwrap_or (new_operand atoms numbers i.op i.a) i.a; b = i.b }

-- the instructions of the new code are those of the old one, with these atoms and these numbers of functions
abbrev pub AreInstructionsBy : List ℕ → List ℕ → List ℕ → List ℕ → Type 0
AreInstructionsBy atoms numbers old new = instructions new ≡ map (instruction_by atoms numbers) (instructions old)

-- so they are, and the new code is whole instructions where the old one is
pub record IsCodeBy (atoms numbers old new : List ℕ) : Type 0 where
  pub are : AreInstructionsBy atoms numbers old new
  pub whole : IsWhole old → IsWhole new

-- what is read of an instruction at an offset to pass over it
abbrev pub step_at : ℕ → Numbered → Step
step_at at i = record { op = i.op; shape = shape_of i.op; next = at + width_of i.op }

-- whether an instruction of this opcode makes a function
abbrev pub makes_function : Op → Bool
makes_function op.Lambda = true
makes_function _ = false

-- whether its operand, of this shape, is the number of a text or of a function
abbrev pub is_numbered : Op → Shape → Bool
is_numbered o shape.Atom = true
is_numbered o _ = makes_function o

-- ---- as what they stand for

-- A function that is made inside another one is named in its code by its place among those; in a whole script it is named by
-- its number.
abbrev pub numbered_operand : List ℕ → Op → Operand → Operand
numbered_operand numbers op.Lambda (Number place) = Number (slice_index_or numbers place 0)
numbered_operand numbers o operand = operand

abbrev pub numbered_command : List ℕ → Command → Command
numbered_command numbers c = record { op = c.op; operand = numbered_operand numbers c.op c.operand }

abbrev pub numbered_listed : List ℕ → Listed → Listed
numbered_listed numbers l = record { at = l.at; command = numbered_command numbers l.command }

-- a list of commands, and a list of instructions with their offsets
abbrev pub numbered_commands : List ℕ → List Command → List Command
numbered_commands numbers commands = map (numbered_command numbers) commands

abbrev pub numbered_list : List ℕ → List Listed → List Listed
numbered_list numbers list = map (numbered_listed numbers) list

-- bytes stand for these instructions, whatever they are
abbrev pub ShowsListed : List (List ℕ) → List ℕ → List Listed → Type 0
ShowsListed texts code list = listed texts code ≡ list
