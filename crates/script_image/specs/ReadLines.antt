-- An instruction as it is read from bytes, in the words of its line.
use Rattle.std.specs.Prelude.{ℕ, ◌+◌, ◌%◌, ◌^◌, List}
use Rattle.std.specs.Int.{cast_unsigned, w64}
use Rattle.stencil_data.specs.StandsFor.{text_at}
use Rattle.bytecode_buf.specs.declared.instruction.Instr.{Instr}
use Rattle.bytecode_buf.specs.declared.opcode.Shape.{Shape}
use Rattle.bytecode_buf.specs.declared.opcode.Shape.TheVariants as shape
use Rattle.bytecode_buf.specs.Width.{shape_of}
use Rattle.bytecode_buf.specs.Command.{Operand, Nothing, Number, Text, Aliased, Target, Listed}

-- its operand at an offset: a jump's is its target
abbrev pub read_operand : List (List ℕ) → ℕ → Shape → Instr → Operand
read_operand texts at shape.Nothing instr = Nothing
read_operand texts at shape.Whole8 instr = Number instr.a
read_operand texts at shape.Whole16 instr = Number instr.a
read_operand texts at shape.Whole24 instr = Number instr.a
read_operand texts at shape.Whole32 instr = Number instr.a
read_operand texts at shape.Whole64 instr = Number instr.a
read_operand texts at shape.Atom instr = Text (text_at texts instr.a)
read_operand texts at shape.Arg instr = Number instr.a
read_operand texts at shape.Slot instr = Number instr.a
read_operand texts at shape.Aliased instr = Aliased instr.a instr.b
read_operand texts at shape.Num instr = Number instr.a
read_operand texts at shape.Argc instr = Number instr.a
read_operand texts at shape.Place instr = Number instr.a
read_operand texts at shape.Jump instr = Target ((at + cast_unsigned w64 instr.to) % 2 ^ 64)

abbrev pub read_as : List (List ℕ) → ℕ → Instr → Listed
read_as texts at instr = record { at = at; command = record { op = instr.op; operand = read_operand texts at (shape_of instr.op) instr } }
