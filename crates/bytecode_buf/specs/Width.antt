-- What stands after an opcode's byte: widths, and which operands are distances and numbers of things.
use Rattle.std.specs.Prelude.{ℕ, ◌+◌, Bool, true, false}
use Rattle.bytecode_buf.specs.declared.opcode.Op.{Op}
use Rattle.bytecode_buf.specs.declared.opcode.Shape.{Shape}
use Rattle.bytecode_buf.specs.declared.opcode.Shape.TheVariants as shape
use Rattle.bytecode_buf.specs.Table.{row_of}

-- the width of an operand in bytes
abbrev pub first_width : Shape → ℕ
first_width shape.Nothing = 0
first_width shape.Whole8 = 1
first_width shape.Whole16 = 2
first_width shape.Whole24 = 3
first_width shape.Whole32 = 4
first_width shape.Whole64 = 8
first_width shape.Atom = 4
first_width shape.Arg = 2
first_width shape.Slot = 3
first_width shape.Aliased = 2
first_width shape.Num = 4
first_width shape.Argc = 2
first_width shape.Place = 3
first_width shape.Jump = 8

-- the width of a second operand: an aliased one has its slot after its hops
abbrev pub second_width : Shape → ℕ
second_width shape.Nothing = 0
second_width shape.Whole8 = 0
second_width shape.Whole16 = 0
second_width shape.Whole24 = 0
second_width shape.Whole32 = 0
second_width shape.Whole64 = 0
second_width shape.Atom = 0
second_width shape.Arg = 0
second_width shape.Slot = 0
second_width shape.Aliased = 3
second_width shape.Num = 0
second_width shape.Argc = 0
second_width shape.Place = 0
second_width shape.Jump = 0

abbrev pub is_jump_shape : Shape → Bool
is_jump_shape shape.Nothing = false
is_jump_shape shape.Whole8 = false
is_jump_shape shape.Whole16 = false
is_jump_shape shape.Whole24 = false
is_jump_shape shape.Whole32 = false
is_jump_shape shape.Whole64 = false
is_jump_shape shape.Atom = false
is_jump_shape shape.Arg = false
is_jump_shape shape.Slot = false
is_jump_shape shape.Aliased = false
is_jump_shape shape.Num = false
is_jump_shape shape.Argc = false
is_jump_shape shape.Place = false
is_jump_shape shape.Jump = true

abbrev pub shape_of : Op → Shape
shape_of op = (row_of op).shape

abbrev pub first_of : Op → ℕ
first_of op = first_width (shape_of op)

abbrev pub second_of : Op → ℕ
second_of op = second_width (shape_of op)

-- the whole width of an instruction
abbrev pub width_of : Op → ℕ
width_of op = 1 + first_of op + second_of op

abbrev pub is_jump : Op → Bool
is_jump op = is_jump_shape (shape_of op)

-- the operand is the number of a text or of another thing, so it can be renumbered
abbrev pub has_number_shape : Shape → Bool
has_number_shape shape.Nothing = false
has_number_shape shape.Whole8 = false
has_number_shape shape.Whole16 = false
has_number_shape shape.Whole24 = false
has_number_shape shape.Whole32 = false
has_number_shape shape.Whole64 = false
has_number_shape shape.Atom = true
has_number_shape shape.Arg = false
has_number_shape shape.Slot = false
has_number_shape shape.Aliased = false
has_number_shape shape.Num = true
has_number_shape shape.Argc = false
has_number_shape shape.Place = false
has_number_shape shape.Jump = false

abbrev pub has_number : Op → Bool
has_number op = has_number_shape (shape_of op)
