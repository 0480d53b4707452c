-- Which operands a command of one number has.
use Rattle.std.specs.Prelude.{Bool, true, false}
use Rattle.bytecode_buf.specs.declared.opcode.Op.{Op}
use Rattle.bytecode_buf.specs.declared.opcode.Shape.{Shape}
use Rattle.bytecode_buf.specs.declared.opcode.Shape.TheVariants as shape
use Rattle.bytecode_buf.specs.Width.{shape_of}

-- a number that is neither the number of a text nor a distance
abbrev pub is_counted_shape : Shape → Bool
is_counted_shape shape.Nothing = false
is_counted_shape shape.Whole8 = true
is_counted_shape shape.Whole16 = true
is_counted_shape shape.Whole24 = true
is_counted_shape shape.Whole32 = true
is_counted_shape shape.Whole64 = true
is_counted_shape shape.Atom = false
is_counted_shape shape.Arg = true
is_counted_shape shape.Slot = true
is_counted_shape shape.Aliased = false
is_counted_shape shape.Num = true
is_counted_shape shape.Argc = true
is_counted_shape shape.Place = true
is_counted_shape shape.Jump = false

abbrev pub is_counted : Op → Bool
is_counted op = is_counted_shape (shape_of op)
