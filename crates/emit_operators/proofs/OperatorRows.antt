-- The opcode of each operator, computed.
use Rattle.std.proofs.Common.{◌≡◌, true, false, refl}
use Rattle.script_grammar.specs.declared.token.mark.TheConstants as mark
use Rattle.script_grammar.specs.declared.token.word.TheConstants as word
use Rattle.bytecode_buf.specs.declared.opcode.Op.TheVariants as op
use Rattle.emit_operators.specs.Operators.{binary_op, assign_op, prefix_op, update_op}

-- ---- binary operators

binary-in : binary_op true word.IN ≡ op.In
binary-in = refl

binary-instanceof : binary_op true word.INSTANCEOF ≡ op.Instanceof
binary-instanceof = refl

binary-less : binary_op false mark.LESS ≡ op.Lt
binary-less = refl

binary-greater : binary_op false mark.GREATER ≡ op.Gt
binary-greater = refl

binary-less_equal : binary_op false mark.LESS_EQUAL ≡ op.Le
binary-less_equal = refl

binary-greater_equal : binary_op false mark.GREATER_EQUAL ≡ op.Ge
binary-greater_equal = refl

binary-equal : binary_op false mark.EQUAL ≡ op.Eq
binary-equal = refl

binary-not_equal : binary_op false mark.NOT_EQUAL ≡ op.Ne
binary-not_equal = refl

binary-strict_equal : binary_op false mark.STRICT_EQUAL ≡ op.StrictEq
binary-strict_equal = refl

binary-strict_not_equal : binary_op false mark.STRICT_NOT_EQUAL ≡ op.StrictNe
binary-strict_not_equal = refl

binary-plus : binary_op false mark.PLUS ≡ op.Add
binary-plus = refl

binary-minus : binary_op false mark.MINUS ≡ op.Sub
binary-minus = refl

binary-times : binary_op false mark.TIMES ≡ op.Mul
binary-times = refl

binary-divide : binary_op false mark.DIVIDE ≡ op.Div
binary-divide = refl

binary-remainder : binary_op false mark.REMAINDER ≡ op.Mod
binary-remainder = refl

binary-power : binary_op false mark.POWER ≡ op.Pow
binary-power = refl

binary-left_shift : binary_op false mark.LEFT_SHIFT ≡ op.Lsh
binary-left_shift = refl

binary-right_shift : binary_op false mark.RIGHT_SHIFT ≡ op.Rsh
binary-right_shift = refl

binary-unsigned_right_shift : binary_op false mark.UNSIGNED_RIGHT_SHIFT ≡ op.Ursh
binary-unsigned_right_shift = refl

binary-bit_and : binary_op false mark.BIT_AND ≡ op.BitAnd
binary-bit_and = refl

binary-bit_or : binary_op false mark.BIT_OR ≡ op.BitOr
binary-bit_or = refl

binary-bit_xor : binary_op false mark.BIT_XOR ≡ op.BitXor
binary-bit_xor = refl

-- ---- assignments with an operator

assign-plus : assign_op mark.PLUS_ASSIGN ≡ op.Add
assign-plus = refl

assign-minus : assign_op mark.MINUS_ASSIGN ≡ op.Sub
assign-minus = refl

assign-times : assign_op mark.TIMES_ASSIGN ≡ op.Mul
assign-times = refl

assign-divide : assign_op mark.DIVIDE_ASSIGN ≡ op.Div
assign-divide = refl

assign-remainder : assign_op mark.REMAINDER_ASSIGN ≡ op.Mod
assign-remainder = refl

assign-power : assign_op mark.POWER_ASSIGN ≡ op.Pow
assign-power = refl

assign-left_shift : assign_op mark.LEFT_SHIFT_ASSIGN ≡ op.Lsh
assign-left_shift = refl

assign-right_shift : assign_op mark.RIGHT_SHIFT_ASSIGN ≡ op.Rsh
assign-right_shift = refl

assign-unsigned_right_shift : assign_op mark.UNSIGNED_RIGHT_SHIFT_ASSIGN ≡ op.Ursh
assign-unsigned_right_shift = refl

assign-bit_and : assign_op mark.BIT_AND_ASSIGN ≡ op.BitAnd
assign-bit_and = refl

assign-bit_or : assign_op mark.BIT_OR_ASSIGN ≡ op.BitOr
assign-bit_or = refl

assign-bit_xor : assign_op mark.BIT_XOR_ASSIGN ≡ op.BitXor
assign-bit_xor = refl

-- ---- prefix operators, `++` and `--`

prefix-plus : prefix_op false mark.PLUS ≡ op.Pos
prefix-plus = refl

prefix-minus : prefix_op false mark.MINUS ≡ op.Neg
prefix-minus = refl

prefix-bit_not : prefix_op false mark.BIT_NOT ≡ op.BitNot
prefix-bit_not = refl

prefix-not : prefix_op false mark.NOT ≡ op.Not
prefix-not = refl

prefix-void : prefix_op true word.VOID ≡ op.Void
prefix-void = refl

update-increment : update_op mark.INCREMENT ≡ op.Inc
update-increment = refl

update-decrement : update_op mark.DECREMENT ≡ op.Dec
update-decrement = refl
