-- Which opcode an operator is. What the operators do is ECMA-262's, 12th edition, clauses 13.4 to 13.15; the opcodes are
-- this project's own choice.
use Rattle.std.specs.Prelude.{◌≡◌, ℕ, Bool, true, false, nat_eq, nat_le, if◌then◌else◌, ◌<◌, ◌^◌, List, [], ◌∷◌, find, Option, Some, None}
use Rattle.emit_operators.specs.declared.operators.Meaning.{Meaning}
use Rattle.emit_operators.specs.declared.operators.Short.{Short}
use Rattle.emit_operators.specs.declared.operators.Short.TheVariants as short
use Rattle.emit_operators.specs.declared.operators.Joining.{Joining}
use Rattle.emit_operators.specs.declared.operators.Joining.TheVariants.{FromLeft, FromRight, Shortcut}
use Rattle.emit_operators.specs.declared.operators.NumberForm.{NumberForm}
use Rattle.emit_operators.specs.declared.operators.NumberForm.TheVariants as form
use Rattle.script_grammar.specs.declared.token.mark.TheConstants as mark
use Rattle.script_grammar.specs.declared.token.word.TheConstants as word
use Rattle.bytecode_buf.specs.declared.opcode.Shape.TheVariants as shape
use Rattle.bytecode_buf.specs.Width.{shape_of}
use Rattle.bytecode_buf.specs.declared.opcode.Op.{Op}
use Rattle.bytecode_buf.specs.declared.opcode.Op.TheVariants as op

-- the opcode of a sign in a table, or another where the table does not have it
abbrev pub op_or : Op → Option Meaning → Op
op_or other None = other
op_or other (Some m) = m.op

abbrev pub op_of : List Meaning → Op → ℕ → Op
op_of table other sign = op_or other (find (λ m. nat_eq m.sign sign) table)

-- no opcode of a table, and not this other one, has an operand
abbrev pub AllPlain : List Meaning → Op → Type 0
AllPlain [] other = shape_of other ≡ shape.Nothing
AllPlain (m ∷ ms) other = (shape_of m.op ≡ shape.Nothing) × AllPlain ms other

-- a row of a table: a mark or a word, by its number, and the opcode that it is
abbrev pub row : ℕ → Op → Meaning
row sign code = record { sign = sign; op = code }

-- the binary operators that are words (clause 13.10), but for `instanceof`
abbrev pub word_rows : List Meaning
word_rows = row word.IN op.In ∷ []

-- the binary operators that are marks (clauses 13.7 to 13.12), but for `**`; those that jump have `short_op`
abbrev pub binary_rows : List Meaning
binary_rows =
    row mark.LESS op.Lt
    ∷ row mark.GREATER op.Gt
    ∷ row mark.LESS_EQUAL op.Le
    ∷ row mark.GREATER_EQUAL op.Ge
    ∷ row mark.EQUAL op.Eq
    ∷ row mark.NOT_EQUAL op.Ne
    ∷ row mark.STRICT_EQUAL op.StrictEq
    ∷ row mark.STRICT_NOT_EQUAL op.StrictNe
    ∷ row mark.PLUS op.Add
    ∷ row mark.MINUS op.Sub
    ∷ row mark.TIMES op.Mul
    ∷ row mark.DIVIDE op.Div
    ∷ row mark.REMAINDER op.Mod
    ∷ row mark.LEFT_SHIFT op.Lsh
    ∷ row mark.RIGHT_SHIFT op.Rsh
    ∷ row mark.UNSIGNED_RIGHT_SHIFT op.Ursh
    ∷ row mark.BIT_AND op.BitAnd
    ∷ row mark.BIT_OR op.BitOr
    ∷ row mark.BIT_XOR op.BitXor
    ∷ []

-- the assignments with an operator (clause 13.15), but for `**=`
abbrev pub assign_rows : List Meaning
assign_rows =
    row mark.PLUS_ASSIGN op.Add
    ∷ row mark.MINUS_ASSIGN op.Sub
    ∷ row mark.TIMES_ASSIGN op.Mul
    ∷ row mark.DIVIDE_ASSIGN op.Div
    ∷ row mark.REMAINDER_ASSIGN op.Mod
    ∷ row mark.LEFT_SHIFT_ASSIGN op.Lsh
    ∷ row mark.RIGHT_SHIFT_ASSIGN op.Rsh
    ∷ row mark.UNSIGNED_RIGHT_SHIFT_ASSIGN op.Ursh
    ∷ row mark.BIT_AND_ASSIGN op.BitAnd
    ∷ row mark.BIT_OR_ASSIGN op.BitOr
    ∷ row mark.BIT_XOR_ASSIGN op.BitXor
    ∷ []

-- the prefix operators that are marks (clauses 13.5.4 to 13.5.7), but for `~`
abbrev pub prefix_rows : List Meaning
prefix_rows = row mark.PLUS op.Pos ∷ row mark.MINUS op.Neg ∷ row mark.NOT op.Not ∷ []

-- the words `in` and `instanceof`, and the marks; `**` is the one that is left
abbrev pub binary_op : Bool → ℕ → Op
binary_op true sign = op_of word_rows op.Instanceof sign
binary_op false sign = op_of binary_rows op.Pow sign

-- the marks of assignments with an operator; `**=` is the one that is left
abbrev pub assign_op : ℕ → Op
assign_op sign = op_of assign_rows op.Pow sign

-- the prefix operators on a value: `void` is the word, and `~` the mark, that is left
abbrev pub prefix_op : Bool → ℕ → Op
prefix_op true sign = op.Void
prefix_op false sign = op_of prefix_rows op.BitNot sign

abbrev pub update_op : ℕ → Op
update_op sign = if nat_eq sign mark.INCREMENT then op.Inc else op.Dec

-- the jump of a shortcut
abbrev pub short_op : Short → Op
short_op short.And = op.And
short_op short.Or = op.Or
short_op short.Coalesce = op.Coalesce

-- how the operands of a binary list are put together
abbrev pub joining : Bool → ℕ → Joining
joining true sign = FromLeft
joining false sign =
    if nat_eq sign mark.POWER then FromRight else
    (if nat_eq sign mark.AND then Shortcut short.And
    else (if nat_eq sign mark.OR then Shortcut short.Or else (if nat_eq sign mark.COALESCE then Shortcut short.Coalesce else FromLeft)))

-- the shortest form of a number
abbrev pub number_form : ℕ → NumberForm
number_form n =
    if nat_eq n 0 then form.Zero else (if nat_eq n 1 then form.One else (if nat_le n 127 then form.Byte else
    (if nat_le n 65535 then form.Short else (if nat_le n 16777215 then form.Triple else (if nat_le n 2147483647 then form.Long else form.Wide)))))

-- the number fits its form
abbrev pub FormFits : NumberForm → ℕ → Type 0
FormFits form.Zero n = Unit {0}
FormFits form.One n = Unit {0}
FormFits form.Byte n = n < 2 ^ 8
FormFits form.Short n = n < 2 ^ 16
FormFits form.Triple n = n < 2 ^ 24
FormFits form.Long n = n < 2 ^ 32
FormFits form.Wide n = Unit {0}
