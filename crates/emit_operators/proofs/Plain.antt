-- Opcodes without an operand.
use Rattle.std.proofs.Common.{◌≡◌, ℕ, Bool, true, false, List, [], ◌∷◌, Option, Some, refl, find, nat_eq, cond}
use Rattle.bytecode_buf.specs.declared.opcode.Op.{Op}
use Rattle.bytecode_buf.specs.declared.opcode.Op.TheVariants as op
use Rattle.bytecode_buf.specs.declared.opcode.Shape.TheVariants as shape
use Rattle.bytecode_buf.specs.Width.{shape_of}
use Rattle.emit_operators.specs.declared.operators.Meaning.{Meaning}
use Rattle.emit_operators.specs.declared.operators.TheConstants.{WORD_OPS, BINARY_OPS, ASSIGN_OPS, PREFIX_OPS}
use Rattle.emit_operators.specs.Operators.{AllPlain, op_or, op_of}

plain_found : (m : Meaning) (found : Bool) (other : Op) (further : Option Meaning) → shape_of m.op ≡ shape.Nothing → shape_of (op_or other further) ≡ shape.Nothing → shape_of (op_or other (cond found (Some m) further)) ≡ shape.Nothing
plain_found m true other further here later = here
plain_found m false other further here later = later

pub plain_op : (table : List Meaning) (other : Op) (sign : ℕ) → AllPlain table other → shape_of (op_of table other sign) ≡ shape.Nothing
plain_op [] other sign all = all
plain_op (m ∷ ms) other sign all = plain_found m (nat_eq m.sign sign) other (find (λ (x : Meaning). nat_eq x.sign sign) ms) all.0 (plain_op ms other sign all.1)

pub words_plain : AllPlain WORD_OPS op.Instanceof
words_plain = (refl, refl)

pub prefixes_plain : AllPlain PREFIX_OPS op.BitNot
prefixes_plain = (refl, (refl, (refl, refl)))

pub assigns_plain : AllPlain ASSIGN_OPS op.Pow
assigns_plain = (refl, (refl, (refl, (refl, (refl, (refl, (refl, (refl, (refl, (refl, (refl, refl)))))))))))

pub binaries_plain : AllPlain BINARY_OPS op.Pow
binaries_plain = (refl, (refl, (refl, (refl, (refl, (refl, (refl, (refl, (refl, (refl, (refl, (refl, (refl, (refl, (refl, (refl, (refl, (refl, (refl, refl)))))))))))))))))))
