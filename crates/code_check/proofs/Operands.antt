-- The operand of a decoded instruction fits its width.
use Rattle.std.proofs.Common.{◌≡◌, ℕ, zero, suc, ◌+◌, ◌^◌, ◌<◌, Bool, true, false, nat_le, if◌then◌else◌, List, [], ◌∷◌, length, take, drop, get_or, get_or-drop, Option, Some, None, sym, subst, arith}
use Rattle.bytecode_buf.specs.declared.opcode.Op.{Op}
use Rattle.bytecode_buf.specs.Bytes.{le_value}
use Rattle.bytecode_buf.specs.Table.{op_at}
use Rattle.bytecode_buf.specs.declared.instruction.Instr.{Instr}
use Rattle.bytecode_buf.specs.Width.{first_of, second_of, is_jump, width_of}
use Rattle.bytecode_buf.specs.Layout.{Numbered, decoded, decoded_as, read_as, instr_by}
use Rattle.code_check.specs.Steps.{FitsWidth}
use Rattle.code_check.proofs.StartWalk.{Decodes}

abbrev pub AreBytes : List ℕ → Type 0
AreBytes bytes = (k : ℕ) → get_or bytes k 0 < 256

pub AreBytes-drop : (n : ℕ) (bytes : List ℕ) → AreBytes bytes → AreBytes (drop n bytes)
AreBytes-drop n bytes h k = rw (get_or-drop n bytes k 0) (h (n + k))

some_power : (n : ℕ) → 0 < 256 ^ n
some_power zero = omega arith
some_power (suc n) = let h : 0 < 256 ^ n = some_power n in omega arith

le_value_small : (n : ℕ) (bytes : List ℕ) → AreBytes bytes → le_value (take n bytes) < 256 ^ n
le_value_small zero bytes h = omega arith
le_value_small (suc n) [] h = some_power (suc n)
le_value_small (suc n) (byte ∷ bytes) h = let first : byte < 256 = h 0 in let rest : le_value (take n bytes) < 256 ^ n = le_value_small n bytes (λ k. h (suc k)) in omega arith

read_fits : (op : Op) (rest : List ℕ) (i : Numbered) (whole : Bool) → AreBytes rest → ◌≡◌ {A = Option Numbered} (if whole then Some (read_as op rest) else None) (Some i) → i.a < 256 ^ first_of i.op
read_fits op rest i true bytes is = let same : read_as op rest ≡ i = cc in subst (λ (n : Numbered). n.a < 256 ^ first_of n.op) same (le_value_small (first_of op) rest bytes)
read_fits op rest i false bytes is = absurd (cc)

decoded_as_fits : (o : Option Op) (rest : List ℕ) (i : Numbered) → AreBytes rest → decoded_as o rest ≡ Some i → i.a < 256 ^ first_of i.op
decoded_as_fits None rest i bytes is = absurd (cc)
decoded_as_fits (Some op) rest i bytes is = read_fits op rest i (nat_le (first_of op + second_of op) (length rest)) bytes is

pub decoded_fits : (code : List ℕ) (i : Numbered) → AreBytes code → decoded code ≡ Some i → i.a < 256 ^ first_of i.op
decoded_fits [] i bytes is = absurd (cc)
decoded_fits (byte ∷ rest) i bytes is = decoded_as_fits (op_at byte) rest i (λ k. bytes (suc k)) is

-- ---- as it is read

instr_fits : (b : Bool) (op : Op) (a c next : ℕ) → a < 256 ^ first_of op → FitsWidth (instr_by b op a c next)
instr_fits true op a c next fits = some_power (first_of op)
instr_fits false op a c next fits = fits

pub reads_fit : (code : List ℕ) (at : ℕ) (instr : Instr) → AreBytes code → Decodes code at instr → FitsWidth instr
reads_fit code at instr bytes d =
    subst FitsWidth (sym d.is) (instr_fits (is_jump d.i.op) d.i.op d.i.a d.i.b (at + width_of d.i.op) (decoded_fits (drop at code) d.i (AreBytes-drop at code bytes) d.decoded_there))
