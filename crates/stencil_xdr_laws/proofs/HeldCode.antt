-- The instructions that bytes begin with fit their widths, and take no more room than the bytes.
use Rattle.std.proofs.Common.{◌≡◌, ℕ, zero, suc, ◌≤◌, ◌+◌, Bool, true, false, List, [], ◌∷◌, length, drop, Option, Some, None, refl, sym, subst, arith, nat_le, if◌then◌else◌, length-append, length-drop}
use Rattle.bytecode_buf.specs.declared.opcode.Op.{Op}
use Rattle.bytecode_buf.specs.Layout.{Numbered, Fits, AllFit, instructions, instructions_within, decoded, decoded_as, read_as, followed, laid, layout}
use Rattle.bytecode_buf.specs.Table.{op_at}
use Rattle.bytecode_buf.specs.Width.{width_of, first_of, second_of}
use Rattle.bytecode_buf.proofs.ReadBack.{length-laid, instructions_within-none, instructions_within-more}
use Rattle.stencil_xdr_read.proofs.CodeLoop.{AreBytes, AreBytes-drop, le_value_small, laid_at}
use Rattle.stencil_xdr_laws.specs.Bytes.{IsOfBytes}

pub are_bytes : (code : List ℕ) → IsOfBytes code → AreBytes code
are_bytes [] h k = omega arith
are_bytes (b ∷ code) h zero = h 0 b (omega arith)
are_bytes (b ∷ code) h (suc k) = are_bytes code (λ j d lt. h (suc j) d (omega arith)) k

pub of_bytes : (code : List ℕ) → AreBytes code → IsOfBytes code
of_bytes [] are k d inside = absurd (omega arith)
of_bytes (b ∷ code) are zero d inside = are 0
of_bytes (b ∷ code) are (suc k) d inside = of_bytes code (λ j. are (suc j)) k d (omega arith)

-- ---- one instruction

fits_by : (o : Op) (rest : List ℕ) (i : Numbered) (b : Bool) → AreBytes rest → ◌≡◌ {A = Option Numbered} (if b then Some (read_as o rest) else None) (Some i) → Fits i
fits_by o rest i true are is = let e : read_as o rest ≡ i = cc in subst Fits e (record { first = le_value_small (first_of o) rest are; second = le_value_small (second_of o) (drop (first_of o) rest) (AreBytes-drop (first_of o) rest are) })
fits_by o rest i false are is = absurd (cc)

fits_as : (d : Option Op) (rest : List ℕ) (i : Numbered) → AreBytes rest → decoded_as d rest ≡ Some i → Fits i
fits_as None rest i are is = absurd (cc)
fits_as (Some o) rest i are is = fits_by o rest i (nat_le (first_of o + second_of o) (length rest)) are is

decoded_fits : (code : List ℕ) (i : Numbered) → AreBytes code → decoded code ≡ Some i → Fits i
decoded_fits [] i are is = absurd (cc)
decoded_fits (b ∷ rest) i are is = fits_as (op_at b) rest i (λ k. are (suc k)) is

-- ---- all instructions

-- the instructions fit, and the bytes have room for them
pub record Held (code : List ℕ) (is : List Numbered) : Type 0 where
  pub fit : AllFit is
  pub room : length (layout is) ≤ length code

held_none : (code : List ℕ) → Held code []
held_none code = record { fit = tt; room = omega arith }

held_more : (code : List ℕ) (i : Numbered) (behind : List Numbered) → AreBytes code → decoded code ≡ Some i → Held (drop (width_of i.op) code) behind → Held code (i ∷ behind)
held_more code i behind are is held =
    record { fit = (decoded_fits code i are is, held.fit); room = omega (arith, (laid_at code i are is).room, held.room, length-append (laid i) (layout behind), length-laid i, length-drop (width_of i.op) code) }

held_followed : (code : List ℕ) (d : Option Numbered) (behind : Numbered → List Numbered) → AreBytes code → decoded code ≡ d → ((i : Numbered) → Held (drop (width_of i.op) code) (behind i)) → Held code (followed d behind)
held_followed code None behind are is held = held_none code
held_followed code (Some i) behind are is held = held_more code i (behind i) are is (held i)

held_within : (n : ℕ) (code : List ℕ) → AreBytes code → Held code (instructions_within n code)
held_within zero code are = subst (Held code) (sym (instructions_within-none code)) (held_none code)
held_within (suc n) code are = subst (Held code) (sym (instructions_within-more n code))
    (held_followed code (decoded code) (λ i. instructions_within n (drop (width_of i.op) code)) are refl (λ i. held_within n (drop (width_of i.op) code) (AreBytes-drop (width_of i.op) code are)))

pub instructions_held : (code : List ℕ) → AreBytes code → Held code (instructions code)
instructions_held code are = held_within (length code) code are
