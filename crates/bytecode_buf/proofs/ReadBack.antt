-- Laid out instructions are read back.
use Rattle.std.proofs.Common.{◌≡◌, ℕ, zero, suc, ◌+◌, ◌≤◌, List, [], ◌∷◌, ◌++◌, length, take, drop, refl, ◌∙◌, ap, ap₂, Option, Some, option_map, arith, length-append, append_assoc, drop_at}
use Rattle.bytecode_buf.specs.declared.opcode.Op.{Op}
use Rattle.bytecode_buf.specs.declared.opcode.Op.TheVariants as op
use Rattle.bytecode_buf.specs.declared.instruction.Instr.{Instr}
use Rattle.bytecode_buf.specs.Bytes.{le_bytes, le_value}
use Rattle.bytecode_buf.specs.Table.{op_at, number_of}
use Rattle.bytecode_buf.specs.Width.{first_of, second_of, width_of}
use Rattle.bytecode_buf.specs.Layout.{Numbered, Fits, AllFit, laid, layout, decoded, read_as, followed, instructions_within, LayoutIsReadBack, ReadsLaid, instr_at}
use Rattle.bytecode_buf.proofs.Bytes.{length-le_bytes, le_value-le_bytes, take-le_bytes, drop-le_bytes}
use Rattle.bytecode_buf.proofs.Decode.{decoded_as-whole, decoded-byte}

-- the opcode of an opcode's byte
pub op_at-number_of : (o : Op) → op_at (number_of o) ≡ Some o
op_at-number_of op.Undefined = refl
op_at-number_of _ = refl

-- the operands' bytes
abbrev pub operand_bytes : Numbered → List ℕ
operand_bytes i = le_bytes (first_of i.op) i.a ++ le_bytes (second_of i.op) i.b

pub length-operand_bytes : (i : Numbered) → length (operand_bytes i) ≡ first_of i.op + second_of i.op
length-operand_bytes i = length-append (le_bytes (first_of i.op) i.a) (le_bytes (second_of i.op) i.b) ∙ ap₂ (λ (x : ℕ) (y : ℕ). x + y) (length-le_bytes (first_of i.op) i.a) (length-le_bytes (second_of i.op) i.b)

pub length-laid : (i : Numbered) → length (laid i) ≡ width_of i.op
length-laid i = omega (arith, length-operand_bytes i)

-- the operands of an instruction that fits are read back, whatever follows
pub read_as-laid : (i : Numbered) (rest : List ℕ) → Fits i → read_as i.op (operand_bytes i ++ rest) ≡ i
read_as-laid i rest fits = ap₂ (λ (x : ℕ) (y : ℕ). let n : Numbered = record { op = i.op; a = x; b = y } in n) first second
  where
    joined : operand_bytes i ++ rest ≡ le_bytes (first_of i.op) i.a ++ (le_bytes (second_of i.op) i.b ++ rest)
    joined = append_assoc (le_bytes (first_of i.op) i.a) (le_bytes (second_of i.op) i.b) rest

    first : le_value (take (first_of i.op) (operand_bytes i ++ rest)) ≡ i.a
    first = ap (λ (l : List ℕ). le_value (take (first_of i.op) l)) joined ∙ (ap le_value (take-le_bytes (first_of i.op) i.a (le_bytes (second_of i.op) i.b ++ rest)) ∙ le_value-le_bytes (first_of i.op) i.a fits.first)

    behind : drop (first_of i.op) (operand_bytes i ++ rest) ≡ le_bytes (second_of i.op) i.b ++ rest
    behind = ap (drop (first_of i.op)) joined ∙ drop-le_bytes (first_of i.op) i.a (le_bytes (second_of i.op) i.b ++ rest)

    second : le_value (take (second_of i.op) (drop (first_of i.op) (operand_bytes i ++ rest))) ≡ i.b
    second = ap (λ (l : List ℕ). le_value (take (second_of i.op) l)) behind ∙ (ap le_value (take-le_bytes (second_of i.op) i.b rest) ∙ le_value-le_bytes (second_of i.op) i.b fits.second)

-- a laid out instruction is decoded, whatever follows
pub decoded-laid : (i : Numbered) (rest : List ℕ) → Fits i → decoded (laid i ++ rest) ≡ Some i
decoded-laid i rest fits =
    decoded-byte (laid i ++ rest) (number_of i.op) (operand_bytes i ++ rest) i.op refl (op_at-number_of i.op)
    ∙ (decoded_as-whole i.op (operand_bytes i ++ rest) room ∙ ap (λ (n : Numbered). Some n) (read_as-laid i rest fits))
  where
    room : first_of i.op + second_of i.op ≤ length (operand_bytes i ++ rest)
    room = omega (arith, length-append (operand_bytes i) rest, length-operand_bytes i)

pub drop-laid : (i : Numbered) (rest : List ℕ) → drop (width_of i.op) (laid i ++ rest) ≡ rest
drop-laid i rest = drop_at (laid i) rest (width_of i.op) (length-laid i)

pub instructions_within-none : (code : List ℕ) → instructions_within zero code ≡ []
unfolding instructions_within
instructions_within-none code = refl

pub instructions_within-more : (n : ℕ) (code : List ℕ) → instructions_within (suc n) code ≡ followed (decoded code) (λ i. instructions_within n (drop (width_of i.op) code))
unfolding instructions_within
instructions_within-more n code = refl

pub instructions_within-empty : (n : ℕ) → instructions_within n [] ≡ []
instructions_within-empty zero = instructions_within-none []
instructions_within-empty (suc n) = instructions_within-more n []

-- with enough room all of them are read back
pub instructions_within-layout : (is : List Numbered) (n : ℕ) → AllFit is → length (layout is) ≤ n → instructions_within n (layout is) ≡ is
instructions_within-layout [] n fit room = instructions_within-empty n
instructions_within-layout (i ∷ is) zero fit room = absurd (omega arith)
instructions_within-layout (i ∷ is) (suc n) fit room =
    instructions_within-more n (laid i ++ layout is)
    ∙ (ap (λ (o : Option Numbered). followed o (λ j. instructions_within n (drop (width_of j.op) (laid i ++ layout is)))) (decoded-laid i (layout is) fit.0)
    ∙ ap (λ (l : List Numbered). i ∷ l) (ap (instructions_within n) (drop-laid i (layout is)) ∙ instructions_within-layout is n fit.1 left))
  where
    left : length (layout is) ≤ n
    left = omega (arith, length-append (operand_bytes i) (layout is))

-- laid out instructions are read back
pub layout_is_read_back : LayoutIsReadBack
layout_is_read_back is fit = instructions_within-layout is (length (layout is)) fit (omega arith)

-- what is decoded at a place is the instruction that was laid out there
pub reads_laid : (code : List ℕ) (at : ℕ) (read : Option Instr) → read ≡ option_map (instr_at at) (decoded (drop at code)) → ReadsLaid code at read
reads_laid code at read is before behind i fits place whole =
    is ∙ (ap (λ (l : List ℕ). option_map (instr_at at) (decoded (drop at l))) (whole ∙ append_assoc before (laid i) behind)
    ∙ (ap (λ (l : List ℕ). option_map (instr_at at) (decoded l)) (drop_at before (laid i ++ behind) at place)
    ∙ ap (λ (o : Option Numbered). option_map (instr_at at) o) (decoded-laid i behind fits)))
