-- Instructions and their bytes. What is not of ECMA-262, as all of this, is this project's own choice.
use Rattle.std.specs.Prelude.{◌≡◌, ℕ, zero, suc, ◌+◌, ◌-◌, ◌^◌, ◌<◌, Bool, true, false, List, [], ◌∷◌, ◌++◌, length, take, drop, Option}
use Rattle.std.specs.Prelude.{Some, None, nat_le, pos, IsTrue, IsSomeAnd}
use Rattle.std.specs.Int.{cast_signed, w64}
use Rattle.std.specs.Prelude.{if◌then◌else◌}
use Rattle.bytecode_buf.specs.declared.opcode.Op.{Op}
use Rattle.bytecode_buf.specs.declared.instruction.Instr.{Instr}
use Rattle.bytecode_buf.specs.Table.{op_at, number_of}
use Rattle.bytecode_buf.specs.Width.{first_of, second_of, width_of, is_jump, has_number}
use Rattle.bytecode_buf.specs.Bytes.{le_bytes, le_value}

-- an instruction with its operands as numbers; a jump's is the 64 bits of its distance
pub record Numbered : Type 0 where
  pub op : Op
  pub a : ℕ
  pub b : ℕ

-- the operands fit their widths
pub record Fits (i : Numbered) : Type 0 where
  pub first : i.a < 256 ^ first_of i.op
  pub second : i.b < 256 ^ second_of i.op

-- the bytes of an instruction
abbrev pub laid : Numbered → List ℕ
laid i = number_of i.op ∷ le_bytes (first_of i.op) i.a ++ le_bytes (second_of i.op) i.b

-- the bytes of a list of instructions
abbrev pub layout : List Numbered → List ℕ
layout [] = []
layout (i ∷ is) = laid i ++ layout is

abbrev pub AllFit : List Numbered → Type 0
AllFit [] = Unit {0}
AllFit (i ∷ is) = Fits i × AllFit is

-- the instruction with these operand bytes after its own
abbrev pub read_as : Op → List ℕ → Numbered
read_as op rest = record { op = op; a = le_value (take (first_of op) rest); b = le_value (take (second_of op) (drop (first_of op) rest)) }

abbrev pub decoded_as : Option Op → List ℕ → Option Numbered
decoded_as None rest = None
decoded_as (Some op) rest = if nat_le (first_of op + second_of op) (length rest) then Some (read_as op rest) else None

-- the instruction with which the bytes begin: none where the byte is no opcode's or the instruction is cut off
abbrev pub decoded : List ℕ → Option Numbered
decoded [] = None
decoded (byte ∷ rest) = decoded_as (op_at byte) rest

-- an instruction that was read, and what is read after it
abbrev pub followed : Option Numbered → (Numbered → List Numbered) → List Numbered
followed None behind = []
followed (Some i) behind = i ∷ behind i

-- at most n instructions from the beginning on
unfoldable pub instructions_within : ℕ → List ℕ → List Numbered
instructions_within zero code = []
instructions_within (suc n) code = followed (decoded code) (λ i. instructions_within n (drop (width_of i.op) code))

-- the whole instructions of the bytes, one after another from the first byte
abbrev pub instructions : List ℕ → List Numbered
instructions code = instructions_within (length code) code

-- the law of the layout: laid out instructions that fit are read back
abbrev pub LayoutIsReadBack : Type 0
LayoutIsReadBack = (is : List Numbered) → AllFit is → instructions (layout is) ≡ is

-- the bytes are whole instructions
abbrev pub IsWhole : List ℕ → Type 0
IsWhole code = layout (instructions code) ≡ code

-- the distance from a jump to its target, in 64 bits
abbrev pub distance_bits : ℕ → ℕ → ℕ
distance_bits jump target = if nat_le jump target then target - jump else (2 ^ 64 - (jump - target))

-- an instruction as it is read: a jump has its distance, every other its operands
abbrev pub instr_by : Bool → Op → ℕ → ℕ → ℕ → Instr
instr_by true op a b next = record { op = op; a = 0; b = 0; to = cast_signed w64 a; next = next }
instr_by false op a b next = record { op = op; a = a; b = b; to = pos 0; next = next }

abbrev pub instr_at : ℕ → Numbered → Instr
instr_at at i = instr_by (is_jump i.op) i.op i.a i.b (at + width_of i.op)

-- what is read at the offset of an instruction that was laid out there
abbrev pub ReadsLaid : List ℕ → ℕ → Option Instr → Type 0
ReadsLaid code at read = (before behind : List ℕ) (i : Numbered) → Fits i → length before ≡ at → code ≡ before ++ laid i ++ behind
    → read ≡ Some (instr_at at i)

-- the bytes begin with an instruction whose operand is a number of a thing
abbrev pub BeginsNumbered : List ℕ → Type 0
BeginsNumbered code = IsSomeAnd (decoded code) (λ i. IsTrue (has_number i.op))

-- the instruction with this number as its operand
abbrev pub renumbered : ℕ → Numbered → Numbered
renumbered a i = record i { a = a }
