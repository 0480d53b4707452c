-- Lemmas on reading instructions.
use Rattle.std.proofs.Common.{◌≡◌, ℕ, ◌+◌, ◌-◌, ◌<◌, ◌≤◌, Bool, true, false, List, [], ◌∷◌, length, take, drop, refl, sym, ◌∙◌, ap, subst, Option, Some, None, option_map, le-leb, nat_le, if◌then◌else◌, arith, IsSomeAnd, IsTrue, true≢false, ◌++◌, ◌^◌, suc, leb-true, ap₂, subst₂, length-drop, length-take-le, take-append-drop}
use Rattle.bytecode_buf.specs.declared.opcode.Op.{Op}
use Rattle.bytecode_buf.specs.declared.opcode.Shape.{Shape}
use Rattle.bytecode_buf.specs.declared.opcode.Shape.TheVariants as shape
use Rattle.bytecode_buf.specs.declared.instruction.Instr.{Instr}
use Rattle.bytecode_buf.specs.Bytes.{le_value, le_bytes, written}
use Rattle.bytecode_buf.specs.Table.{op_at}
use Rattle.bytecode_buf.specs.Width.{first_width, second_width, shape_of, first_of, second_of, is_jump, has_number, has_number_shape}
use Rattle.bytecode_buf.specs.Layout.{decoded, decoded_as, read_as, instr_by, instr_at, Numbered, renumbered, BeginsNumbered}
use Rattle.bytecode_buf.proofs.Bytes.{le_value-le_bytes, drop-written}

-- enough bytes stand after the opcode
pub decoded_as-whole : (op : Op) (behind : List ℕ) → first_of op + second_of op ≤ length behind → decoded_as (Some op) behind ≡ Some (read_as op behind)
decoded_as-whole op behind enough = ap (λ (b : Bool). if b then Some (read_as op behind) else None) (le-leb (first_of op + second_of op) (length behind) enough)

-- an instruction whose operands were read at their widths is the decoded one
pub instr_is_decoded : (op : Op) (at : ℕ) (behind : List ℕ) (r : Instr) (a b first second : ℕ) → first ≡ first_of op → second ≡ second_of op → first + second ≤ length behind → a ≡ le_value (take first behind) → b ≡ le_value (take ((first + second) - first) (drop first behind)) → r ≡ instr_by (is_jump op) op a b (at + (1 + first + second)) → ◌≡◌ {A = Option Instr} (Some r) (option_map (instr_at at) (decoded_as (Some op) behind))
instr_is_decoded op at behind r a b first second f s enough is_a is_b is =
    subst (λ (x : Instr). ◌≡◌ {A = Option Instr} (Some r) (Some x)) same (ap (λ (x : Instr). Some x) is) ∙ sym (ap (λ (o : Option Numbered). option_map (instr_at at) o) (decoded_as-whole op behind room))
  where
    room : first_of op + second_of op ≤ length behind
    room = omega arith

    back : (first + second) - first ≡ second
    back = omega arith

    same : instr_by (is_jump op) op a b (at + (1 + first + second)) ≡ instr_at at (read_as op behind)
    same = rw (is_a, is_b, back, f, s) refl

-- the bytes begin with this opcode's byte
pub decoded-byte : (code : List ℕ) (byte : ℕ) (behind : List ℕ) (op : Op) → code ≡ byte ∷ behind → op_at byte ≡ Some op → decoded code ≡ decoded_as (Some op) behind
decoded-byte code byte behind op is found = ap decoded is ∙ ap (λ (o : Option Op). decoded_as o behind) found

-- an operand that is a number has four bytes, and none after it
pub numbered_widths : (s : Shape) → has_number_shape s ≡ true → (first_width s ≡ 4) × (second_width s ≡ 0)
numbered_widths shape.Atom is = (refl, refl)
numbered_widths shape.Num is = (refl, refl)
numbered_widths shape.Nothing is = absurd (true≢false (sym is))
numbered_widths _ is = absurd (true≢false (sym is))

-- bytes that begin with an instruction whose operand is a number of a thing, taken apart
pub record NumberedStart (code : List ℕ) : Type 0 where
  pub byte : ℕ
  pub behind : List ℕ
  pub op : Op
  pub is : code ≡ byte ∷ behind
  pub found : op_at byte ≡ Some op
  pub numbered : has_number op ≡ true
  pub room : first_of op + second_of op ≤ length behind

numbered_start_at : (code : List ℕ) (byte : ℕ) (behind : List ℕ) (op : Op) (enough : Bool) → code ≡ byte ∷ behind → op_at byte ≡ Some op → nat_le (first_of op + second_of op) (length behind) ≡ enough → IsSomeAnd {T = Numbered} (if enough then Some (read_as op behind) else None) (λ i. IsTrue (has_number i.op)) → NumberedStart code
numbered_start_at code byte behind op true is found enough h = record { byte = byte; behind = behind; op = op; is = is; found = found; numbered = h; room = leb-true (first_of op + second_of op) (length behind) enough }
numbered_start_at code byte behind op false is found enough h = absurd h

numbered_start_as : (code : List ℕ) (byte : ℕ) (behind : List ℕ) (o : Option Op) → code ≡ byte ∷ behind → op_at byte ≡ o → IsSomeAnd (decoded_as o behind) (λ i. IsTrue (has_number i.op)) → NumberedStart code
numbered_start_as code byte behind None is found h = absurd h
numbered_start_as code byte behind (Some op) is found h = numbered_start_at code byte behind op (nat_le (first_of op + second_of op) (length behind)) is found refl h

pub numbered_start : (code : List ℕ) → BeginsNumbered code → NumberedStart code
numbered_start [] h = absurd h
numbered_start (byte ∷ behind) h = numbered_start_as (byte ∷ behind) byte behind (op_at byte) refl refl h

pub numbered_start-length : (code : List ℕ) → NumberedStart code → 5 ≤ length code
numbered_start-length code s = let w = numbered_widths (shape_of s.op) s.numbered in let l : length code ≡ suc (length s.behind) = ap length s.is in omega (arith, w.0, w.1, s.room)

-- another number in the four bytes of an operand
pub decoded-renumbered : (a : ℕ) (code now : List ℕ) (s : NumberedStart code) → a < 2 ^ 32 → now ≡ s.byte ∷ (le_bytes 4 a ++ drop 4 s.behind) → decoded now ≡ option_map (renumbered a) (decoded code)
decoded-renumbered a code now s small is =
    decoded-byte now s.byte behind s.op is s.found ∙ (decoded_as-whole s.op behind room ∙ (ap (λ (i : Numbered). Some i) same ∙ sym (ap (option_map (renumbered a)) (decoded-byte code s.byte s.behind s.op s.is s.found ∙ decoded_as-whole s.op s.behind s.room))))
  where
    behind : List ℕ
    behind = le_bytes 4 a ++ drop 4 s.behind

    first : first_of s.op ≡ 4
    first = (numbered_widths (shape_of s.op) s.numbered).0

    second : second_of s.op ≡ 0
    second = (numbered_widths (shape_of s.op) s.numbered).1

    room : first_of s.op + second_of s.op ≤ length behind
    room = subst₂ (λ (x : ℕ) (y : ℕ). x + y ≤ length behind) (sym first) (sym second) (omega arith)

    new : le_value (take (first_of s.op) behind) ≡ a
    new = ap (λ (k : ℕ). le_value (take k behind)) first ∙ le_value-le_bytes 4 a small

    rest : le_value (take (second_of s.op) (drop (first_of s.op) behind)) ≡ le_value (take (second_of s.op) (drop (first_of s.op) s.behind))
    rest = ap (λ (k : ℕ). le_value (take k (drop (first_of s.op) behind))) second ∙ sym (ap (λ (k : ℕ). le_value (take k (drop (first_of s.op) s.behind))) second)

    same : read_as s.op behind ≡ renumbered a (read_as s.op s.behind)
    same = ap₂ (λ (x : ℕ) (y : ℕ). let i : Numbered = record { op = s.op; a = x; b = y } in i) new rest

-- what stands from the instruction on once its operand was overwritten
pub drop-renumbered : (old : List ℕ) (at a : ℕ) (s : NumberedStart (drop at old)) → drop at (written (at + 1) (le_bytes 4 a) old) ≡ s.byte ∷ (le_bytes 4 a ++ drop 4 s.behind)
drop-renumbered old at a s =
    ap (λ (l : List ℕ). drop at (written (at + 1) (le_bytes 4 a) l)) whole ∙ drop-written (take at old) (le_bytes 4 a) s.behind s.byte at front
  where
    long : 5 ≤ length (drop at old)
    long = numbered_start-length (drop at old) s

    inside : at ≤ length old
    inside = omega (arith, long, length-drop at old)

    front : length (take at old) ≡ at
    front = length-take-le at old inside

    whole : old ≡ take at old ++ s.byte ∷ s.behind
    whole = sym (take-append-drop at old) ∙ ap (λ (l : List ℕ). take at old ++ l) s.is
