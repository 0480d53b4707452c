-- The whole instructions of bytes, one after another, and what each of them is read from.
use Rattle.std.proofs.Common.{◌≡◌, ℕ, zero, suc, ◌+◌, ◌≤◌, Bool, true, false, nat_le, if◌then◌else◌, List, [], ◌∷◌, ◌++◌, length, take, drop, Option, Some, None, refl, sym, ◌∙◌, ap, ap₂, subst, append_assoc, arith, length-append, length-drop, length-take-le, leb-true, take-append-drop, take_at, drop_at, take-add}
use Rattle.bytecode_buf.specs.declared.opcode.Op.{Op}
use Rattle.bytecode_buf.specs.Bytes.{le_bytes, le_value, written}
use Rattle.bytecode_buf.specs.Table.{op_at, number_of}
use Rattle.bytecode_buf.specs.Width.{first_of, second_of, width_of}
use Rattle.bytecode_buf.specs.Layout.{Numbered, decoded, decoded_as, read_as, followed, instructions, instructions_within, laid, renumbered}
use Rattle.bytecode_buf.proofs.Bytes.{length-le_bytes}
use Rattle.bytecode_buf.proofs.Decode.{decoded_as-whole, decoded-byte}
use Rattle.bytecode_buf.proofs.ReadBack.{instructions_within-more, instructions_within-empty}

-- ---- one after another

followed_same : (d : Option Numbered) (f g : Numbered → List Numbered) → ((i : Numbered) → f i ≡ g i) → followed d f ≡ followed d g
followed_same None f g same = refl
followed_same (Some i) f g same = ap (λ (is : List Numbered). i ∷ is) (same i)

behind_shorter : (op : Op) (byte : ℕ) (bytes : List ℕ) (n : ℕ) → length bytes ≤ n → length (drop (width_of op) (byte ∷ bytes)) ≤ n
behind_shorter op byte bytes n le = let l : length (drop (width_of op) (byte ∷ bytes)) + width_of op ≤ suc (length bytes) + width_of op = omega (arith, length-drop (width_of op) (byte ∷ bytes)) in omega (arith, length-drop (width_of op) (byte ∷ bytes))

-- it is no matter how many may be read, where there are fewer bytes
enough : (n m : ℕ) (code : List ℕ) → length code ≤ n → length code ≤ m → instructions_within n code ≡ instructions_within m code
enough n m [] a b = instructions_within-empty n ∙ sym (instructions_within-empty m)
enough zero m (byte ∷ bytes) a b = absurd (omega arith)
enough (suc n) zero (byte ∷ bytes) a b = absurd (omega arith)
enough (suc n) (suc m) (byte ∷ bytes) a b =
    instructions_within-more n (byte ∷ bytes)
    ∙ followed_same (decoded (byte ∷ bytes)) (λ (i : Numbered). instructions_within n (drop (width_of i.op) (byte ∷ bytes))) (λ (i : Numbered). instructions_within m (drop (width_of i.op) (byte ∷ bytes))) (λ i. enough n m (drop (width_of i.op) (byte ∷ bytes)) (behind_shorter i.op byte bytes n (omega arith)) (behind_shorter i.op byte bytes m (omega arith)))
    ∙ sym (instructions_within-more m (byte ∷ bytes))

-- the first of them, and those after it
pub instructions_first : (code : List ℕ) → instructions code ≡ followed (decoded code) (λ i. instructions (drop (width_of i.op) code))
instructions_first [] = instructions_within-empty 0
instructions_first (byte ∷ bytes) =
    instructions_within-more (length bytes) (byte ∷ bytes)
    ∙ followed_same (decoded (byte ∷ bytes)) (λ (i : Numbered). instructions_within (length bytes) (drop (width_of i.op) (byte ∷ bytes))) (λ (i : Numbered). instructions (drop (width_of i.op) (byte ∷ bytes))) (λ i. enough (length bytes) (length (drop (width_of i.op) (byte ∷ bytes))) (drop (width_of i.op) (byte ∷ bytes)) (behind_shorter i.op byte bytes (length bytes) (omega arith)) (omega arith))

pub instructions_some : (code : List ℕ) (i : Numbered) → decoded code ≡ Some i → instructions code ≡ i ∷ instructions (drop (width_of i.op) code)
instructions_some code i is = instructions_first code ∙ ap (λ (o : Option Numbered). followed o (λ j. instructions (drop (width_of j.op) code))) is

pub instructions_no : (code : List ℕ) → decoded code ≡ None → instructions code ≡ []
instructions_no code is = instructions_first code ∙ ap (λ (o : Option Numbered). followed o (λ j. instructions (drop (width_of j.op) code))) is

-- ---- what an instruction is read from

-- bytes that begin with this instruction, taken apart
record Starts (code : List ℕ) (i : Numbered) : Type 0 where
  pub byte : ℕ
  pub one : List ℕ
  pub two : List ℕ
  pub behind : List ℕ
  pub code_is : code ≡ byte ∷ (one ++ (two ++ behind))
  pub found : op_at byte ≡ Some i.op
  pub first : length one ≡ first_of i.op
  pub second : length two ≡ second_of i.op
  pub a_is : i.a ≡ le_value one
  pub b_is : i.b ≡ le_value two

read_apart : (op : Op) (one two behind : List ℕ) → length one ≡ first_of op → length two ≡ second_of op → read_as op (one ++ (two ++ behind)) ≡ record { op = op; a = le_value one; b = le_value two }
read_apart op one two behind first second =
    ap₂ (λ (x : ℕ) (y : ℕ). let i : Numbered = record { op = op; a = x; b = y } in i)
    (ap le_value (take_at one (two ++ behind) (first_of op) first))
    (ap (λ (l : List ℕ). le_value (take (second_of op) l)) (drop_at one (two ++ behind) (first_of op) first) ∙ ap le_value (take_at two behind (second_of op) second))

starts_whole : (op : Op) (byte : ℕ) (rest : List ℕ) (i : Numbered) (whole : Bool) → nat_le (first_of op + second_of op) (length rest) ≡ whole → op_at byte ≡ Some op → ◌≡◌ {A = Option Numbered} (if whole then Some (read_as op rest) else None) (Some i) → Starts (byte ∷ rest) i
starts_whole op byte rest i true enough found is = subst (Starts (byte ∷ rest)) same (record {
  byte = byte;
  one = take (first_of op) rest;
  two = take (second_of op) (drop (first_of op) rest);
  behind = drop (second_of op) (drop (first_of op) rest);
  code_is = ap (λ (l : List ℕ). byte ∷ l) (sym (take-append-drop (first_of op) rest) ∙ ap (λ (l : List ℕ). take (first_of op) rest ++ l) (sym (take-append-drop (second_of op) (drop (first_of op) rest))));
  found = found;
  first = length-take-le (first_of op) rest (omega (arith, room));
  second = length-take-le (second_of op) (drop (first_of op) rest) (omega (arith, room, length-drop (first_of op) rest));
  a_is = refl;
  b_is = refl;
})
  where
    room : first_of op + second_of op ≤ length rest
    room = leb-true (first_of op + second_of op) (length rest) enough

    same : read_as op rest ≡ i
    same = cc
starts_whole op byte rest i false enough found is = absurd (cc)

starts_by : (byte : ℕ) (rest : List ℕ) (i : Numbered) (o : Option Op) → op_at byte ≡ o → decoded_as o rest ≡ Some i → Starts (byte ∷ rest) i
starts_by byte rest i None found is = absurd (cc)
starts_by byte rest i (Some op) found is = starts_whole op byte rest i (nat_le (first_of op + second_of op) (length rest)) refl found is

starts : (code : List ℕ) (i : Numbered) → decoded code ≡ Some i → Starts code i
starts [] i is = absurd (cc)
starts (byte ∷ rest) i is = starts_by byte rest i (op_at byte) refl is

-- an instruction is read whatever follows its bytes
pub decoded_local : (code rest : List ℕ) (i : Numbered) → decoded code ≡ Some i → decoded (take (width_of i.op) code ++ rest) ≡ Some i
decoded_local code rest i is = ap decoded cut ∙ (decoded-byte (s.byte ∷ (s.one ++ (s.two ++ rest))) s.byte (s.one ++ (s.two ++ rest)) i.op refl s.found ∙ (decoded_as-whole i.op (s.one ++ (s.two ++ rest)) room ∙ ap (λ (n : Numbered). Some n) same))
  where
    s : Starts code i
    s = starts code i is

    width : length (s.byte ∷ (s.one ++ s.two)) ≡ width_of i.op
    width = omega (arith, length-append s.one s.two, s.first, s.second)

    apart : code ≡ (s.byte ∷ (s.one ++ s.two)) ++ s.behind
    apart = s.code_is ∙ ap (λ (l : List ℕ). s.byte ∷ l) (sym (append_assoc s.one s.two s.behind))

    front : take (width_of i.op) code ≡ s.byte ∷ (s.one ++ s.two)
    front = ap (take (width_of i.op)) apart ∙ take_at (s.byte ∷ (s.one ++ s.two)) s.behind (width_of i.op) width

    cut : take (width_of i.op) code ++ rest ≡ s.byte ∷ (s.one ++ (s.two ++ rest))
    cut = ap (λ (l : List ℕ). l ++ rest) front ∙ ap (λ (l : List ℕ). s.byte ∷ l) (append_assoc s.one s.two rest)

    room : first_of i.op + second_of i.op ≤ length (s.one ++ (s.two ++ rest))
    room = omega (arith, length-append s.one (s.two ++ rest), length-append s.two rest, s.first, s.second)

    same : read_as i.op (s.one ++ (s.two ++ rest)) ≡ i
    same = read_apart i.op s.one s.two rest s.first s.second ∙ sym (ap₂ (λ (x : ℕ) (y : ℕ). let n : Numbered = record { op = i.op; a = x; b = y } in n) s.a_is s.b_is)

-- it is within the bytes
pub decoded_room : (code : List ℕ) (i : Numbered) → decoded code ≡ Some i → width_of i.op ≤ length code
decoded_room code i is = omega (arith, ap length s.code_is, length-append s.one (s.two ++ s.behind), length-append s.two s.behind, s.first, s.second)
  where
    s : Starts code i
    s = starts code i is

-- ---- bytes that are written over

written_split : (at : ℕ) (bytes old : List ℕ) → written (at + 1) bytes old ≡ ((take at old ++ take 1 (drop at old)) ++ bytes) ++ drop (at + 1 + length bytes) old
written_split at bytes old = ap (λ (l : List ℕ). (l ++ bytes) ++ drop (at + 1 + length bytes) old) (take-add at 1 old)

pub take_written : (at : ℕ) (bytes old : List ℕ) → at ≤ length old → take at (written (at + 1) bytes old) ≡ take at old
take_written at bytes old room =
    ap (take at) (written_split at bytes old ∙ append_assoc (take at old ++ take 1 (drop at old)) bytes back ∙ append_assoc (take at old) (take 1 (drop at old)) (bytes ++ back))
    ∙ take_at (take at old) (take 1 (drop at old) ++ (bytes ++ back)) at (length-take-le at old room)
  where
    back : List ℕ
    back = drop (at + 1 + length bytes) old

pub drop_written : (at next : ℕ) (bytes old : List ℕ) → at + 1 + length bytes ≡ next → at + 1 ≤ length old → drop next (written (at + 1) bytes old) ≡ drop next old
drop_written at next bytes old is room =
    ap (drop next) (ap (λ (n : ℕ). (take (at + 1) old ++ bytes) ++ drop n old) is)
    ∙ drop_at (take (at + 1) old ++ bytes) (drop next old) next (length-append (take (at + 1) old) bytes ∙ (ap (λ (n : ℕ). n + length bytes) (length-take-le (at + 1) old room) ∙ is))

-- the first byte that an instruction is laid out as
first_byte : (i : Numbered) (rest bytes : List ℕ) → laid i ++ rest ≡ bytes → take 1 bytes ≡ number_of i.op ∷ []
first_byte i rest bytes is = sym (ap (take 1) is)

laid_with : (first second n : ℕ) (byte b : ℕ) → first ≡ 4 → second ≡ 0 → byte ∷ (le_bytes first n ++ le_bytes second b) ≡ byte ∷ (le_bytes 4 n ++ [])
laid_with first second n byte b one two = ap₂ (λ (f : ℕ) (s : ℕ). byte ∷ (le_bytes f n ++ le_bytes s b)) one two

-- an instruction that is laid out at an offset, once its number is written over
pub laid_written : (at n : ℕ) (i : Numbered) (old : List ℕ) → at + 1 ≤ length old → first_of i.op ≡ 4 → second_of i.op ≡ 0 → laid i ≡ take (width_of i.op) (drop at old)
    → laid (renumbered n i) ≡ take (width_of i.op) (drop at (written (at + 1) (le_bytes 4 n) old))
laid_written at n i old room first second is = laid_with (first_of i.op) (second_of i.op) n (number_of i.op) i.b first second ∙ sym taken
  where
    back : List ℕ
    back = drop (at + 1 + length (le_bytes 4 n)) old

    opcode : take 1 (drop at old) ≡ number_of i.op ∷ []
    opcode = first_byte i (drop (width_of i.op) (drop at old)) (drop at old) (ap (λ (l : List ℕ). l ++ drop (width_of i.op) (drop at old)) is ∙ take-append-drop (width_of i.op) (drop at old))

    dropped : drop at (written (at + 1) (le_bytes 4 n) old) ≡ take 1 (drop at old) ++ (le_bytes 4 n ++ back)
    dropped =
        ap (drop at) (written_split at (le_bytes 4 n) old ∙ append_assoc (take at old ++ take 1 (drop at old)) (le_bytes 4 n) back ∙ append_assoc (take at old) (take 1 (drop at old)) (le_bytes 4 n ++ back))
        ∙ drop_at (take at old) (take 1 (drop at old) ++ (le_bytes 4 n ++ back)) at (length-take-le at old (omega arith))

    front : List ℕ
    front = number_of i.op ∷ (le_bytes 4 n ++ [])

    joined : drop at (written (at + 1) (le_bytes 4 n) old) ≡ front ++ back
    joined = dropped ∙ (ap (λ (l : List ℕ). l ++ (le_bytes 4 n ++ back)) opcode ∙ ap (λ (l : List ℕ). number_of i.op ∷ l) (sym (append_assoc (le_bytes 4 n) [] back)))

    size : length front ≡ width_of i.op
    size = omega (arith, length-append (le_bytes 4 n) [], length-le_bytes 4 n, first, second)

    taken : take (width_of i.op) (drop at (written (at + 1) (le_bytes 4 n) old)) ≡ front
    taken = ap (take (width_of i.op)) joined ∙ take_at front back (width_of i.op) size
