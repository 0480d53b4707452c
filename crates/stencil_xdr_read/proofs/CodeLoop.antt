-- The loops over the instructions of a code.
use Rattle.std.proofs.Common.{◌≡◌, ℕ, zero, suc, ◌+◌, ◌-◌, ◌*◌, ◌/◌, ◌%◌, ◌^◌, ◌<◌, ◌≤◌, Bool, true, false, nat_le, if◌then◌else◌, List, [], ◌∷◌, ◌++◌, length, take, drop, get_or, get_or-drop, drop-drop, flat_map, Option, Some, None, option_map, refl, ap, ap₂, sym, subst, ◌∙◌, append_assoc, append-nil, arith, leb-true, length-drop, length-take-le, cond, eqb, eq-eqb, ◌==◌, slice_get}
use Rattle.std.specs.Prelude.{IsTrue, ◌↔◌}
use Rattle.std.proofs.lemmas.Bool.{false≢true, eqb-true}
use Rattle.std.proofs.Math.Seq.{take-length}
use Rattle.std.specs.Int.{w64, cast_unsigned}
use Rattle.std.proofs.lemmas.Int.{of_z-to_z}
use Rattle.bytecode_buf.specs.declared.instruction.Instr.{Instr}
use Rattle.bytecode_buf.specs.declared.opcode.Op.{Op}
use Rattle.bytecode_buf.specs.declared.opcode.Op.TheVariants as op
use Rattle.bytecode_buf.specs.declared.opcode.Shape.{Shape}
use Rattle.bytecode_buf.specs.declared.opcode.Shape.TheVariants as shape
use Rattle.bytecode_buf.specs.Bytes.{le_value, le_bytes}
use Rattle.bytecode_buf.specs.Table.{op_at, number_of}
use Rattle.bytecode_buf.specs.declared.opcode.TheConstants.{OPS}
use Rattle.bytecode_buf.specs.Width.{first_width, first_of, second_of, shape_of, is_jump, is_jump_shape, width_of}
use Rattle.bytecode_buf.specs.InRange.{LambdaWithin, JumpWithin}
use Rattle.bytecode_buf.specs.Layout.{Numbered, decoded, decoded_as, read_as, followed, instructions_within, instructions, instr_at, instr_by, layout, laid}
use Rattle.bytecode_buf.proofs.ReadBack.{instructions_within-none, instructions_within-more}
use Rattle.stencil_xdr_read.specs.Within.{TargetWithin, TargetsWithin, ReadWithin, CodeWithin}
use Rattle.stencil_xdr_read.specs.Atoms.{operand_atoms, instruction_atoms, read_atoms}

first_true : (a b : Bool) → cond a b false ≡ true → a ≡ true
first_true true b h = refl
first_true false b h = absurd (false≢true h)

rest_true : (a b : Bool) → cond a b false ≡ true → b ≡ true
rest_true true b h = h
rest_true false b h = absurd (false≢true h)

take_none : (n : ℕ) → ◌≡◌ {A = List ℕ} (take n []) []
take_none zero = refl
take_none (suc n) = refl

-- ---- operands of bytes

abbrev pub AreBytes : List ℕ → Type 0
AreBytes bytes = (k : ℕ) → get_or bytes k 0 < 256

pub AreBytes-drop : (n : ℕ) (bytes : List ℕ) → AreBytes bytes → AreBytes (drop n bytes)
AreBytes-drop n bytes h k = rw (get_or-drop n bytes k 0) (h (n + k))

some_power : (n : ℕ) → 0 < 256 ^ n
some_power zero = omega arith
some_power (suc n) = let h : 0 < 256 ^ n = some_power n in omega arith

pub le_value_small : (n : ℕ) (bytes : List ℕ) → AreBytes bytes → le_value (take n bytes) < 256 ^ n
le_value_small zero bytes h = omega arith
le_value_small (suc n) [] h = some_power (suc n)
le_value_small (suc n) (byte ∷ bytes) h = let first : byte < 256 = h 0 in let rest : le_value (take n bytes) < 256 ^ n = le_value_small n bytes (λ k. h (suc k)) in omega arith

read_fits : (op : Op) (rest : List ℕ) (i : Numbered) (whole : Bool) → AreBytes rest → ◌≡◌ {A = Option Numbered} (if whole then Some (read_as op rest) else None) (Some i) → i.a < 256 ^ first_of i.op
read_fits op rest i true bytes is = let same : read_as op rest ≡ i = cc in subst (λ (n : Numbered). n.a < 256 ^ first_of n.op) same (le_value_small (first_of op) rest bytes)
read_fits op rest i false bytes is = absurd (cc)

decoded_as_fits : (o : Option Op) (rest : List ℕ) (i : Numbered) → AreBytes rest → decoded_as o rest ≡ Some i → i.a < 256 ^ first_of i.op
decoded_as_fits None rest i bytes is = absurd (cc)
decoded_as_fits (Some op) rest i bytes is = read_fits op rest i (nat_le (first_of op + second_of op) (length rest)) bytes is

-- the operand of a decoded instruction fits its width
decoded_fits : (code : List ℕ) (i : Numbered) → AreBytes code → decoded code ≡ Some i → i.a < 256 ^ first_of i.op
decoded_fits [] i bytes is = absurd (cc)
decoded_fits (byte ∷ rest) i bytes is = decoded_as_fits (op_at byte) rest i (λ k. bytes (suc k)) is

-- ---- one turn of a loop

-- what is left of a code from an offset on, after n turns
abbrev pub left_from : List ℕ → ℕ → ℕ → List Numbered
left_from code at turn = instructions_within (length code - turn) (drop at code)

-- this instruction is read at the offset
pub record ReadsNext (code : List ℕ) (at turn : ℕ) (instr : Instr) : Type 0 where
  pub i : Numbered
  pub is : instr ≡ instr_at at i
  pub fits : i.a < 256 ^ first_of i.op
  pub next : instr.next ≡ at + width_of i.op
  pub decodes : decoded (drop at code) ≡ Some i
  pub left : left_from code at turn ≡ i ∷ left_from code instr.next (turn + 1)

next_by : (b : Bool) (op : Op) (a c next : ℕ) → (instr_by b op a c next).next ≡ next
next_by true op a c next = refl
next_by false op a c next = refl

left_more : (code : List ℕ) (at turn : ℕ) → turn < length code → left_from code at turn ≡ followed (decoded (drop at code)) (λ i. instructions_within (length code - (turn + 1)) (drop (width_of i.op) (drop at code)))
left_more code at turn more =
    let one : length code - turn ≡ suc (length code - (turn + 1)) = omega arith in
    ap (λ (n : ℕ). instructions_within n (drop at code)) one ∙ instructions_within-more (length code - (turn + 1)) (drop at code)

next_as : (code : List ℕ) (at turn : ℕ) (instr : Instr) (d : Option Numbered) → decoded (drop at code) ≡ d → AreBytes code → turn < length code → Some instr ≡ option_map (instr_at at) d → ReadsNext code at turn instr
next_as code at turn instr None none bytes more read_it = absurd (cc)
next_as code at turn instr (Some i) some bytes more read_it = record {
  i = i;
  is = instr_is;
  fits = decoded_fits (drop at code) i (AreBytes-drop at code bytes) some;
  next = next_is;
  decodes = some;
  left = left_more code at turn more
      ∙ ap (λ (o : Option Numbered). followed o (λ j. instructions_within (length code - (turn + 1)) (drop (width_of j.op) (drop at code)))) some
      ∙ ap (λ (l : List ℕ). i ∷ instructions_within (length code - (turn + 1)) l) (drop-drop (width_of i.op) at code ∙ ap (λ (n : ℕ). drop n code) (sym next_is));
}
  where
    instr_is : instr ≡ instr_at at i
    instr_is = cc

    next_is : instr.next ≡ at + width_of i.op
    next_is = ap (λ (x : Instr). x.next) instr_is ∙ next_by (is_jump i.op) i.op i.a i.b (at + width_of i.op)

pub reads_next : (code : List ℕ) (at turn : ℕ) (instr : Instr) → AreBytes code → turn < length code → Some instr ≡ option_map (instr_at at) (decoded (drop at code)) → ReadsNext code at turn instr
reads_next code at turn instr bytes more read_it = next_as code at turn instr (decoded (drop at code)) refl bytes more read_it

none_as : (code : List ℕ) (at turn : ℕ) (d : Option Numbered) → decoded (drop at code) ≡ d → turn < length code → None ≡ option_map (instr_at at) d → left_from code at turn ≡ []
none_as code at turn None none more read_it = left_more code at turn more ∙ ap (λ (o : Option Numbered). followed o (λ j. instructions_within (length code - (turn + 1)) (drop (width_of j.op) (drop at code)))) none
none_as code at turn (Some i) some more read_it = absurd (cc)

-- nothing is read at the offset
pub reads_none : (code : List ℕ) (at turn : ℕ) → turn < length code → None ≡ option_map (instr_at at) (decoded (drop at code)) → left_from code at turn ≡ []
reads_none code at turn more read_it = none_as code at turn (decoded (drop at code)) refl more read_it

-- the loop ran as often as there are bytes
pub reads_end : (code : List ℕ) (at turn : ℕ) → length code ≤ turn → left_from code at turn ≡ []
reads_end code at turn done = let none : length code - turn ≡ zero = omega arith in ap (λ (n : ℕ). instructions_within n (drop at code)) none ∙ instructions_within-none (drop at code)

-- ---- an instruction as it is read

jump_is_no_lambda : (o : Op) (a b functions : ℕ) → is_jump o ≡ true → LambdaWithin o a functions → LambdaWithin o b functions
jump_is_no_lambda op.Lambda a b functions jumps h = absurd (false≢true jumps)
jump_is_no_lambda _ a b functions jumps h = tt

plain_jump : (s : Shape) (at a b size : ℕ) → is_jump_shape s ≡ false → JumpWithin s at a size → JumpWithin s at b size
plain_jump shape.Jump at a b size plain h = absurd (false≢true (sym plain))
plain_jump _ at a b size plain h = tt

jump_width : (s : Shape) → is_jump_shape s ≡ true → first_width s ≡ 8
jump_width shape.Jump h = refl
jump_width _ h = absurd (false≢true h)

within_by : (functions size at next : ℕ) (i : Numbered) (b : Bool) → is_jump i.op ≡ b → i.a < 256 ^ first_of i.op → ReadWithin functions size at (instr_by b i.op i.a i.b next) ↔ TargetWithin functions size at i
within_by functions size at next i true jumps fits =
    let small : i.a < 2 ^ 64 = subst (λ (k : ℕ). i.a < 256 ^ k) (jump_width (shape_of i.op) jumps) fits in
    let same : cast_unsigned w64 ((instr_by true i.op i.a i.b next).to) ≡ i.a = of_z-to_z w64 i.a small in (
      λ h. (jump_is_no_lambda i.op 0 i.a functions jumps h.0, subst (λ (k : ℕ). JumpWithin (shape_of i.op) at k size) same h.1),
      λ h. (jump_is_no_lambda i.op i.a 0 functions jumps h.0, subst (λ (k : ℕ). JumpWithin (shape_of i.op) at k size) (sym same) h.1),
    )
within_by functions size at next i false plain fits =
    (λ h. (h.0, plain_jump (shape_of i.op) at _ i.a size plain h.1), λ h. (h.0, plain_jump (shape_of i.op) at i.a _ size plain h.1))

read_within : (functions size : ℕ) (code : List ℕ) (at turn : ℕ) (instr : Instr) (r : ReadsNext code at turn instr) → ReadWithin functions size at instr ↔ TargetWithin functions size at r.i
read_within functions size code at turn instr r =
    subst (λ (x : Instr). ReadWithin functions size at x ↔ TargetWithin functions size at r.i) (sym r.is) (within_by functions size at (at + width_of r.i.op) r.i (is_jump r.i.op) refl r.fits)

atoms_jump : (s : Shape) (a : ℕ) → is_jump_shape s ≡ true → operand_atoms s 0 ≡ operand_atoms s a
atoms_jump shape.Atom a jumps = absurd (false≢true jumps)
atoms_jump _ a jumps = refl

atoms_by : (i : Numbered) (b : Bool) (next : ℕ) → is_jump i.op ≡ b → read_atoms (instr_by b i.op i.a i.b next) ≡ instruction_atoms i
atoms_by i true next jumps = atoms_jump (shape_of i.op) i.a jumps
atoms_by i false next plain = refl

-- ---- atoms

pub atoms_next : (code now new all : List ℕ) (at turn : ℕ) (instr : Instr) → ReadsNext code at turn instr → new ≡ now ++ read_atoms instr → now ++ flat_map instruction_atoms (left_from code at turn) ≡ all → new ++ flat_map instruction_atoms (left_from code instr.next (turn + 1)) ≡ all
atoms_next code now new all at turn instr r new_is is =
    ap (λ (l : List ℕ). l ++ rest) new_is
    ∙ (append_assoc now (read_atoms instr) rest
    ∙ (ap (λ (l : List ℕ). now ++ (l ++ rest)) (ap read_atoms r.is ∙ atoms_by r.i (is_jump r.i.op) (at + width_of r.i.op) refl)
    ∙ (ap (λ (l : List Numbered). now ++ flat_map instruction_atoms l) (sym r.left) ∙ is)))
  where
    rest : List ℕ
    rest = flat_map instruction_atoms (left_from code instr.next (turn + 1))

pub atoms_end : (now all : List ℕ) (left : List Numbered) → left ≡ [] → now ++ flat_map instruction_atoms left ≡ all → now ≡ all
atoms_end now all left none is = sym (append-nil now) ∙ (ap (λ (l : List Numbered). now ++ flat_map instruction_atoms l) (sym none) ∙ is)

-- ---- the bytes of a decoded instruction

numbers_from : ℕ → List Op → Bool
numbers_from n [] = true
numbers_from n (o ∷ os) = cond (eqb (number_of o) n) (numbers_from (suc n) os) false

ops_numbers : numbers_from 0 OPS ≡ true
unfolding numbers_from
ops_numbers = refl

number_at : (n : ℕ) (os : List Op) (k : ℕ) (o : Op) → numbers_from n os ≡ true → slice_get os k ≡ Some o → number_of o ≡ n + k
unfolding numbers_from
number_at n [] k o all is = absurd (cc)
number_at n (p ∷ os) zero o all is = let same : p ≡ o = cc in let e : number_of p ≡ n = eqb-true (number_of p) n (first_true (eqb (number_of p) n) (numbers_from (suc n) os) all) in sym (ap number_of same) ∙ (e ∙ omega arith)
number_at n (p ∷ os) (suc k) o all is = number_at (suc n) os k o (rest_true (eqb (number_of p) n) (numbers_from (suc n) os) all) is ∙ omega arith

byte_of_op : (byte : ℕ) (o : Op) → op_at byte ≡ Some o → number_of o ≡ byte
byte_of_op byte o is = number_at 0 OPS byte o ops_numbers is ∙ omega arith

le_bytes-le_value : (w : ℕ) (bs : List ℕ) → AreBytes bs → w ≤ length bs → le_bytes w (le_value (take w bs)) ≡ take w bs
le_bytes-le_value zero bs are room = refl
le_bytes-le_value (suc w) [] are room = absurd (omega arith)
le_bytes-le_value (suc w) (b ∷ bs) are room =
    let small : b < 256 = are 0 in
    let low : (b + 256 * le_value (take w bs)) % 256 ≡ b = omega arith in
    let high : (b + 256 * le_value (take w bs)) / 256 ≡ le_value (take w bs) = omega arith in
    ap₂ (λ (x : ℕ) (l : List ℕ). x ∷ l) low (ap (le_bytes w) high ∙ le_bytes-le_value w bs (λ k. are (suc k)) (omega arith))

-- the bytes begin with those of an instruction
pub record LaidAt (bs : List ℕ) (i : Numbered) : Type 0 where
  pub room : width_of i.op ≤ length bs
  pub is : laid i ≡ take (width_of i.op) bs

take-add : (n m : ℕ) (xs : List ℕ) → take (n + m) xs ≡ take n xs ++ take m (drop n xs)
take-add zero m xs = let e : 0 + m ≡ m = omega arith in ap (λ (k : ℕ). take k xs) e
take-add (suc n) m [] = let e : suc n + m ≡ suc (n + m) = omega arith in ap (λ (k : ℕ). take k []) e ∙ sym (take_none m)
take-add (suc n) m (x ∷ xs) = let e : suc n + m ≡ suc (n + m) = omega arith in ap (λ (k : ℕ). take k (x ∷ xs)) e ∙ ap (λ (l : List ℕ). x ∷ l) (take-add n m xs)

laid_by : (byte : ℕ) (rest : List ℕ) (o : Op) (i : Numbered) (b : Bool) → AreBytes rest → number_of o ≡ byte → nat_le (first_of o + second_of o) (length rest) ≡ b → ◌≡◌ {A = Option Numbered} (if b then Some (read_as o rest) else None) (Some i) → LaidAt (byte ∷ rest) i
laid_by byte rest o i false are named enough is = absurd (cc)
laid_by byte rest o i true are named enough is = subst (LaidAt (byte ∷ rest)) same (record {
  room = omega (arith, long);
  is = ap₂ (λ (x : ℕ) (l : List ℕ). x ∷ l) named (ap₂ (λ (x : List ℕ) (y : List ℕ). x ++ y)
      (le_bytes-le_value (first_of o) rest are (omega (arith, long)))
      (le_bytes-le_value (second_of o) (drop (first_of o) rest) (AreBytes-drop (first_of o) rest are) (omega (arith, long, length-drop (first_of o) rest)))
      ∙ sym (take-add (first_of o) (second_of o) rest))
      ∙ ap (λ (k : ℕ). take k (byte ∷ rest)) (sym wide);
})
  where
    same : read_as o rest ≡ i
    same = cc

    long : first_of o + second_of o ≤ length rest
    long = leb-true (first_of o + second_of o) (length rest) enough

    wide : width_of o ≡ suc (first_of o + second_of o)
    wide = omega arith

laid_as : (byte : ℕ) (rest : List ℕ) (d : Option Op) (i : Numbered) → op_at byte ≡ d → AreBytes rest → decoded_as d rest ≡ Some i → LaidAt (byte ∷ rest) i
laid_as byte rest None i named are is = absurd (cc)
laid_as byte rest (Some o) i named are is = laid_by byte rest o i (nat_le (first_of o + second_of o) (length rest)) are (byte_of_op byte o named) refl is

pub laid_at : (bs : List ℕ) (i : Numbered) → AreBytes bs → decoded bs ≡ Some i → LaidAt bs i
laid_at [] i are is = absurd (cc)
laid_at (byte ∷ rest) i are is = laid_as byte rest (op_at byte) i refl (λ k. are (suc k)) is

-- ---- ranges

-- how far a loop that tests instructions has come
pub record Testing (functions : ℕ) (code : List ℕ) (at turn : ℕ) : Type 0 where
  pub inside : at ≤ length code
  pub bytes : layout (instructions code) ≡ take at code ++ layout (left_from code at turn)
  pub gives : TargetsWithin functions (length code) at (left_from code at turn) → TargetsWithin functions (length code) 0 (instructions code)
  pub takes : TargetsWithin functions (length code) 0 (instructions code) → TargetsWithin functions (length code) at (left_from code at turn)

pub testing_none : (functions : ℕ) (code : List ℕ) → Testing functions code 0 0
testing_none functions code = record {
  inside = omega arith;
  bytes = ap layout (sym same);
  gives = λ h. subst (TargetsWithin functions (length code) 0) same h;
  takes = λ h. subst (TargetsWithin functions (length code) 0) (sym same) h;
}
  where
    same : left_from code 0 0 ≡ instructions code
    same = let e : length code - 0 ≡ length code = omega arith in ap (λ (n : ℕ). instructions_within n code) e

pub testing_more : (functions : ℕ) (code : List ℕ) (at turn : ℕ) (instr : Instr) (b : Bool) → AreBytes code → ReadsNext code at turn instr → IsTrue b ↔ ReadWithin functions (length code) at instr → b ≡ true → Testing functions code at turn → Testing functions code instr.next (turn + 1)
testing_more functions code at turn instr b are r test passed t = record {
  inside = subst (λ (k : ℕ). k ≤ length code) (sym r.next) (omega (arith, w.room, t.inside, length-drop at code));
  bytes = t.bytes ∙ (ap (λ (l : List Numbered). take at code ++ layout l) r.left
      ∙ (sym (append_assoc (take at code) (laid r.i) (layout (left_from code instr.next (turn + 1))))
      ∙ ap (λ (l : List ℕ). l ++ layout (left_from code instr.next (turn + 1))) front));
  gives = λ h. t.gives (subst (TargetsWithin functions (length code) at) (sym r.left) (within.0 (test.0 passed), subst (λ (k : ℕ). TargetsWithin functions (length code) k (left_from code instr.next (turn + 1))) r.next h));
  takes = λ h. subst (λ (k : ℕ). TargetsWithin functions (length code) k (left_from code instr.next (turn + 1))) (sym r.next) (subst (TargetsWithin functions (length code) at) r.left (t.takes h)).1;
}
  where
    w : LaidAt (drop at code) r.i
    w = laid_at (drop at code) r.i (AreBytes-drop at code are) r.decodes

    within : ReadWithin functions (length code) at instr ↔ TargetWithin functions (length code) at r.i
    within = read_within functions (length code) code at turn instr r

    front : take at code ++ laid r.i ≡ take instr.next code
    front = ap (λ (l : List ℕ). take at code ++ l) w.is ∙ (sym (take-add at (width_of r.i.op) code) ∙ ap (λ (k : ℕ). take k code) (sym r.next))

pub testing_fails : (functions : ℕ) (code : List ℕ) (at turn : ℕ) (instr : Instr) (b : Bool) → ReadsNext code at turn instr → IsTrue b ↔ ReadWithin functions (length code) at instr → b ≡ false → Testing functions code at turn → IsTrue false ↔ CodeWithin functions code
testing_fails functions code at turn instr b r test failed t =
    let within = read_within functions (length code) code at turn instr r in (
      λ h. absurd (false≢true h),
      λ h. absurd (false≢true (sym failed ∙ test.1 (within.1 (subst (TargetsWithin functions (length code) at) r.left (t.takes h.1)).0))),
    )

pub testing_end : (functions : ℕ) (code : List ℕ) (at turn : ℕ) (b : Bool) → left_from code at turn ≡ [] → b ≡ (at == length code) → Testing functions code at turn → IsTrue b ↔ CodeWithin functions code
testing_end functions code at turn b none test t = (
  λ h. (front ∙ whole (eqb-true at (length code) (sym test ∙ h)), t.gives (subst (TargetsWithin functions (length code) at) (sym none) tt)),
  λ h. test ∙ eq-eqb at (length code) (long (sym front ∙ h.0)),
)
  where
    front : layout (instructions code) ≡ take at code
    front = t.bytes ∙ (ap (λ (l : List Numbered). take at code ++ layout l) none ∙ append-nil (take at code))

    whole : at ≡ length code → take at code ≡ code
    whole e = ap (λ (k : ℕ). take k code) e ∙ take-length code

    long : take at code ≡ code → at ≡ length code
    long e = sym (length-take-le at code t.inside) ∙ ap length e
