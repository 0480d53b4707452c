-- The loops over the instructions of a code.
use Rattle.std.proofs.Common.{◌≡◌, ℕ, zero, suc, ◌+◌, ◌-◌, ◌%◌, ◌^◌, ◌<◌, ◌≤◌, Bool, true, false, nat_le, if◌then◌else◌, List, [], ◌∷◌, ◌++◌, length, take, drop, get_or, get_or-drop, drop-drop, Option, Some, None, option_map, refl, ap, sym, subst, ◌∙◌, append_assoc, append-nil, arith}
use Rattle.std.specs.Int.{w64}
use Rattle.std.proofs.lemmas.Int.{of_z-to_z}
use Rattle.bytecode_buf.specs.declared.instruction.Instr.{Instr}
use Rattle.bytecode_buf.specs.declared.opcode.Op.{Op}
use Rattle.bytecode_buf.specs.declared.opcode.Shape.{Shape}
use Rattle.bytecode_buf.specs.declared.opcode.Shape.TheVariants as shape
use Rattle.bytecode_buf.specs.Bytes.{le_value}
use Rattle.bytecode_buf.specs.Table.{op_at}
use Rattle.bytecode_buf.specs.Width.{first_width, first_of, second_of, shape_of, is_jump, is_jump_shape, width_of}
use Rattle.bytecode_buf.specs.Layout.{Numbered, decoded, decoded_as, read_as, followed, instructions_within, instr_at, instr_by}
use Rattle.bytecode_buf.specs.Command.{Target, command_at, command_of, operand_at, operand_of, listed_from}
use Rattle.bytecode_buf.proofs.ReadBack.{instructions_within-none, instructions_within-more}
use Rattle.script_image.specs.CodeLines.{listing, line}
use Rattle.script_image.specs.ReadLines as read
use Rattle.script_image.specs.ReadLines.{read_operand}
pub use Rattle.script_image.specs.Pieces.{left_from}

-- ---- operands of bytes

abbrev pub AreBytes : List ℕ → Type 0
AreBytes bytes = (k : ℕ) → get_or bytes k 0 < 256

AreBytes-drop : (n : ℕ) (bytes : List ℕ) → AreBytes bytes → AreBytes (drop n bytes)
AreBytes-drop n bytes h k = rw (get_or-drop n bytes k 0) (h (n + k))

some_power : (n : ℕ) → 0 < 256 ^ n
some_power zero = omega arith
some_power (suc n) = let h : 0 < 256 ^ n = some_power n in omega arith

le_value_small : (n : ℕ) (bytes : List ℕ) → AreBytes bytes → le_value (take n bytes) < 256 ^ n
le_value_small zero bytes h = omega arith
le_value_small (suc n) [] h = some_power (suc n)
le_value_small (suc n) (byte ∷ bytes) h = let first : byte < 256 = h 0 in let rest : le_value (take n bytes) < 256 ^ n = le_value_small n bytes (λ k. h (suc k)) in omega arith

read_fits : (op : Op) (rest : List ℕ) (i : Numbered) (whole : Bool) → AreBytes rest → ◌≡◌ {A = Option Numbered} (if whole then Some (read_as op rest) else None) (Some i) → i.a < 256 ^ first_of i.op
read_fits op rest i true bytes is = let same : read_as op rest ≡ i = cc in subst (λ (n : Numbered). n.a < 256 ^ first_of n.op) same (le_value_small (first_of op) rest bytes)
read_fits op rest i false bytes is = absurd (cc)

decoded_as_fits : (o : Option Op) (rest : List ℕ) (i : Numbered) → AreBytes rest → decoded_as o rest ≡ Some i → i.a < 256 ^ first_of i.op
decoded_as_fits None rest i bytes is = absurd (cc)
decoded_as_fits (Some op) rest i bytes is = read_fits op rest i (nat_le (first_of op + second_of op) (length rest)) bytes is

-- the operand of a decoded instruction fits its width
decoded_fits : (code : List ℕ) (i : Numbered) → AreBytes code → decoded code ≡ Some i → i.a < 256 ^ first_of i.op
decoded_fits [] i bytes is = absurd (cc)
decoded_fits (byte ∷ rest) i bytes is = decoded_as_fits (op_at byte) rest i (λ k. bytes (suc k)) is

-- ---- an instruction as it is read is listed as its command at its place

plain_operand : (texts : List (List ℕ)) (at : ℕ) (s : Shape) (op : Op) (a b next : ℕ) → is_jump_shape s ≡ false → read_operand texts at s (instr_by false op a b next) ≡ operand_at at (operand_of texts s a b)
plain_operand texts at shape.Jump op a b next plain = absurd (cc)
plain_operand texts at _ op a b next plain = refl

jump_operand : (texts : List (List ℕ)) (at : ℕ) (s : Shape) (op : Op) (a b next : ℕ) → is_jump_shape s ≡ true → a < 256 ^ first_width s → read_operand texts at s (instr_by true op a b next) ≡ operand_at at (operand_of texts s a b)
jump_operand texts at shape.Jump op a b next jumps fits = ap (λ (n : ℕ). Target ((at + n) % 2 ^ 64)) (of_z-to_z w64 a fits)
jump_operand texts at _ op a b next jumps fits = absurd (cc)

listed_by : (texts : List (List ℕ)) (at : ℕ) (i : Numbered) (b : Bool) (next : ℕ) → is_jump i.op ≡ b → i.a < 256 ^ first_of i.op → read.read_as texts at (instr_by b i.op i.a i.b next) ≡ record { at = at; command = command_at at (command_of texts i) }
listed_by texts at i true next jumps fits = ap (λ o. record { at = at; command = record { op = i.op; operand = o } }) (jump_operand texts at (shape_of i.op) i.op i.a i.b next jumps fits)
listed_by texts at i false next plain fits = ap (λ o. record { at = at; command = record { op = i.op; operand = o } }) (plain_operand texts at (shape_of i.op) i.op i.a i.b next plain)

next_by : (b : Bool) (op : Op) (a c next : ℕ) → (instr_by b op a c next).next ≡ next
next_by true op a c next = refl
next_by false op a c next = refl

-- ---- one turn of a loop

-- this instruction is read at the offset
pub record ReadsNext (code : List ℕ) (at turn : ℕ) (instr : Instr) : Type 0 where
  pub i : Numbered
  pub is : instr ≡ instr_at at i
  pub fits : i.a < 256 ^ first_of i.op
  pub left : left_from code at turn ≡ i ∷ left_from code instr.next (turn + 1)

left_more : (code : List ℕ) (at turn : ℕ) → turn < length code → left_from code at turn ≡ followed (decoded (drop at code)) (λ i. instructions_within (length code - (turn + 1)) (drop (width_of i.op) (drop at code)))
left_more code at turn more =
    let one : length code - turn ≡ suc (length code - (turn + 1)) = omega arith in
    ap (λ (n : ℕ). instructions_within n (drop at code)) one ∙ instructions_within-more (length code - (turn + 1)) (drop at code)

next_as : (code : List ℕ) (at turn : ℕ) (instr : Instr) (d : Option Numbered) → decoded (drop at code) ≡ d → AreBytes code → turn < length code → Some instr ≡ option_map (instr_at at) d → ReadsNext code at turn instr
next_as code at turn instr None none bytes more read_it = absurd (cc)
next_as code at turn instr (Some i) some bytes more read_it = record {
  i = i;
  is = instr_is;
  fits = decoded_fits (drop at code) i (AreBytes-drop at code bytes) some;
  left = left_more code at turn more
      ∙ ap (λ (o : Option Numbered). followed o (λ j. instructions_within (length code - (turn + 1)) (drop (width_of j.op) (drop at code)))) some
      ∙ ap (λ (l : List ℕ). i ∷ instructions_within (length code - (turn + 1)) l) (drop-drop (width_of i.op) at code ∙ ap (λ (n : ℕ). drop n code) (sym next_is));
}
  where
    instr_is : instr ≡ instr_at at i
    instr_is = cc

    next_is : instr.next ≡ at + width_of i.op
    next_is = ap (λ (x : Instr). x.next) instr_is ∙ next_by (is_jump i.op) i.op i.a i.b (at + width_of i.op)

pub reads_next : (code : List ℕ) (at turn : ℕ) (instr : Instr) → AreBytes code → turn < length code → Some instr ≡ option_map (instr_at at) (decoded (drop at code)) → ReadsNext code at turn instr
reads_next code at turn instr bytes more read_it = next_as code at turn instr (decoded (drop at code)) refl bytes more read_it

none_as : (code : List ℕ) (at turn : ℕ) (d : Option Numbered) → decoded (drop at code) ≡ d → turn < length code → None ≡ option_map (instr_at at) d → left_from code at turn ≡ []
none_as code at turn None none more read_it = left_more code at turn more ∙ ap (λ (o : Option Numbered). followed o (λ j. instructions_within (length code - (turn + 1)) (drop (width_of j.op) (drop at code)))) none
none_as code at turn (Some i) some more read_it = absurd (cc)

-- nothing is read at the offset
pub reads_none : (code : List ℕ) (at turn : ℕ) → turn < length code → None ≡ option_map (instr_at at) (decoded (drop at code)) → left_from code at turn ≡ []
reads_none code at turn more read_it = none_as code at turn (decoded (drop at code)) refl more read_it

-- the loop ran as often as there are bytes
pub reads_end : (code : List ℕ) (at turn : ℕ) → length code ≤ turn → left_from code at turn ≡ []
reads_end code at turn done = let none : length code - turn ≡ zero = omega arith in ap (λ (n : ℕ). instructions_within n (drop at code)) none ∙ instructions_within-none (drop at code)

-- ---- what is printed

-- the line of the instruction that is read
pub line_next : (texts : List (List ℕ)) (code now new all : List ℕ) (at turn : ℕ) (instr : Instr) → ReadsNext code at turn instr → new ≡ now ++ line (read.read_as texts at instr) → now ++ listing (listed_from texts at (left_from code at turn)) ≡ all → new ++ listing (listed_from texts instr.next (left_from code instr.next (turn + 1))) ≡ all
line_next texts code now new all at turn instr r new_is text =
    ap (λ (l : List ℕ). l ++ listing (listed_from texts instr.next rest)) new_is
    ∙ append_assoc now (line (read.read_as texts at instr)) (listing (listed_from texts instr.next rest))
    ∙ ap (λ (x : Instr). now ++ (line (read.read_as texts at x) ++ listing (listed_from texts instr.next rest))) r.is
    ∙ ap (λ l. now ++ (line l ++ listing (listed_from texts instr.next rest))) (listed_by texts at r.i (is_jump r.i.op) (at + width_of r.i.op) refl r.fits)
    ∙ ap (λ (n : ℕ). now ++ (line (record { at = at; command = command_at at (command_of texts r.i) }) ++ listing (listed_from texts n rest))) next_is
    ∙ ap (λ (is : List Numbered). now ++ listing (listed_from texts at is)) (sym r.left)
    ∙ text
  where
    rest : List Numbered
    rest = left_from code instr.next (turn + 1)

    next_is : instr.next ≡ at + width_of r.i.op
    next_is = ap (λ (x : Instr). x.next) r.is ∙ next_by (is_jump r.i.op) r.i.op r.i.a r.i.b (at + width_of r.i.op)

-- nothing is left
pub line_end : (texts : List (List ℕ)) (now all : List ℕ) (at : ℕ) (left : List Numbered) → left ≡ [] → now ++ listing (listed_from texts at left) ≡ all → now ≡ all
line_end texts now all at left none text = sym (append-nil now) ∙ ap (λ (is : List Numbered). now ++ listing (listed_from texts at is)) (sym none) ∙ text

-- ---- what is counted

pub count_next : (code : List ℕ) (count all at turn : ℕ) (instr : Instr) → ReadsNext code at turn instr → count + length (left_from code at turn) ≡ all → (count + 1) + length (left_from code instr.next (turn + 1)) ≡ all
count_next code count all at turn instr r is = let one : length (left_from code at turn) ≡ suc (length (left_from code instr.next (turn + 1))) = ap length r.left in omega arith

pub count_end : (count all : ℕ) (left : List Numbered) → left ≡ [] → count + length left ≡ all → count ≡ all
count_end count all left none is = let zero_left : length left ≡ 0 = ap length none in omega arith
