-- The loop over the instructions of a code.
use Rattle.std.proofs.Common.{◌≡◌, ℕ, ◌+◌, ◌%◌, ◌^◌, ◌<◌, Bool, true, false, List, [], ◌∷◌, ◌++◌, map, refl, sym, ap, ◌∙◌, append_assoc, append-nil}
use Rattle.std.specs.Int.{w64}
use Rattle.std.proofs.lemmas.Int.{of_z-to_z}
use Rattle.serde_json.specs.Data.{Data}
use Rattle.bytecode_buf.specs.declared.instruction.Instr.{Instr}
use Rattle.bytecode_buf.specs.declared.opcode.Op.{Op}
use Rattle.bytecode_buf.specs.declared.opcode.Shape.{Shape}
use Rattle.bytecode_buf.specs.declared.opcode.Shape.TheVariants as shape
use Rattle.bytecode_buf.specs.Width.{first_width, first_of, shape_of, is_jump, is_jump_shape, width_of}
use Rattle.bytecode_buf.specs.Layout.{Numbered, instr_by}
use Rattle.bytecode_buf.specs.Command.{Target, Listed, command_at, command_of, operand_at, operand_of, listed_from}
use Rattle.script_image.specs.ReadLines as read
use Rattle.script_image.proofs.CodeLoop.{ReadsNext, left_from}

-- ---- an instruction as it is read is listed as its command at its place

plain_operand : (texts : List (List ℕ)) (at : ℕ) (s : Shape) (op : Op) (a b next : ℕ) → is_jump_shape s ≡ false → read.read_operand texts at s (instr_by false op a b next) ≡ operand_at at (operand_of texts s a b)
plain_operand texts at shape.Jump op a b next plain = absurd (cc)
plain_operand texts at _ op a b next plain = refl

jump_operand : (texts : List (List ℕ)) (at : ℕ) (s : Shape) (op : Op) (a b next : ℕ) → is_jump_shape s ≡ true → a < 256 ^ first_width s → read.read_operand texts at s (instr_by true op a b next) ≡ operand_at at (operand_of texts s a b)
jump_operand texts at shape.Jump op a b next jumps fits = ap (λ (n : ℕ). Target ((at + n) % 2 ^ 64)) (of_z-to_z w64 a fits)
jump_operand texts at _ op a b next jumps fits = absurd (cc)

listed_by : (texts : List (List ℕ)) (at : ℕ) (i : Numbered) (b : Bool) (next : ℕ) → is_jump i.op ≡ b → i.a < 256 ^ first_of i.op → read.read_as texts at (instr_by b i.op i.a i.b next) ≡ record { at = at; command = command_at at (command_of texts i) }
listed_by texts at i true next jumps fits = ap (λ o. record { at = at; command = record { op = i.op; operand = o } }) (jump_operand texts at (shape_of i.op) i.op i.a i.b next jumps fits)
listed_by texts at i false next plain fits = ap (λ o. record { at = at; command = record { op = i.op; operand = o } }) (plain_operand texts at (shape_of i.op) i.op i.a i.b next plain)

next_by : (b : Bool) (op : Op) (a c next : ℕ) → (instr_by b op a c next).next ≡ next
next_by true op a c next = refl
next_by false op a c next = refl

-- ---- what is left of the list

listed_next : (texts : List (List ℕ)) (code : List ℕ) (at turn : ℕ) (instr : Instr) → ReadsNext code at turn instr
    → listed_from texts at (left_from code at turn) ≡ read.read_as texts at instr ∷ listed_from texts instr.next (left_from code instr.next (turn + 1))
listed_next texts code at turn instr r =
    ap (λ (is : List Numbered). listed_from texts at is) r.left
    ∙ ap (λ (n : ℕ). record { at = at; command = command_at at (command_of texts r.i) } ∷ listed_from texts n rest) (sym next_is)
    ∙ ap (λ (l : Listed). l ∷ listed_from texts instr.next rest) (sym (listed_by texts at r.i (is_jump r.i.op) (at + width_of r.i.op) refl r.fits))
    ∙ ap (λ (x : Instr). read.read_as texts at x ∷ listed_from texts instr.next rest) (sym r.is)
  where
    rest : List Numbered
    rest = left_from code instr.next (turn + 1)

    next_is : instr.next ≡ at + width_of r.i.op
    next_is = ap (λ (x : Instr). x.next) r.is ∙ next_by (is_jump r.i.op) r.i.op r.i.a r.i.b (at + width_of r.i.op)

-- what is made of the instruction that is read goes behind those in front of it
pub value_next : (f : Listed → Data) (texts : List (List ℕ)) (code : List ℕ) (now new all : List Data) (at turn : ℕ) (instr : Instr) → ReadsNext code at turn instr → new ≡ now ++ f (read.read_as texts at instr) ∷ []
    → now ++ map f (listed_from texts at (left_from code at turn)) ≡ all → new ++ map f (listed_from texts instr.next (left_from code instr.next (turn + 1))) ≡ all
value_next f texts code now new all at turn instr r new_is is =
    ap (λ (l : List Data). l ++ map f (listed_from texts instr.next (left_from code instr.next (turn + 1)))) new_is
    ∙ append_assoc now (f (read.read_as texts at instr) ∷ []) (map f (listed_from texts instr.next (left_from code instr.next (turn + 1))))
    ∙ ap (λ (ls : List Listed). now ++ map f ls) (sym (listed_next texts code at turn instr r))
    ∙ is

-- nothing is left
pub value_end : (f : Listed → Data) (texts : List (List ℕ)) (now all : List Data) (at : ℕ) (left : List Numbered) → left ≡ [] → now ++ map f (listed_from texts at left) ≡ all → now ≡ all
value_end f texts now all at left none is = sym (append-nil now) ∙ ap (λ (is : List Numbered). now ++ map f (listed_from texts at is)) (sym none) ∙ is
