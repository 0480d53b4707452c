-- A walk over the instructions of a code that hands their items.
use Rattle.std.proofs.Common.{◌≡◌, ℕ, ◌+◌, ◌-◌, ◌≤◌, Bool, true, false, List, [], ◌∷◌, ◌++◌, length, take, drop, flat_map, Option, Some, None, option_map, refl, sym, ◌∙◌, ap, ap₂, subst, append_assoc, append-nil, arith, length-append, length-drop}
use Rattle.bytecode_buf.specs.declared.instruction.Instr.{Instr}
use Rattle.bytecode_buf.specs.declared.opcode.Op.{Op}
use Rattle.bytecode_buf.specs.declared.opcode.Shape.{Shape}
use Rattle.bytecode_buf.specs.declared.opcode.Shape.TheVariants as shape
use Rattle.bytecode_buf.specs.Layout.{Numbered, decoded, instructions_within, instructions, instr_at, instr_by, laid, layout}
use Rattle.bytecode_buf.specs.Table.{number_of}
use Rattle.bytecode_buf.specs.Width.{shape_of, is_jump, is_jump_shape, width_of}
use Rattle.bytecode_buf.proofs.ReadBack.{length-laid}
use Rattle.stencil_xdr_specs.specs.Image.{Item, Bytes, Atom, number, instruction_items}
use Rattle.stencil_xdr_read.proofs.CodeLoop.{AreBytes, AreBytes-drop, LaidAt, laid_at, left_from, ReadsNext}
use Rattle.stencil_xdr_write.specs.Numbers.{numbered_items, read_items, instructions_items}
use Rattle.stencil_xdr_write.proofs.Handing.{TakesBoth}

-- ---- one instruction

op_by : (b : Bool) (o : Op) (a c next : ℕ) → (instr_by b o a c next).op ≡ o
op_by true o a c next = refl
op_by false o a c next = refl

next_by : (b : Bool) (o : Op) (a c next : ℕ) → (instr_by b o a c next).next ≡ next
next_by true o a c next = refl
next_by false o a c next = refl

-- this instruction stands at the offset, and its bytes are within the code
pub record StandsAt (code : List ℕ) (at : ℕ) (instr : Instr) : Type 0 where
  pub i : Numbered
  pub is : instr ≡ instr_at at i
  pub decodes : decoded (drop at code) ≡ Some i
  pub next : instr.next ≡ at + width_of i.op
  pub inside : instr.next ≤ length code
  pub bytes : laid i ≡ take (width_of i.op) (drop at code)

stands_by : (code : List ℕ) (at : ℕ) (instr : Instr) (d : Option Numbered) → decoded (drop at code) ≡ d → AreBytes code → Some instr ≡ option_map (instr_at at) d → StandsAt code at instr
stands_by code at instr None none bytes read_it = absurd (cc)
stands_by code at instr (Some i) some bytes read_it = record {
  i = i;
  is = is;
  decodes = some;
  next = next;
  inside = omega (arith, next, w.room, length-drop at code);
  bytes = w.is;
}
  where
    w : LaidAt (drop at code) i
    w = laid_at (drop at code) i (AreBytes-drop at code bytes) some

    is : instr ≡ instr_at at i
    is = cc

    next : instr.next ≡ at + width_of i.op
    next = ap (λ (x : Instr). x.next) is ∙ next_by (is_jump i.op) i.op i.a i.b (at + width_of i.op)

pub stands : (code : List ℕ) (at : ℕ) (instr : Instr) → AreBytes code → Some instr ≡ option_map (instr_at at) (decoded (drop at code)) → StandsAt code at instr
stands code at instr bytes read_it = stands_by code at instr (decoded (drop at code)) refl bytes read_it

same_op : (code : List ℕ) (at : ℕ) (instr : Instr) (s : StandsAt code at instr) → instr.op ≡ s.i.op
same_op code at instr s = ap (λ (x : Instr). x.op) s.is ∙ op_by (is_jump s.i.op) s.i.op s.i.a s.i.b (at + width_of s.i.op)

operand_by : (i : Numbered) (b : Bool) (next : ℕ) → is_jump i.op ≡ b → shape_of i.op ≡ shape.Atom → (instr_by b i.op i.a i.b next).a ≡ i.a
operand_by i true next jumps named = let e : is_jump_shape shape.Atom ≡ true = sym (ap is_jump_shape named) ∙ jumps in absurd (cc)
operand_by i false next jumps named = refl

named_items : (i : Numbered) (s : Shape) → s ≡ shape.Atom → instruction_items s i ≡ number 1 (number_of i.op) ∷ Atom i.a ∷ []
named_items i s e = ap (λ (t : Shape). instruction_items t i) e

plain_items : (i : Numbered) (s : Shape) → (s ≡ shape.Atom → ⊥) → instruction_items s i ≡ Bytes (laid i) ∷ []
plain_items i shape.Atom h = absurd (h refl)
plain_items i _ h = refl

-- an instruction that names a text
pub items_named : (code : List ℕ) (at : ℕ) (instr : Instr) → StandsAt code at instr → shape_of instr.op ≡ shape.Atom → number 1 (number_of instr.op) ∷ Atom instr.a ∷ [] ≡ read_items (decoded (drop at code))
items_named code at instr s named =
    let op = same_op code at instr s in
    let here : shape_of s.i.op ≡ shape.Atom = sym (ap shape_of op) ∙ named in
    let operand : instr.a ≡ s.i.a = ap (λ (x : Instr). x.a) s.is ∙ operand_by s.i (is_jump s.i.op) (at + width_of s.i.op) refl here in
    ap₂ (λ (o : Op) (a : ℕ). let l : List Item = number 1 (number_of o) ∷ Atom a ∷ [] in l) op operand
    ∙ (sym (named_items s.i (shape_of s.i.op) here) ∙ sym (ap read_items s.decodes))

-- every other instruction
pub items_plain : (code : List ℕ) (at : ℕ) (instr : Instr) → StandsAt code at instr → (shape_of instr.op ≡ shape.Atom → ⊥) → Bytes (take (instr.next - at) (drop at code)) ∷ [] ≡ read_items (decoded (drop at code))
items_plain code at instr s plain =
    let op = same_op code at instr s in
    let long : instr.next - at ≡ width_of s.i.op = omega (arith, s.next) in
    ap (λ (n : ℕ). let l : List Item = Bytes (take n (drop at code)) ∷ [] in l) long
    ∙ (ap (λ (bs : List ℕ). let l : List Item = Bytes bs ∷ [] in l) (sym s.bytes)
    ∙ (sym (plain_items s.i (shape_of s.i.op) (λ e. plain (ap shape_of op ∙ e))) ∙ sym (ap read_items s.decodes)))

pub before_next : (code : List ℕ) (at : ℕ) (instr : Instr) → StandsAt code at instr → at ≤ instr.next
before_next code at instr s = omega (arith, s.next)

-- ---- one instruction after another

left_all : (code : List ℕ) → left_from code 0 0 ≡ instructions code
left_all code = let e : length code - 0 ≡ length code = omega arith in ap (λ (n : ℕ). instructions_within n code) e

-- how far a walk has come
pub record HandsCode {S : Type 0} (takes : S → List Item → S → Type 0) (old now : S) (code : List ℕ) (at turn : ℕ) : Type 0 where
  pub done : List Item
  pub taken : takes old done now
  pub is : done ++ flat_map numbered_items (left_from code at turn) ≡ instructions_items code

pub code_none : {S : Type 0} (takes : S → List Item → S → Type 0) (old : S) (code : List ℕ) → takes old [] old → HandsCode takes old old code 0 0
code_none takes old code none = record { done = []; taken = none; is = ap (flat_map numbered_items) all }
  where
    all : left_from code 0 0 ≡ instructions code
    all = left_all code

pub code_more : {S : Type 0} (takes : S → List Item → S → Type 0) → TakesBoth takes → (old now new : S) (code : List ℕ) (at turn : ℕ) (instr : Instr)
    → ReadsNext code at turn instr → takes now (read_items (decoded (drop at code))) new → HandsCode takes old now code at turn → HandsCode takes old new code instr.next (turn + 1)
code_more takes both old now new code at turn instr r taken h = record {
  done = h.done ++ numbered_items r.i;
  taken = both old now new h.done (numbered_items r.i) h.taken (subst (λ (d : Option Numbered). takes now (read_items d) new) r.decodes taken);
  is = append_assoc h.done (numbered_items r.i) (flat_map numbered_items (left_from code instr.next (turn + 1)))
      ∙ (ap (λ (l : List Numbered). h.done ++ flat_map numbered_items l) (sym r.left) ∙ h.is);
}

pub code_end : {S : Type 0} (takes : S → List Item → S → Type 0) (old now : S) (code : List ℕ) (at turn : ℕ) → left_from code at turn ≡ [] → HandsCode takes old now code at turn → takes old (instructions_items code) now
code_end takes old now code at turn none h = subst (λ (l : List Item). takes old l now) (sym (append-nil h.done) ∙ (ap (λ (l : List Numbered). h.done ++ flat_map numbered_items l) (sym none) ∙ h.is)) h.taken

-- ---- how many bytes the instructions are

pub size_none : (code : List ℕ) → 0 + length (layout (left_from code 0 0)) ≡ length (layout (instructions code))
size_none code = omega (arith, ap (λ (is : List Numbered). length (layout is)) (left_all code))

pub size_more : (code : List ℕ) (all at turn : ℕ) (instr : Instr) → ReadsNext code at turn instr → at + length (layout (left_from code at turn)) ≡ all → instr.next + length (layout (left_from code instr.next (turn + 1))) ≡ all
size_more code all at turn instr r h =
    omega (arith, r.next, h, ap (λ (is : List Numbered). length (layout is)) r.left, length-append (laid r.i) (layout (left_from code instr.next (turn + 1))), length-laid r.i)

pub size_end : (code : List ℕ) (all at turn : ℕ) → left_from code at turn ≡ [] → at + length (layout (left_from code at turn)) ≡ all → at ≡ all
size_end code all at turn none h = omega (arith, h, ap (λ (is : List Numbered). length (layout is)) none)
