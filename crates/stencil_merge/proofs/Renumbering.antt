-- A loop over instructions, some of which get another operand.
use Rattle.std.proofs.Common.{◌≡◌, ℕ, ◌+◌, ◌-◌, ◌<◌, ◌≤◌, List, [], ◌∷◌, ◌++◌, length, take, drop, map, Option, Some, None, option_map, refl, sym, ◌∙◌, ap, ap₂, subst, append_assoc, arith, length-drop, length-take-le, take-append-drop, take-add, drop-drop, take_at, drop_at, IsTrue, IsSomeAnd, Bool, true, false}
use Rattle.std.specs.Prelude.{unwrap_or}
use Rattle.bytecode_buf.specs.declared.instruction.Instr.{Instr}
use Rattle.bytecode_buf.specs.declared.opcode.Op.{Op}
use Rattle.bytecode_buf.specs.declared.opcode.Op.TheVariants as op
use Rattle.bytecode_buf.specs.declared.opcode.Shape.{Shape}
use Rattle.bytecode_buf.specs.declared.opcode.Shape.TheVariants as shape
use Rattle.bytecode_buf.specs.Bytes.{le_bytes, written}
use Rattle.bytecode_buf.specs.Width.{shape_of, width_of, first_of, second_of, is_jump, is_jump_shape, has_number, has_number_shape}
use Rattle.bytecode_buf.specs.Layout.{Numbered, decoded, decoded_as, instructions, instr_at, instr_by, renumbered, BeginsNumbered, IsWhole, laid, layout}
use Rattle.bytecode_buf.proofs.Decode.{decoded_as-whole, numbered_widths}
use Rattle.bytecode_buf.proofs.ReadBack.{length-laid}
use Rattle.stencil_merge.specs.declared.code.Step.{Step}
use Rattle.stencil_merge.specs.Instructions.{made_number, new_operand_of, new_operand, instruction_by, AreInstructionsBy, step_at, makes_function, is_numbered}
use Rattle.stencil_merge.proofs.Decoding.{instructions_some, instructions_no, decoded_local, decoded_room, take_written, drop_written, laid_written}

-- ---- the loop

-- from the offset on there are whole instructions, and those before it are whole
abbrev pub IsWholeAround : List ℕ → List ℕ → ℕ → Type 0
IsWholeAround before now at = IsWhole (drop at before) × ((rest : List ℕ) → IsWhole rest → IsWhole (take at now ++ rest))

-- where the instructions from the offset on become these with their new operands, all do
abbrev pub Renumbering : List ℕ → List ℕ → List ℕ → List ℕ → ℕ → Type 0
Renumbering atoms numbers before now at =
    (drop at now ≡ drop at before)
    × ((rest : List ℕ) → instructions rest ≡ map (instruction_by atoms numbers) (instructions (drop at before)) → instructions (take at now ++ rest) ≡ map (instruction_by atoms numbers) (instructions before))
    × (IsWhole before → IsWholeAround before now at)

-- this instruction stands at the offset, and then its like with its new operand
record Turn (atoms numbers now new : List ℕ) (at next : ℕ) : Type 0 where
  pub i : Numbered
  pub was : decoded (drop at now) ≡ Some i
  pub next_is : at + width_of i.op ≡ next
  pub front : take at new ≡ take at now
  pub is : decoded (drop at new) ≡ Some (instruction_by atoms numbers i)
  pub laid_out : laid i ≡ take (width_of i.op) (drop at now) → laid (instruction_by atoms numbers i) ≡ take (width_of i.op) (drop at new)
  pub back : drop next new ≡ drop next now

turned : (atoms numbers before now new : List ℕ) (at next : ℕ) → Turn atoms numbers now new at next → Renumbering atoms numbers before now at → Renumbering atoms numbers before new next
turned atoms numbers before now new at next t r = (t.back ∙ same_back, λ rest is. ap instructions (cut rest) ∙ r.1 (take w (drop at new) ++ rest) (moved rest is), λ whole. whole_around (r.2 whole))
  where
    w : ℕ
    w = width_of t.i.op

    same_back : drop next now ≡ drop next before
    same_back = sym (drop-drop w at now ∙ ap (λ (n : ℕ). drop n now) t.next_is) ∙ (ap (drop w) r.0 ∙ (drop-drop w at before ∙ ap (λ (n : ℕ). drop n before) t.next_is))

    cut : (rest : List ℕ) → take next new ++ rest ≡ take at now ++ (take w (drop at new) ++ rest)
    cut rest = ap (λ (l : List ℕ). l ++ rest) (sym (ap (λ (n : ℕ). take n new) t.next_is) ∙ (take-add at w new ∙ ap (λ (l : List ℕ). l ++ take w (drop at new)) t.front)) ∙ append_assoc (take at now) (take w (drop at new)) rest

    here : (rest : List ℕ) → instructions (take w (drop at new) ++ rest) ≡ instruction_by atoms numbers t.i ∷ instructions rest
    here rest = instructions_some (take w (drop at new) ++ rest) (instruction_by atoms numbers t.i) (decoded_local (drop at new) rest (instruction_by atoms numbers t.i) t.is)
        ∙ ap (λ (l : List ℕ). instruction_by atoms numbers t.i ∷ instructions l) (drop_at (take w (drop at new)) rest w (front_width))
      where
        front_width : length (take w (drop at new)) ≡ w
        front_width = length-take-le w (drop at new) (decoded_room (drop at new) (instruction_by atoms numbers t.i) t.is)

    old : instructions (drop at before) ≡ t.i ∷ instructions (drop next before)
    old = instructions_some (drop at before) t.i (ap decoded (sym r.0) ∙ t.was) ∙ ap (λ (l : List ℕ). t.i ∷ instructions l) (drop-drop w at before ∙ ap (λ (n : ℕ). drop n before) t.next_is)

    moved : (rest : List ℕ) → instructions rest ≡ map (instruction_by atoms numbers) (instructions (drop next before)) → instructions (take w (drop at new) ++ rest) ≡ map (instruction_by atoms numbers) (instructions (drop at before))
    moved rest is = here rest ∙ (ap (λ (l : List Numbered). instruction_by atoms numbers t.i ∷ l) is ∙ sym (ap (map (instruction_by atoms numbers)) old))

    apart : IsWhole (drop at before) → laid t.i ++ layout (instructions (drop next before)) ≡ drop at before
    apart whole = sym (ap layout old) ∙ whole

    first_laid : IsWhole (drop at before) → laid t.i ≡ take w (drop at now)
    first_laid whole = sym (take_at (laid t.i) (layout (instructions (drop next before))) w (length-laid t.i)) ∙ (ap (take w) (apart whole) ∙ ap (take w) (sym r.0))

    rest_whole : IsWhole (drop at before) → IsWhole (drop next before)
    rest_whole whole =
        sym (drop_at (laid t.i) (layout (instructions (drop next before))) w (length-laid t.i))
        ∙ (ap (drop w) (apart whole) ∙ (drop-drop w at before ∙ ap (λ (n : ℕ). drop n before) t.next_is))

    one_whole : IsWhole (drop at before) → (rest : List ℕ) → IsWhole rest → IsWhole (take w (drop at new) ++ rest)
    one_whole whole rest is = ap layout (here rest) ∙ ap₂ (λ (x : List ℕ) (y : List ℕ). x ++ y) (t.laid_out (first_laid whole)) is

    whole_around : IsWholeAround before now at → IsWholeAround before new next
    whole_around a = (rest_whole a.0, λ rest is. subst IsWhole (sym (cut rest)) (a.1 (take w (drop at new) ++ rest) (one_whole a.0 rest is)))

-- ---- what is read at the offset

record Reads (code : List ℕ) (at : ℕ) (instr : Instr) : Type 0 where
  pub i : Numbered
  pub is : instr ≡ instr_at at i
  pub at_place : decoded (drop at code) ≡ Some i

reads_by : (code : List ℕ) (at : ℕ) (instr : Instr) (d : Option Numbered) → decoded (drop at code) ≡ d → Some instr ≡ option_map (instr_at at) d → Reads code at instr
reads_by code at instr None found is = absurd (cc)
reads_by code at instr (Some i) found is = record { i = i; is = cc; at_place = found }

reads : (code : List ℕ) (at : ℕ) (instr : Instr) → Some instr ≡ option_map (instr_at at) (decoded (drop at code)) → Reads code at instr
reads code at instr is = reads_by code at instr (decoded (drop at code)) refl is

by_op : (b : Bool) (o : Op) (a c next : ℕ) → (instr_by b o a c next).op ≡ o
by_op true o a c next = refl
by_op false o a c next = refl

by_next : (b : Bool) (o : Op) (a c next : ℕ) → (instr_by b o a c next).next ≡ next
by_next true o a c next = refl
by_next false o a c next = refl

op_is : (code : List ℕ) (at : ℕ) (instr : Instr) (r : Reads code at instr) → instr.op ≡ r.i.op
op_is code at instr r = ap (λ (x : Instr). x.op) r.is ∙ by_op (is_jump r.i.op) r.i.op r.i.a r.i.b (at + width_of r.i.op)

next_is : (code : List ℕ) (at : ℕ) (instr : Instr) (r : Reads code at instr) → at + width_of r.i.op ≡ instr.next
next_is code at instr r = sym (ap (λ (x : Instr). x.next) r.is ∙ by_next (is_jump r.i.op) r.i.op r.i.a r.i.b (at + width_of r.i.op))

none_by : (code : List ℕ) (at : ℕ) (d : Option Numbered) → decoded (drop at code) ≡ d → None ≡ option_map (instr_at at) d → decoded (drop at code) ≡ None
none_by code at None found is = found
none_by code at (Some i) found is = absurd (cc)

reads_none : (code : List ℕ) (at : ℕ) → None ≡ option_map (instr_at at) (decoded (drop at code)) → decoded (drop at code) ≡ None
reads_none code at is = none_by code at (decoded (drop at code)) refl is

-- ---- one with no other operand

-- whether there is another operand is a matter of the opcode
unmade_by : (numbers : List ℕ) (o : Op) (p a : ℕ) → made_number numbers o p ≡ None → made_number numbers o a ≡ None
unmade_by numbers op.Lambda p a none = absurd (cc)
unmade_by numbers _ p a none = refl

same_by : (atoms numbers : List ℕ) (o : Op) (s : Shape) (p a : ℕ) → new_operand_of atoms numbers o s p ≡ None → new_operand_of atoms numbers o s a ≡ None
same_by atoms numbers o shape.Atom p a none = absurd (cc)
same_by atoms numbers o _ p a none = unmade_by numbers o p a none

unmade : (atoms numbers : List ℕ) (o : Op) (p a : ℕ) → new_operand atoms numbers o p ≡ None → unwrap_or (new_operand atoms numbers o a) a ≡ a
unmade atoms numbers o p a none = ap (λ (x : Option ℕ). unwrap_or x a) (same_by atoms numbers o (shape_of o) p a none)

-- ---- one with another operand

lambda_op : (numbers : List ℕ) (o : Op) (place number : ℕ) → made_number numbers o place ≡ Some number → o ≡ op.Lambda
lambda_op numbers op.Lambda place number is = refl
lambda_op numbers _ place number is = absurd (cc)

numbered_by : (atoms numbers : List ℕ) (o : Op) (s : Shape) (a n : ℕ) → s ≡ shape_of o → new_operand_of atoms numbers o s a ≡ Some n → has_number_shape s ≡ true
numbered_by atoms numbers o shape.Atom a n is made = refl
numbered_by atoms numbers o _ a n is made = ap has_number_shape (is ∙ ap shape_of (lambda_op numbers o a n made))

no_jump : (s : Shape) → has_number_shape s ≡ true → is_jump_shape s ≡ false
no_jump shape.Atom is = refl
no_jump shape.Num is = refl
no_jump shape.Jump is = absurd (cc)
no_jump _ is = refl

made_numbered : (atoms numbers : List ℕ) (o : Op) (a n : ℕ) → new_operand atoms numbers o a ≡ Some n → has_number o ≡ true
made_numbered atoms numbers o a n made = numbered_by atoms numbers o (shape_of o) a n refl made

-- ---- the parts of a proof

pub begins : (atoms numbers code : List ℕ) → Renumbering atoms numbers code code 0
begins atoms numbers code = (refl, λ rest is. is, λ whole. (whole, λ rest is. is))

-- an instruction with no other operand is passed over
pub passes : (atoms numbers before now : List ℕ) (at : ℕ) (instr : Instr) → Some instr ≡ option_map (instr_at at) (decoded (drop at now)) → None ≡ new_operand atoms numbers instr.op instr.a → Renumbering atoms numbers before now at → Renumbering atoms numbers before now instr.next
passes atoms numbers before now at instr is none r = turned atoms numbers before now now at instr.next (record {
  i = read.i;
  was = read.at_place;
  next_is = next_is now at instr read;
  front = refl;
  is = read.at_place ∙ ap (λ (n : Numbered). Some n) (sym same);
  laid_out = λ as_laid. ap laid same ∙ as_laid;
  back = refl;
}) r
  where
    read : Reads now at instr
    read = reads now at instr is

    same : instruction_by atoms numbers read.i ≡ read.i
    same = ap (λ (x : ℕ). let n : Numbered = record { op = read.i.op; a = x; b = read.i.b } in n) (unmade atoms numbers read.i.op instr.a read.i.a (ap (λ (o : Op). new_operand atoms numbers o instr.a) (sym (op_is now at instr read)) ∙ sym none))

pub begins_numbered : (atoms numbers code : List ℕ) (at : ℕ) (instr : Instr) (n : ℕ) → Some instr ≡ option_map (instr_at at) (decoded (drop at code)) → Some n ≡ new_operand atoms numbers instr.op instr.a → BeginsNumbered (drop at code)
begins_numbered atoms numbers code at instr n is made = subst (λ (d : Option Numbered). IsSomeAnd d (λ i. IsTrue (has_number i.op))) (sym read.at_place) (subst (λ (o : Op). IsTrue (has_number o)) (op_is code at instr read) (made_numbered atoms numbers instr.op instr.a n (sym made)))
  where
    read : Reads code at instr
    read = reads code at instr is

same_operand : (instr : Instr) (at : ℕ) (i : Numbered) → instr ≡ instr_at at i → is_jump i.op ≡ false → instr.a ≡ i.a
same_operand instr at i is plain = ap (λ (x : Instr). x.a) is ∙ ap (λ (b : Bool). (instr_by b i.op i.a i.b (at + width_of i.op)).a) plain

-- an instruction with another operand gets it
pub makes : (atoms numbers before now new : List ℕ) (at : ℕ) (instr : Instr) (n : ℕ) → Some instr ≡ option_map (instr_at at) (decoded (drop at now)) → Some n ≡ new_operand atoms numbers instr.op instr.a
    → new ≡ written (at + 1) (le_bytes 4 n) now → decoded (drop at new) ≡ option_map (renumbered n) (decoded (drop at now)) → Renumbering atoms numbers before now at → Renumbering atoms numbers before new instr.next
makes atoms numbers before now new at instr n is made bytes operand r = turned atoms numbers before now new at instr.next (record {
  i = read.i;
  was = read.at_place;
  next_is = next_is now at instr read;
  front = ap (take at) bytes ∙ take_written at (le_bytes 4 n) now (omega (arith, room, length-drop at now, width));
  is = operand ∙ (ap (option_map (renumbered n)) read.at_place ∙ ap (λ (i : Numbered). Some i) (sym same));
  laid_out = λ as_laid. ap laid same ∙ (laid_written at n read.i now (omega (arith, room, length-drop at now, width)) widths.0 widths.1 as_laid ∙ ap (λ (l : List ℕ). take (width_of read.i.op) (drop at l)) (sym bytes));
  back = ap (drop instr.next) bytes ∙ drop_written at instr.next (le_bytes 4 n) now (omega (arith, next_is now at instr read, width)) (omega (arith, room, length-drop at now, width));
}) r
  where
    read : Reads now at instr
    read = reads now at instr is

    numbered : has_number read.i.op ≡ true
    numbered = ap has_number (sym (op_is now at instr read)) ∙ made_numbered atoms numbers instr.op instr.a n (sym made)

    widths : (first_of read.i.op ≡ 4) × (second_of read.i.op ≡ 0)
    widths = numbered_widths (shape_of read.i.op) numbered

    width : width_of read.i.op ≡ 5
    width = omega (arith, widths.0, widths.1)

    room : width_of read.i.op ≤ length (drop at now)
    room = decoded_room (drop at now) read.i read.at_place

    made_here : new_operand atoms numbers read.i.op read.i.a ≡ Some n
    made_here = ap₂ (λ (o : Op) (a : ℕ). new_operand atoms numbers o a) (sym (op_is now at instr read)) (sym (same_operand instr at read.i read.is (no_jump (shape_of read.i.op) numbered))) ∙ sym made

    number_is : unwrap_or (new_operand atoms numbers read.i.op read.i.a) read.i.a ≡ n
    number_is = ap (λ (x : Option ℕ). unwrap_or x read.i.a) made_here

    same : instruction_by atoms numbers read.i ≡ renumbered n read.i
    same = ap (λ (x : ℕ). let i : Numbered = record { op = read.i.op; a = x; b = read.i.b } in i) number_is

-- nothing more is read
pub ends : (atoms numbers before now : List ℕ) (at : ℕ) → None ≡ option_map (instr_at at) (decoded (drop at now)) → Renumbering atoms numbers before now at → AreInstructionsBy atoms numbers before now
ends atoms numbers before now at none r =
    ap instructions (sym (take-append-drop at now)) ∙ r.1 (drop at now) (nothing ∙ sym (ap (map (instruction_by atoms numbers)) (ap instructions (sym r.0) ∙ nothing)))
  where
    nothing : instructions (drop at now) ≡ []
    nothing = instructions_no (drop at now) (reads_none now at none)

-- and so the new code is whole where the old one is
pub ends_whole : (atoms numbers before now : List ℕ) (at : ℕ) → Renumbering atoms numbers before now at → IsWhole before → IsWhole now
ends_whole atoms numbers before now at r whole = subst IsWhole (take-append-drop at now) (around.1 (drop at now) (subst IsWhole (sym r.0) around.0))
  where
    around : IsWholeAround before now at
    around = r.2 whole

-- ---- an instruction of which its operand is not read

-- where there is room for its operands, it is the one that is read there
pub step_is_decoded : (o : Op) (at : ℕ) (behind : List ℕ) (width : ℕ) (step : Step) → width ≡ first_of o + second_of o → width ≤ length behind → step ≡ step_at at (record { op = o; a = 0; b = 0 })
    → ◌≡◌ {A = Option Step} (Some step) (option_map (step_at at) (decoded_as (Some o) behind))
step_is_decoded o at behind width step wide room is = ap (λ (x : Step). Some x) is ∙ sym (ap (option_map (step_at at)) (decoded_as-whole o behind (omega (arith, wide, room))))

record Steps (code : List ℕ) (at : ℕ) (step : Step) : Type 0 where
  pub i : Numbered
  pub is : step ≡ step_at at i
  pub at_place : decoded (drop at code) ≡ Some i

steps_by : (code : List ℕ) (at : ℕ) (step : Step) (d : Option Numbered) → decoded (drop at code) ≡ d → Some step ≡ option_map (step_at at) d → Steps code at step
steps_by code at step None found is = absurd (cc)
steps_by code at step (Some i) found is = record { i = i; is = cc; at_place = found }

steps : (code : List ℕ) (at : ℕ) (step : Step) → Some step ≡ option_map (step_at at) (decoded (drop at code)) → Steps code at step
steps code at step is = steps_by code at step (decoded (drop at code)) refl is

step_next : (code : List ℕ) (at : ℕ) (step : Step) (s : Steps code at step) → at + width_of s.i.op ≡ step.next
step_next code at step s = sym (ap (λ (x : Step). x.next) s.is)

-- the loop's measure falls
pub step_falls : (before now : List ℕ) (at : ℕ) (step : Step) → Some step ≡ option_map (step_at at) (decoded (drop at now)) → length now ≡ length before → length before - step.next < length before - at
step_falls before now at step is same = omega (arith, next, room, length-drop at now, some, same)
  where
    s : Steps now at step
    s = steps now at step is

    next : at + width_of s.i.op ≡ step.next
    next = step_next now at step s

    room : width_of s.i.op ≤ length (drop at now)
    room = decoded_room (drop at now) s.i s.at_place

    some : 1 ≤ width_of s.i.op
    some = omega arith

no_function : (numbers : List ℕ) (o : Op) (a : ℕ) → makes_function o ≡ false → made_number numbers o a ≡ None
no_function numbers op.Lambda a none = absurd (cc)
no_function numbers _ a none = refl

unnumbered : (atoms numbers : List ℕ) (o : Op) (s : Shape) (a : ℕ) → is_numbered o s ≡ false → new_operand_of atoms numbers o s a ≡ None
unnumbered atoms numbers o shape.Atom a none = absurd (cc)
unnumbered atoms numbers o _ a none = no_function numbers o a none

-- one whose operand is no number of a text or of a function stays as it is
pub step_passes : (atoms numbers before now : List ℕ) (at : ℕ) (step : Step) → Some step ≡ option_map (step_at at) (decoded (drop at now)) → is_numbered step.op step.shape ≡ false → Renumbering atoms numbers before now at → Renumbering atoms numbers before now step.next
step_passes atoms numbers before now at step is none r = turned atoms numbers before now now at step.next (record {
  i = s.i;
  was = s.at_place;
  next_is = step_next now at step s;
  front = refl;
  is = s.at_place ∙ ap (λ (n : Numbered). Some n) (sym same);
  laid_out = λ as_laid. ap laid same ∙ as_laid;
  back = refl;
}) r
  where
    s : Steps now at step
    s = steps now at step is

    no_other : new_operand atoms numbers s.i.op s.i.a ≡ None
    no_other = unnumbered atoms numbers s.i.op (shape_of s.i.op) s.i.a (sym (ap (λ (x : Step). is_numbered x.op x.shape) s.is) ∙ none)

    same : instruction_by atoms numbers s.i ≡ s.i
    same = ap (λ (o : Option ℕ). let n : Numbered = record { op = s.i.op; a = unwrap_or o s.i.a; b = s.i.b } in n) no_other

-- the instruction that is read there ends where the step does
pub step_ends : (code : List ℕ) (at : ℕ) (step : Step) (instr : Instr) → Some step ≡ option_map (step_at at) (decoded (drop at code)) → Some instr ≡ option_map (instr_at at) (decoded (drop at code)) → instr.next ≡ step.next
step_ends code at step instr is read = sym (next_is code at instr r) ∙ (ap (λ (n : Numbered). at + width_of n.op) same ∙ step_next code at step s)
  where
    s : Steps code at step
    s = steps code at step is

    r : Reads code at instr
    r = reads code at instr read

    one : (a b : Numbered) → Some a ≡ Some b → a ≡ b
    one a b e = cc

    same : r.i ≡ s.i
    same = one r.i s.i (sym r.at_place ∙ s.at_place)

-- nothing more is passed over
pub no_step : (code : List ℕ) (at : ℕ) → None ≡ option_map (step_at at) (decoded (drop at code)) → None ≡ option_map (instr_at at) (decoded (drop at code))
no_step code at is = by (decoded (drop at code)) is
  where
    by : (d : Option Numbered) → None ≡ option_map (step_at at) d → None ≡ option_map (instr_at at) d
    by None e = refl
    by (Some i) e = absurd (cc)
