-- Codes that are the same but for the numbers of texts do the same steps.
use Rattle.std.proofs.Common.{◌≡◌, ℕ, ◌-◌, Bool, true, false, nat_lt, nat_eq, nat_le, if◌then◌else◌, List, [], ◌∷◌, ◌++◌, map, Option, Some, None, option_map, All, Contains, refl, sym, ◌∙◌, ap, subst}
use Rattle.stencil_data.specs.declared.stencils.TryNote.{TryNote}
use Rattle.bytecode_buf.specs.declared.opcode.Op.{Op}
use Rattle.bytecode_buf.specs.declared.opcode.Op.TheVariants as op
use Rattle.bytecode_buf.specs.Layout.{Numbered, instructions}
use Rattle.bytecode_buf.specs.Machine.{State, flow_of, flows, taken, given, caught, instruction_in, instruction_at, steps, steps_by, is_stuck, stuck_by, Reaches, start, further, IsDepthTable, IsLeastTable}
use Rattle.bytecode_buf.specs.Width.{width_of}
use Rattle.session_images.specs.Agree.{without_text, CodesAgree}

pub codes_back : (code other : List ℕ) → CodesAgree code other → CodesAgree other code
codes_back code other h = record { are = sym h.are }

pub codes_both : (a b c : List ℕ) → CodesAgree a b → CodesAgree b c → CodesAgree a c
codes_both a b c h k = record { are = h.are ∙ k.are }

-- ---- one instruction

taken_textless : (o : Op) (a b : ℕ) → taken (without_text (record { op = o; a = a; b = b })) ≡ taken (record { op = o; a = a; b = b })
taken_textless op.Undefined a b = refl
taken_textless _ a b = refl

given_textless : (o : Op) (a b : ℕ) → given (without_text (record { op = o; a = a; b = b })) ≡ given (record { op = o; a = a; b = b })
given_textless op.Undefined a b = refl
given_textless _ a b = refl

flows_textless : (o : Op) (a b : ℕ) (s : State) → flows (flow_of o) (without_text (record { op = o; a = a; b = b })) s ≡ flows (flow_of o) (record { op = o; a = a; b = b }) s
flows_textless op.Undefined a b s = refl
flows_textless _ a b s = refl

steps_textless : (o : Option Numbered) (notes : List TryNote) (s : State) → steps_by (option_map without_text o) notes s ≡ steps_by o notes s
steps_textless None notes s = refl
steps_textless (Some i) notes s = ap (λ (l : List State). l ++ caught notes s) (flows_textless i.op i.a i.b s)

stuck_textless : (o : Option Numbered) (depth : ℕ) → stuck_by (option_map without_text o) depth ≡ stuck_by o depth
stuck_textless None depth = refl
stuck_textless (Some i) depth = ap (nat_lt depth) (taken_textless i.op i.a i.b)

-- ---- the instruction at an offset

by_tests : (first later : Bool) (i : Numbered) (o : Option Numbered)
    → (if first then Some (without_text i) else (if later then option_map without_text o else None)) ≡ option_map without_text (if first then Some i else (if later then o else None))
by_tests true later i o = refl
by_tests false true i o = refl
by_tests false false i o = refl

in_textless : (is : List Numbered) (at : ℕ) → instruction_in (map without_text is) at ≡ option_map without_text (instruction_in is at)
in_textless [] at = refl
in_textless (i ∷ is) at =
    ap (λ (o : Option Numbered). if nat_eq at 0 then Some (without_text i) else (if nat_le (width_of i.op) at then o else None)) (in_textless is (at - width_of i.op))
    ∙ by_tests (nat_eq at 0) (nat_le (width_of i.op) at) i (instruction_in is (at - width_of i.op))

-- at each offset stands the same instruction but for the number of a text, or none in both
pub same_instruction : (code other : List ℕ) (at : ℕ) → CodesAgree code other → option_map without_text (instruction_at code at) ≡ option_map without_text (instruction_at other at)
same_instruction code other at h = sym (in_textless (instructions code) at) ∙ (ap (λ (is : List Numbered). instruction_in is at) h.are ∙ in_textless (instructions other) at)

-- what does not read the number of a text is the same of both instructions
same_of : {A : Type 0} (f : Numbered → A) → ((i : Numbered) → f (without_text i) ≡ f i) → (o p : Option Numbered) → option_map without_text o ≡ option_map without_text p → option_map f o ≡ option_map f p
same_of {A} f same o p e = sym (through o) ∙ (ap (option_map f) e ∙ through p)
  where
    through : (o : Option Numbered) → option_map f (option_map without_text o) ≡ option_map f o
    through None = refl
    through (Some i) = ap (λ (x : A). Some x) (same i)

pub same_widths : (code other : List ℕ) (at : ℕ) → CodesAgree code other → option_map (λ (i : Numbered). width_of i.op) (instruction_at code at) ≡ option_map (λ (i : Numbered). width_of i.op) (instruction_at other at)
same_widths code other at h = same_of (λ (i : Numbered). width_of i.op) (λ i. refl) (instruction_at code at) (instruction_at other at) (same_instruction code other at h)

pub same_taken : (code other : List ℕ) (at : ℕ) → CodesAgree code other → option_map taken (instruction_at code at) ≡ option_map taken (instruction_at other at)
same_taken code other at h = same_of taken (λ i. taken_textless i.op i.a i.b) (instruction_at code at) (instruction_at other at) (same_instruction code other at h)

pub same_given : (code other : List ℕ) (at : ℕ) → CodesAgree code other → option_map given (instruction_at code at) ≡ option_map given (instruction_at other at)
same_given code other at h = same_of given (λ i. given_textless i.op i.a i.b) (instruction_at code at) (instruction_at other at) (same_instruction code other at h)

pub same_flows : (code other : List ℕ) (s : State) → CodesAgree code other → option_map (λ (i : Numbered). flows (flow_of i.op) i s) (instruction_at code s.at) ≡ option_map (λ (i : Numbered). flows (flow_of i.op) i s) (instruction_at other s.at)
same_flows code other s h = same_of (λ (i : Numbered). flows (flow_of i.op) i s) (λ i. flows_textless i.op i.a i.b s) (instruction_at code s.at) (instruction_at other s.at) (same_instruction code other s.at h)

-- ---- steps

pub same_steps : (code other : List ℕ) (notes : List TryNote) (s : State) → CodesAgree code other → steps code notes s ≡ steps other notes s
same_steps code other notes s h =
    sym (steps_textless (instruction_at code s.at) notes s)
    ∙ (ap (λ (o : Option Numbered). steps_by o notes s) (same_instruction code other s.at h) ∙ steps_textless (instruction_at other s.at) notes s)

pub same_stuck : (code other : List ℕ) (s : State) → CodesAgree code other → is_stuck code s ≡ is_stuck other s
same_stuck code other s h =
    sym (stuck_textless (instruction_at code s.at) s.depth)
    ∙ (ap (λ (o : Option Numbered). stuck_by o s.depth) (same_instruction code other s.at h) ∙ stuck_textless (instruction_at other s.at) s.depth)

pub same_reached : (code other : List ℕ) (notes : List TryNote) (s : State) → CodesAgree code other → Reaches code notes s → Reaches other notes s
same_reached code other notes s h start = start
same_reached code other notes s h (further from to r step) = further from to (same_reached code other notes from h r) (subst (λ (l : List State). Contains l to) (same_steps code other notes from h) step)

-- ---- tables

pub same_table : (code other : List ℕ) (notes : List TryNote) (table : ℕ → Option ℕ) → CodesAgree code other → IsDepthTable code notes table → IsDepthTable other notes table
same_table code other notes table h t = record {
  first = t.first;
  free = λ s has. sym (same_stuck code other s h) ∙ t.free s has;
  closed = λ s has. subst (All (λ (x : State). table x.at ≡ Some x.depth)) (same_steps code other notes s h) (t.closed s has);
}

pub same_least : (code other : List ℕ) (notes : List TryNote) (table : ℕ → Option ℕ) → CodesAgree code other → IsLeastTable code notes table → IsLeastTable other notes table
same_least code other notes table h t = record { is = same_table code other notes table h t.is; reached = λ s has. same_reached code other notes s h (t.reached s has) }
