-- Where the instructions of code start.
use Rattle.std.proofs.Common.{◌≡◌, ℕ, zero, suc, ◌+◌, ◌-◌, ◌<◌, ◌≤◌, Bool, true, false, eqb, leb, if◌then◌else◌, is_some, List, [], ◌∷◌, length, drop, set, replicate, get_or, drop-drop, length-drop, length-set, get_or-set_same, get_or-set_other, Option, Some, None, option_map, refl, ap, sym, subst, ◌∙◌, inl, inr, le-leb, arith}
use Rattle.std.proofs.lemmas.Bool.{lt-leb, ne_eqb}
use Rattle.std.proofs.lemmas.List.{length-replicate}
use Rattle.std.proofs.Math.ListN.{drop_of_length-le}
use Rattle.std.proofs.lemmas.Bool.Decides.{leb_tells, eqb_tells}
use Rattle.bytecode_buf.specs.declared.instruction.Instr.{Instr}
use Rattle.bytecode_buf.specs.declared.opcode.Op.{Op}
use Rattle.bytecode_buf.specs.Width.{first_of, second_of, is_jump, width_of}
use Rattle.bytecode_buf.specs.Layout.{Numbered, decoded, followed, instructions, instructions_within, instr_at, instr_by}
use Rattle.bytecode_buf.specs.Machine.{instruction_in, instruction_at}
use Rattle.bytecode_buf.proofs.ReadBack.{instructions_within-none, instructions_within-more, instructions_within-empty}
use Rattle.code_check.specs.Survey.{AreStarts}

strictly : (a b : ℕ) → a ≤ b → (a ≡ b → ⊥) → a < b
strictly a b le ne = elim (leb_tells b a) [ inr under ↦ under.1 | inl over ↦ absurd (ne (omega (arith, over.1))) ]

none_some : (i : Numbered) → ◌≡◌ {A = Option Numbered} None (Some i) → ⊥
none_some i e = cc

-- ---- the instructions of a code, one by one

-- the fuel does not matter, where it is enough
fuel_by : (n m : ℕ) (code : List ℕ) (o : Option Numbered) → ((k : ℕ) → length (drop (k + 1) code) ≤ n → instructions_within n (drop (k + 1) code) ≡ instructions_within m (drop (k + 1) code)) → length code ≤ suc n → followed o (λ i. instructions_within n (drop (width_of i.op) code)) ≡ followed o (λ i. instructions_within m (drop (width_of i.op) code))
fuel_by n m code None same room = refl
fuel_by n m code (Some i) same room =
    let k : ℕ = first_of i.op + second_of i.op in
    let wide : width_of i.op ≡ k + 1 = omega arith in
    let short : length (drop (k + 1) code) ≤ n = omega (arith, length-drop (k + 1) code) in
    ap (λ (l : List Numbered). i ∷ l) (subst (λ (w : ℕ). instructions_within n (drop w code) ≡ instructions_within m (drop w code)) (sym wide) (same k short))

fuel : (n m : ℕ) (code : List ℕ) → length code ≤ n → length code ≤ m → instructions_within n code ≡ instructions_within m code
fuel n m [] room room' = instructions_within-empty n ∙ sym (instructions_within-empty m)
fuel zero m (byte ∷ code) room room' = absurd (omega arith)
fuel (suc n) zero (byte ∷ code) room room' = absurd (omega arith)
fuel (suc n) (suc m) (byte ∷ code) room room' =
    instructions_within-more n (byte ∷ code)
    ∙ fuel_by n m (byte ∷ code) (decoded (byte ∷ code)) (λ k short. fuel n m (drop (k + 1) (byte ∷ code)) short (omega (arith, length-drop (k + 1) (byte ∷ code)))) room
    ∙ sym (instructions_within-more m (byte ∷ code))

-- the first instruction, and those after it
pub instructions-more : (code : List ℕ) (i : Numbered) → decoded code ≡ Some i → instructions code ≡ i ∷ instructions (drop (width_of i.op) code)
instructions-more [] i is = absurd (cc)
instructions-more (byte ∷ rest) i is =
    instructions_within-more (length rest) (byte ∷ rest)
    ∙ ap (λ (o : Option Numbered). followed o (λ j. instructions_within (length rest) (drop (width_of j.op) (byte ∷ rest)))) is
    ∙ ap (λ (l : List Numbered). i ∷ l) (fuel (length rest) (length behind) behind (omega (arith, length-drop (width_of i.op) (byte ∷ rest))) (omega arith))
  where
    behind : List ℕ
    behind = drop (width_of i.op) (byte ∷ rest)

pub instructions-none : (code : List ℕ) → decoded code ≡ None → instructions code ≡ []
instructions-none [] is = instructions_within-empty 0
instructions-none (byte ∷ rest) is =
    instructions_within-more (length rest) (byte ∷ rest)
    ∙ ap (λ (o : Option Numbered). followed o (λ j. instructions_within (length rest) (drop (width_of j.op) (byte ∷ rest)))) is

-- ---- the instruction at an offset of a list

in-behind : (i : Numbered) (is : List Numbered) (at : ℕ) → width_of i.op ≤ at → instruction_in (i ∷ is) at ≡ instruction_in is (at - width_of i.op)
in-behind i is at far =
    let some : 0 < at = omega arith in
    let first : eqb at 0 ≡ false = ne_eqb at 0 (λ e. omega arith) in
    let second : leb (width_of i.op) at ≡ true = le-leb (width_of i.op) at far in
    ap (λ (b : Bool). if b then Some i else (if leb (width_of i.op) at then instruction_in is (at - width_of i.op) else None)) first
    ∙ ap (λ (b : Bool). if b then instruction_in is (at - width_of i.op) else None) second

in-middle : (i : Numbered) (is : List Numbered) (at : ℕ) → 0 < at → at < width_of i.op → instruction_in (i ∷ is) at ≡ None
in-middle i is at far near =
    let first : eqb at 0 ≡ false = ne_eqb at 0 (λ e. omega arith) in
    let second : leb (width_of i.op) at ≡ false = lt-leb (width_of i.op) at near in
    ap (λ (b : Bool). if b then Some i else (if leb (width_of i.op) at then instruction_in is (at - width_of i.op) else None)) first
    ∙ ap (λ (b : Bool). if b then instruction_in is (at - width_of i.op) else None) second

-- ---- the walk over the code

-- the starts below an offset are known, and the instructions from there on are those of the code
pub record StartsTo (code : List ℕ) (starts : List Bool) (at : ℕ) : Type 0 where
  pub size : length starts ≡ length code
  pub before : (x : ℕ) → x < at → get_or starts x false ≡ is_some (instruction_at code x)
  pub behind : (x : ℕ) → at ≤ x → get_or starts x false ≡ false
  pub left : (x : ℕ) → at ≤ x → instruction_at code x ≡ instruction_in (instructions (drop at code)) (x - at)

none_in : (n x : ℕ) → get_or (replicate n false) x false ≡ false
none_in zero x = refl
none_in (suc n) zero = refl
none_in (suc n) (suc x) = none_in n x

pub starts_none : (code : List ℕ) → StartsTo code (replicate (length code) false) 0
starts_none code = record {
  size = length-replicate (length code) false;
  before = λ x below. absurd (omega arith);
  behind = λ x above. none_in (length code) x;
  left = λ x above. let same : x - 0 ≡ x = omega arith in ap (instruction_in (instructions code)) (sym same);
}

module _ (code : List ℕ) (starts : List Bool) (at next : ℕ) (i : Numbered) (inside : at < length code) (is : decoded (drop at code) ≡ Some i) (goes : next ≡ at + width_of i.op) (w : StartsTo code starts at) where
  further : instructions (drop at code) ≡ i ∷ instructions (drop next code)
  further = instructions-more (drop at code) i is ∙ ap (λ (l : List ℕ). i ∷ instructions l) (drop-drop (width_of i.op) at code ∙ ap (λ (n : ℕ). drop n code) (sym goes))

  behind_it : (x : ℕ) → at ≤ x → instruction_at code x ≡ instruction_in (i ∷ instructions (drop next code)) (x - at)
  behind_it x above = w.left x above ∙ ap (λ (l : List Numbered). instruction_in l (x - at)) further

  here : instruction_at code at ≡ Some i
  here = let none : at - at ≡ 0 = omega arith in behind_it at (omega arith) ∙ ap (instruction_in (i ∷ instructions (drop next code))) none

  start_before : (x : ℕ) → x < next → get_or (set starts at true) x false ≡ is_some (instruction_at code x)
  start_before x below = elim (leb_tells at x) [
    | inr under ↦ get_or-set_other starts at x true false (λ e. omega arith) ∙ w.before x under.1
    | inl over ↦ elim (eqb_tells x at) [
      | inl same ↦ let room : at < length starts = omega (arith, w.size) in subst (λ (n : ℕ). get_or (set starts at true) n false ≡ is_some (instruction_at code n)) (sym same.1) (get_or-set_same starts at true false room ∙ sym (ap is_some here))
      | inr other ↦
          let above : at < x = strictly at x over.1 (λ e. other.1 (sym e)) in
          get_or-set_other starts at x true false other.1 ∙ (w.behind x over.1 ∙ sym (ap is_some (behind_it x over.1 ∙ in-middle i (instructions (drop next code)) (x - at) (omega arith) (omega arith))))
    ]
  ]

  pub starts_next : StartsTo code (set starts at true) next
  starts_next = record {
    size = length-set starts at true ∙ w.size;
    before = start_before;
    behind = λ x above. get_or-set_other starts at x true false (λ e. omega arith) ∙ w.behind x (omega arith);
    left = λ x above. let away : (x - at) - width_of i.op ≡ x - next = omega arith in behind_it x (omega arith) ∙ in-behind i (instructions (drop next code)) (x - at) (omega arith) ∙ ap (instruction_in (instructions (drop next code))) away;
  }

pub starts_end : (code : List ℕ) (starts : List Bool) (at : ℕ) → decoded (drop at code) ≡ None → StartsTo code starts at → AreStarts code starts
starts_end code starts at is w = record { size = w.size; are = are }
  where
    are : (x : ℕ) → get_or starts x false ≡ is_some (instruction_at code x)
    are x = elim (leb_tells at x) [
      | inr under ↦ w.before x under.1
      | inl over ↦ w.behind x over.1 ∙ sym (ap is_some (w.left x over.1 ∙ ap (λ (l : List Numbered). instruction_in l (x - at)) (instructions-none (drop at code) is)))
    ]

-- ---- what is decoded at an offset

pub record Decodes (code : List ℕ) (at : ℕ) (instr : Instr) : Type 0 where
  pub i : Numbered
  pub decoded_there : decoded (drop at code) ≡ Some i
  pub is : instr ≡ instr_at at i
  pub next : instr.next ≡ at + width_of i.op
  pub inside : at < length code

next_by : (b : Bool) (op : Op) (a c next : ℕ) → (instr_by b op a c next).next ≡ next
next_by true op a c next = refl
next_by false op a c next = refl

decoded_inside : (code : List ℕ) (at : ℕ) (i : Numbered) → decoded (drop at code) ≡ Some i → at < length code
decoded_inside code at i is = elim (leb_tells (length code) at) [
  | inr under ↦ under.1
  | inl over ↦ let none : drop at code ≡ [] = drop_of_length-le code over.1 in absurd (some_none (sym is ∙ ap decoded none))
]
  where
    some_none : Some i ≡ None → ⊥
    some_none e = cc

decodes_as : (code : List ℕ) (at : ℕ) (instr : Instr) (o : Option Numbered) → decoded (drop at code) ≡ o → Some instr ≡ option_map (instr_at at) o → Decodes code at instr
decodes_as code at instr None none read = absurd (cc)
decodes_as code at instr (Some i) some read = record {
  i = i;
  decoded_there = some;
  is = is;
  next = ap (λ (x : Instr). x.next) is ∙ next_by (is_jump i.op) i.op i.a i.b (at + width_of i.op);
  inside = decoded_inside code at i some;
}
  where
    is : instr ≡ instr_at at i
    is = cc

pub decodes : (code : List ℕ) (at : ℕ) (instr : Instr) → Some instr ≡ option_map (instr_at at) (decoded (drop at code)) → Decodes code at instr
decodes code at instr read = decodes_as code at instr (decoded (drop at code)) refl read

not_decoded_by : (at : ℕ) (read : Option Instr) (o : Option Numbered) → read ≡ option_map (instr_at at) o → ((instr : Instr) → read ≡ Some instr → ⊥) → o ≡ None
not_decoded_by at read None is none = refl
not_decoded_by at read (Some i) is none = absurd (none (instr_at at i) is)

pub not_decoded : (code : List ℕ) (at : ℕ) (read : Option Instr) → read ≡ option_map (instr_at at) (decoded (drop at code)) → ((instr : Instr) → read ≡ Some instr → ⊥) → decoded (drop at code) ≡ None
not_decoded code at read is none = not_decoded_by at read (decoded (drop at code)) is none

-- ---- an instruction that starts at an offset

module _ (n : ℕ) (code : List ℕ) (deeper : (k at : ℕ) (i : Numbered) → instruction_in (instructions_within n (drop k code)) at ≡ Some i → decoded (drop at (drop k code)) ≡ Some i) where
  decoded_after : (j : Numbered) (at : ℕ) (i : Numbered) → decoded code ≡ Some j → instruction_in (j ∷ instructions_within n (drop (width_of j.op) code)) at ≡ Some i → decoded (drop at code) ≡ Some i
  decoded_after j at i first is = elim (leb_tells (width_of j.op) at) [
    | inl far ↦
        let there : width_of j.op + (at - width_of j.op) ≡ at = omega (arith, far.1) in
        sym (ap decoded (drop-drop (at - width_of j.op) (width_of j.op) code ∙ ap (λ (k : ℕ). drop k code) there)) ∙ deeper (width_of j.op) (at - width_of j.op) i (sym (in-behind j (instructions_within n (drop (width_of j.op) code)) at far.1) ∙ is)
    | inr near ↦ elim (eqb_tells at 0) [
      | inl none ↦ ap (λ (k : ℕ). decoded (drop k code)) none.1 ∙ first ∙ (sym (ap (instruction_in (j ∷ instructions_within n (drop (width_of j.op) code))) none.1) ∙ is)
      | inr some ↦ absurd (none_some i (sym (in-middle j (instructions_within n (drop (width_of j.op) code)) at (strictly 0 at (omega arith) (λ e. some.1 (sym e))) near.1) ∙ is))
    ]
  ]

  decoded_by : (o : Option Numbered) (at : ℕ) (i : Numbered) → decoded code ≡ o → instruction_in (followed o (λ j. instructions_within n (drop (width_of j.op) code))) at ≡ Some i → decoded (drop at code) ≡ Some i
  decoded_by None at i first is = absurd (none_some i is)
  decoded_by (Some j) at i first is = decoded_after j at i first is

decoded_within : (n : ℕ) (code : List ℕ) (at : ℕ) (i : Numbered) → instruction_in (instructions_within n code) at ≡ Some i → decoded (drop at code) ≡ Some i
decoded_within zero code at i is = absurd (none_some i (sym (ap (λ (l : List Numbered). instruction_in l at) (instructions_within-none code)) ∙ is))
decoded_within (suc n) code at i is =
    decoded_by n code (λ k x j. decoded_within n (drop k code) x j) (decoded code) at i refl (sym (ap (λ (l : List Numbered). instruction_in l at) (instructions_within-more n code)) ∙ is)

-- the instruction at an offset is what is decoded there
pub decoded_at : (code : List ℕ) (at : ℕ) (i : Numbered) → instruction_at code at ≡ Some i → decoded (drop at code) ≡ Some i
decoded_at code at i is = decoded_within (length code) code at i is
