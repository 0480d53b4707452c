-- The instructions of a code from an offset on.
use Rattle.std.proofs.Common.{◌≡◌, ℕ, zero, suc, ◌+◌, ◌≤◌, List, [], ◌∷◌, length, drop, drop-drop, Option, Some, None, option_map, Bool, true, false, refl, ap, sym, ◌∙◌, arith, length-drop}
use Rattle.bytecode_buf.specs.declared.instruction.Instr.{Instr}
use Rattle.bytecode_buf.specs.declared.opcode.Op.{Op}
use Rattle.bytecode_buf.specs.Layout.{Numbered, decoded, followed, instructions, instructions_within, instr_at, instr_by}
use Rattle.bytecode_buf.specs.Width.{is_jump, width_of}
use Rattle.bytecode_buf.proofs.ReadBack.{instructions_within-none, instructions_within-more, instructions_within-empty}
use Rattle.stencil.specs.Code.{instructions_from, placed}

followed_same : (o : Option Numbered) (f g : Numbered → List Numbered) → ((i : Numbered) → f i ≡ g i) → followed o f ≡ followed o g
followed_same None f g same = refl
followed_same (Some i) f g same = ap (λ (l : List Numbered). i ∷ l) (same i)

shorter : (i : Numbered) (code : List ℕ) (n : ℕ) → length code ≤ suc n → length (drop (width_of i.op) code) ≤ n
shorter i code n short = let e = length-drop (width_of i.op) code in omega (arith, e)

-- as many steps as there are bytes are enough
enough : (n m : ℕ) (code : List ℕ) → length code ≤ n → length code ≤ m → instructions_within n code ≡ instructions_within m code
enough n m [] first second = instructions_within-empty n ∙ sym (instructions_within-empty m)
enough zero m (byte ∷ rest) first second = absurd (omega arith)
enough (suc n) zero (byte ∷ rest) first second = absurd (omega arith)
enough (suc n) (suc m) (byte ∷ rest) first second =
    let code : List ℕ = byte ∷ rest in
    instructions_within-more n code
    ∙ (followed_same (decoded code) (λ i. instructions_within n (drop (width_of i.op) code)) (λ i. instructions_within m (drop (width_of i.op) code))
    (λ i. enough n m (drop (width_of i.op) code) (shorter i code n first) (shorter i code m second))
    ∙ sym (instructions_within-more m code))

-- the first instruction and those after it
unrolled : (code : List ℕ) → instructions code ≡ followed (decoded code) (λ i. instructions (drop (width_of i.op) code))
unrolled [] = instructions_within-none []
unrolled (byte ∷ rest) =
    let code : List ℕ = byte ∷ rest in
    instructions_within-more (length rest) code
    ∙ followed_same (decoded code) (λ i. instructions_within (length rest) (drop (width_of i.op) code)) (λ i. instructions (drop (width_of i.op) code))
    (λ i. enough (length rest) (length (drop (width_of i.op) code)) (drop (width_of i.op) code) (shorter i code (length rest) (omega arith)) (omega arith))

next_by : (b : Bool) (op : Op) (a c next : ℕ) → (instr_by b op a c next).next ≡ next
next_by true op a c next = refl
next_by false op a c next = refl

none_as : (code : List ℕ) (at : ℕ) (d : Option Numbered) → decoded (drop at code) ≡ d → None ≡ option_map (instr_at at) d → instructions_from code at ≡ []
none_as code at None none read_it =
    ap (placed at) (unrolled (drop at code) ∙ ap (λ (o : Option Numbered). followed o (λ i. instructions (drop (width_of i.op) (drop at code)))) none)
none_as code at (Some i) some read_it = absurd (cc)

-- where no instruction is read, none is left
pub none_left : (code : List ℕ) (at : ℕ) → None ≡ option_map (instr_at at) (decoded (drop at code)) → instructions_from code at ≡ []
none_left code at read_it = none_as code at (decoded (drop at code)) refl read_it

next_as : (code : List ℕ) (at : ℕ) (instr : Instr) (d : Option Numbered) → decoded (drop at code) ≡ d → Some instr ≡ option_map (instr_at at) d → instructions_from code at ≡ (at, instr) ∷ instructions_from code instr.next
next_as code at instr None none read_it = absurd (cc)
next_as code at instr (Some i) some read_it =
    ap (placed at) (unrolled (drop at code) ∙ ap (λ (o : Option Numbered). followed o (λ j. instructions (drop (width_of j.op) (drop at code)))) some)
    ∙ (ap (λ (l : List ℕ). (at, instr_at at i) ∷ placed (at + width_of i.op) (instructions l)) (drop-drop (width_of i.op) at code)
    ∙ (ap (λ (n : ℕ). (at, instr_at at i) ∷ instructions_from code n) (sym next_is)
    ∙ ap (λ (x : Instr). (at, x) ∷ instructions_from code instr.next) (sym instr_is)))
  where
    instr_is : instr ≡ instr_at at i
    instr_is = cc

    next_is : instr.next ≡ at + width_of i.op
    next_is = ap (λ (x : Instr). x.next) instr_is ∙ next_by (is_jump i.op) i.op i.a i.b (at + width_of i.op)

-- the instruction that is read is the first of those that are left
pub next_left : (code : List ℕ) (at : ℕ) (instr : Instr) → Some instr ≡ option_map (instr_at at) (decoded (drop at code)) → instructions_from code at ≡ (at, instr) ∷ instructions_from code instr.next
next_left code at instr read_it = next_as code at instr (decoded (drop at code)) refl read_it
