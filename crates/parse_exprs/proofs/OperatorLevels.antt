-- Which operators read on.
use Rattle.std.proofs.Common.{◌≡◌, ◌∙◌, ℕ, ◌-◌, ◌<◌, ◌≤◌, Bool, true, false, nat_eq, nat_le, nat_lt, not, ◌&&◌, ◌||◌, if◌then◌else◌, refl, sym, ap, arith}
use Rattle.std.proofs.lemmas.Bool.Decides.{nat_tests}
use Rattle.script_grammar.specs.declared.token.Kind.{Kind}
use Rattle.script_grammar.specs.declared.token.word.TheConstants as word
use Rattle.script_grammar.specs.Kinds.{is_word, kind_level}
use Rattle.grammar_parser_specs.specs.Exprs.{is_op}
use Rattle.parse_exprs.specs.Levels.{level_with, operand_level, reads_on}

-- An operator of a level is a token of that level.

op_by : (b : Bool) (m n : ℕ) → n < 12 → (nat_eq m n && b) ≡ nat_eq (if b then m else 12) n
op_by true m n h = and_true (nat_eq m n)
  where
    and_true : (c : Bool) → (c && true) ≡ c
    and_true true = refl
    and_true false = refl
op_by false m n h = and_false (nat_eq m n) ∙ sym (other n h)
  where
    and_false : (c : Bool) → (c && false) ≡ false
    and_false true = refl
    and_false false = refl

    other : (n : ℕ) → n < 12 → nat_eq 12 n ≡ false
    other n h = grind (arith, nat_tests)

op_level : (w : Bool) (n : ℕ) (k : Kind) → n < 12 → is_op w n k ≡ nat_eq (level_with w k) n
op_level w n k h = op_by (w || not (is_word word.IN k)) (kind_level k) n h

pub op_here : (w : Bool) (n m : ℕ) (k : Kind) → n < 12 → m ≡ level_with w k → n ≡ m → is_op w n k ≡ true
op_here w n m k h e f = op_level w n k h ∙ ap (λ x. nat_eq x n) (sym e) ∙ same n m f
  where
    same : (n m : ℕ) → n ≡ m → nat_eq m n ≡ true
    same n m f = grind (arith, nat_tests)

pub no_op_here : (w : Bool) (n m : ℕ) (k : Kind) → n < 12 → m ≡ level_with w k → (n ≡ m → ⊥) → is_op w n k ≡ false
no_op_here w n m k h e f = op_level w n k h ∙ ap (λ x. nat_eq x n) (sym e) ∙ apart n m f
  where
    apart : (n m : ℕ) → (n ≡ m → ⊥) → nat_eq m n ≡ false
    apart n m f = grind (arith, nat_tests)

reads_by : (a b c : Bool) → (a && b && c) ≡ true → (a ≡ true) × (b ≡ true) × (c ≡ true)
reads_by true true true e = (refl, refl, refl)
reads_by true true false e = absurd (cc)
reads_by true false c e = absurd (cc)
reads_by false b c e = absurd (cc)

operand_by : (b : Bool) (next : ℕ) → nat_eq next 11 ≡ b → 0 < next → next ≤ 11 → ((if b then 8 else next - 1) < next) × ((if b then 8 else next - 1) ≤ 10)
operand_by true next e h l = let n : next ≡ 11 = grind (arith, nat_tests) in (omega arith, omega arith)
operand_by false next e h l = let n : next < 11 = grind (arith, nat_tests) in (omega arith, omega arith)

-- the operator's level is within the last, its operands are of a tighter level, and so is what was read before
pub record ReadsOn (read next last : ℕ) : Type 0 where
  pub above : 0 < next
  pub within : next ≤ last
  pub takes : read ≤ operand_level next
  pub lower : operand_level next < next
  pub operand : operand_level next ≤ 10

pub reads_so : (read next last : ℕ) → last ≤ 11 → reads_on read next last ≡ true → ReadsOn read next last
reads_so read next last l e =
    let a = reads_by (nat_lt 0 next) (nat_le next last) (nat_le read (operand_level next)) e in
    let above : 0 < next = let x = a.0 in grind (arith, nat_tests) in
    let within : next ≤ last = let x = a.1 in grind (arith, nat_tests) in
    let o = operand_by (nat_eq next 11) next refl above (omega arith) in
    record { above = above; within = within; takes = le read (operand_level next) a.2; lower = o.0; operand = o.1 }
  where
    le : (a b : ℕ) → nat_le a b ≡ true → a ≤ b
    le a b e = grind (arith, nat_tests)

-- an operator of a looser level within the last reads on, but for `??` after `&&` or `||`
pub must_read : (read next last : ℕ) → read < next → next ≤ last → next ≤ 11 → (next ≡ 11 → read ≤ 8) → reads_on read next last ≡ true
must_read read next last a b l c = all (nat_lt 0 next) (nat_le next last) (nat_le read (operand_level next)) (let z : 0 < next = omega arith in grind (arith, nat_tests)) (grind (arith, nat_tests)) (low (nat_eq next 11) refl)
  where
    all : (a b c : Bool) → a ≡ true → b ≡ true → c ≡ true → (a && b && c) ≡ true
    all true true true e f g = refl
    all true true false e f g = absurd (cc)
    all true false c e f g = absurd (cc)
    all false b c e f g = absurd (cc)

    test : (a b : ℕ) → a ≤ b → nat_le a b ≡ true
    test a b h = grind (arith, nat_tests)

    low : (b : Bool) → nat_eq next 11 ≡ b → nat_le read (if b then 8 else next - 1) ≡ true
    low true e = test read 8 (c (let n : next ≡ 11 = grind (arith, nat_tests) in n))
    low false e = test read (next - 1) (omega arith)

pub true_false : true ≡ false → ⊥
true_false e = cc

-- the level of the operands of an operator, but for `??`
pub operand_before : (next : ℕ) → nat_eq next 11 ≡ false → operand_level next ≡ next - 1
operand_before next e = ap (λ b. if b then 8 else next - 1) e
