-- What the code reads up to a level of operators: the levels that read nothing left out.
use Rattle.std.proofs.Common.{◌≡◌, ◌∙◌, ℕ, zero, suc, ◌-◌, ◌<◌, ◌≤◌, List, [], None, length, Bool, true, false, nat_eq, nat_le, refl, sym, ap, subst, arith}
use Rattle.std.proofs.lemmas.Bool.Decides.{nat_tests}
use Rattle.script_grammar.specs.declared.token.mark.TheConstants as mark
use Rattle.script_grammar.specs.Interpretation.{Interpretation}
use Rattle.script_grammar.specs.Kinds.{is_mark}
use Rattle.script_grammar.specs.Lexeme.{Lexeme}
use Rattle.script_grammar.specs.Tree.{Expr}
use Rattle.grammar_parser_specs.specs.Parser.{Recorded, Reply, Read, Parser, head_of, noted, after, ret, bind, step, when, Again, Stop, stopped, turned, turns, loop}
use Rattle.grammar_parser_specs.specs.Exprs.{Env, unary_of, power_operand, is_op, is_update_expr, operand, op_turn, operands_from, binary_case, with_last, power_turn, power_of, level_of, or_from, short_circuit, coalesce_level, bit_or_level}
use Rattle.grammar_local_laws.proofs.LocalExprs.{after_noted}
use Rattle.parse_exprs.specs.declared.source.Source.{Source}
use Rattle.parse_exprs.specs.declared.place.Cursor.{Cursor}
use Rattle.parse_exprs.specs.declared.place.ParseFault.{ParseFault}
use Rattle.parse_exprs.specs.declared.place.ParseFault.TheVariants as faults
use Rattle.parse_exprs.specs.Answers.{ReadAs, Refuses}
use Rattle.parse_exprs.specs.Levels.{level_with, operand_level, reads_on, up_to}
use Rattle.parse_exprs.proofs.FuncParts.{refused_behind}
use Rattle.parse_exprs.proofs.OperatorLevels.{ReadsOn, must_read, no_op_here, op_here, operand_before, true_false}
use Rattle.parse_exprs.proofs.Steps.{just, then, refused, when_true, when_false}

-- A list of operands has none where no operator of its level stands.

turn_stops : (w : Bool) (n : ℕ) (lower : Parser Expr) (us : List Lexeme) → is_op w n (head_of us).kind ≡ false → op_turn w n lower us ≡ Read (Stop tt) [] us
unfolding op_turn
turn_stops w n lower us e = ap (λ b. when b (step (bind lower (λ x. ret (Again (operand (head_of us) x))))) (ret (Stop tt)) us) e

pub none_read : (w : Bool) (n : ℕ) (lower : Parser Expr) (e : Expr) (rs : List Recorded) (us : List Lexeme) → is_op w n (head_of us).kind ≡ false → ReadAs rs (operands_from w n lower e us) e rs us
unfolding loop turns
none_read w n lower e rs us h = record {
  is =
      ap (λ r. noted rs (after (after r (turned (turns (op_turn w n lower) (length us)))) (λ m. ret (binary_case e m.items)))) (turn_stops w n lower us h)
      ∙ (just rs e us).is;
}

-- the same of powers

power_stops : (v : Env) (us : List Lexeme) → is_mark mark.POWER (head_of us).kind ≡ false → power_turn v us ≡ Read (Stop None) [] us
unfolding power_turn
power_stops v us e = ap (λ b. when b (step (bind (unary_of v false) (λ x. ret (power_operand (head_of us) x)))) (ret (Stop None)) us) e

pub no_powers : (v : Env) (e : Expr) (rs : List Recorded) (us : List Lexeme) → is_mark mark.POWER (head_of us).kind ≡ false
    → ReadAs rs (when (is_update_expr e) (bind (loop (power_turn v)) (λ m. ret (binary_case e (with_last m.items m.last)))) (ret e) us) e rs us
unfolding loop turns
no_powers v e rs us h = either (is_update_expr e)
  where
    either : (b : Bool) → ReadAs rs (when b (bind (loop (power_turn v)) (λ m. ret (binary_case e (with_last m.items m.last)))) (ret e) us) e rs us
    either true = record {
      is =
          ap (λ r. noted rs (after (after r (turned (turns (power_turn v) (length us)))) (λ m. ret (binary_case e (with_last m.items m.last))))) (power_stops v us h)
          ∙ (just rs e us).is;
    }
    either false = just rs e us

module _ (v : Env) (w heads : Bool) (rs : List Recorded) (ts : List Lexeme) where
  -- what reads up to a level, reads up to a looser one too, where no operator of a level between stands after it
  past : (k : ℕ) (t : Expr) (qs : List Recorded) (us : List Lexeme) → ReadAs rs (level_of v w k heads ts) t qs us
      → (n : ℕ) → k ≤ n → ((m : ℕ) → k < m → m ≤ n → is_op w m (head_of us).kind ≡ false) → ReadAs rs (level_of v w n heads ts) t qs us
  unfolding level_of
  past k t qs us h zero l f = subst (λ j. ReadAs rs (level_of v w j heads ts) t qs us) (let e : k ≡ zero = omega arith in e) h
  past k t qs us h (suc n) l f = either (λ less. past k t qs us h n less (λ m a b. f m a (omega arith))) (nat_le k n) refl
    where
      either : (k ≤ n → ReadAs rs (level_of v w n heads ts) t qs us) → (b : Bool) → nat_le k n ≡ b → ReadAs rs (level_of v w (suc n) heads ts) t qs us
      either g true e =
          let less : k ≤ n = grind (arith, nat_tests) in
          then (operands_from w (suc n) (level_of v w n false)) (g less) (none_read w (suc n) (level_of v w n false) t qs us (f (suc n) (omega arith) (omega arith)))
      either g false e = let same : k ≡ suc n = grind (arith, nat_tests) in subst (λ j. ReadAs rs (level_of v w j heads ts) t qs us) same h

  -- a fault up to a level is one up to a looser one
  refused_past : (s : Source) (i : Interpretation) (p : Cursor) (e : ParseFault) (k : ℕ) → Refuses s i p e rs (level_of v w k heads ts) → (n : ℕ) → k ≤ n → Refuses s i p e rs (level_of v w n heads ts)
  unfolding level_of
  refused_past s i p e k h zero l = subst (λ j. Refuses s i p e rs (level_of v w j heads ts)) (let q : k ≡ zero = omega arith in q) h
  refused_past s i p e k h (suc n) l = either (λ less. refused_past s i p e k h n less) (nat_le k n) refl
    where
      either : (k ≤ n → Refuses s i p e rs (level_of v w n heads ts)) → (b : Bool) → nat_le k n ≡ b → Refuses s i p e rs (level_of v w (suc n) heads ts)
      either g true q = let less : k ≤ n = grind (arith, nat_tests) in refused s i p e rs _ (operands_from w (suc n) (level_of v w n false)) (g less)
      either g false q = let same : k ≡ suc n = grind (arith, nat_tests) in subst (λ j. Refuses s i p e rs (level_of v w j heads ts)) same h

  -- without `??` after its first part, a ShortCircuitExpression is what reads up to `||`
  short_or : (t : Expr) (qs : List Recorded) (us : List Lexeme) → ReadAs rs (level_of v w 8 heads ts) t qs us → is_op w 11 (head_of us).kind ≡ false → noted rs (short_circuit v w heads ts) ≡ noted rs (level_of v w 10 heads ts)
  unfolding short_circuit or_from level_of
  short_or t qs us h other =
      let r = level_of v w 8 heads ts in
      let nine = operands_from w 9 (level_of v w 8 false) in
      let ten = operands_from w 10 (level_of v w 9 false) in
      let whole = (λ (e : Expr) (vs : List Lexeme). when (is_op w 11 (head_of vs).kind) (operands_from w 11 (level_of v w 8 false) e) (or_from v w e) vs) in
      let left : noted rs (short_circuit v w heads ts) ≡ noted qs (or_from v w t us) = sym (after_noted rs r whole) ∙ ap (λ x. after x whole) h.is ∙ ap (λ b. noted qs (when b (operands_from w 11 (level_of v w 8 false) t) (or_from v w t) us)) other in
      let right : noted rs (level_of v w 10 heads ts) ≡ noted qs (or_from v w t us) = sym (after_noted rs (after r nine) ten) ∙ ap (λ x. after x ten) (sym (after_noted rs r nine) ∙ ap (λ x. after x nine) h.is) ∙ after_noted qs (nine t us) ten in
      left ∙ sym right

-- What was read up to the level `read`, on the way up to a last one. After `&&` or `||` what is still read is as without `??`.
pub record Climbing (v : Env) (w heads : Bool) (rs : List Recorded) (ts : List Lexeme) (last read : ℕ) (t : Expr) (qs : List Recorded) (us : List Lexeme) : Type 0 where
  pub within : read ≤ last
  pub reads : ReadAs rs (up_to v w read heads ts) t qs us
  pub logical : last ≡ 11 → 8 < read → read < 11 → noted rs (short_circuit v w heads ts) ≡ noted rs (level_of v w 10 heads ts)

-- what is said of a reply, said of the same reply by another name

pub read_by : {A : Type 0} {rs qs : List Recorded} {us : List Lexeme} {r q : Reply A} {a : A} → r ≡ q → ReadAs rs r a qs us → ReadAs rs q a qs us
read_by {rs = rs} {qs = qs} {us = us} {a = a} e h = subst (λ x. ReadAs rs x a qs us) e h

refuses_same : {A : Type 0} (s : Source) (i : Interpretation) (p : Cursor) (e : ParseFault) (rs qs : List Recorded) (a b : Reply A) → noted rs a ≡ noted qs b → Refuses s i p e qs b → Refuses s i p e rs a
refuses_same s i p (faults.Unexpected k) rs qs a b q h = record { is = q ∙ h.is }
refuses_same s i p (faults.TooDeep k) rs qs a b q h = record { is = q ∙ h.is }
refuses_same s i p faults.NoMemory rs qs a b q h = tt

-- what is left of a part and another after it, where the first was read
and_then : {A B : Type 0} {qs : List Recorded} {a : A} {us : List Lexeme} (rs : List Recorded) (r : Reply A) (f : A → Parser B) → ReadAs rs r a qs us → noted rs (after r f) ≡ noted qs (f a us)
and_then rs r f h = sym (after_noted rs r f) ∙ ap (λ x. after x f) h.is

-- up to a level before that of `??`, and up to that

pub tight : (v : Env) (w heads : Bool) (ts : List Lexeme) (n : ℕ) → n ≤ 10 → up_to v w n heads ts ≡ level_of v w n heads ts
tight v w heads ts n h = ap (λ b. when b (short_circuit v w heads) (level_of v w n heads) ts) (other n h)
  where
    other : (n : ℕ) → n ≤ 10 → nat_eq n 11 ≡ false
    other n h = grind (arith, nat_tests)

loose : (v : Env) (w heads : Bool) (ts : List Lexeme) (n : ℕ) → n ≡ 11 → up_to v w n heads ts ≡ short_circuit v w heads ts
loose v w heads ts n h = ap (λ k. up_to v w k heads ts) h

module _ (v : Env) (w heads : Bool) (rs : List Recorded) (ts : List Lexeme) where
  pub climb_start : (last : ℕ) (t : Expr) (qs : List Recorded) (us : List Lexeme) → ReadAs rs (power_of v heads ts) t qs us → Climbing v w heads rs ts last 0 t qs us
  unfolding level_of
  climb_start last t qs us h = record { within = omega arith; reads = h; logical = λ e a b. absurd (omega (arith, a)) }

  pub start_refused : (s : Source) (i : Interpretation) (p : Cursor) (e : ParseFault) (last : ℕ) → last ≤ 11 → Refuses s i p e rs (power_of v heads ts) → Refuses s i p e rs (up_to v w last heads ts)
  unfolding level_of short_circuit
  start_refused s i p e last l h = either (nat_le last 10) refl
    where
      either : (b : Bool) → nat_le last 10 ≡ b → Refuses s i p e rs (up_to v w last heads ts)
      either true q = let less : last ≤ 10 = grind (arith, nat_tests) in subst (λ r. Refuses s i p e rs r) (sym (tight v w heads ts last less)) (refused_past v w heads rs ts s i p e 0 h last (omega arith))
      either false q = let same : last ≡ 11 = grind (arith, nat_tests) in subst (λ r. Refuses s i p e rs r) (sym (loose v w heads ts last same)) (refused s i p e rs _ _ (refused_past v w heads rs ts s i p e 0 h 8 (omega arith)))

  module _ (last read next : ℕ) (t : Expr) (qs : List Recorded) (us : List Lexeme) (few : last ≤ 11) (c : Climbing v w heads rs ts last read t qs us) (is : next ≡ level_with w (head_of us).kind) where
    -- what was read, read up to a level before that of the next operator
    climbed : (n : ℕ) → read ≤ n → n ≤ 10 → ((m : ℕ) → read < m → m ≤ n → m ≡ next → ⊥) → ReadAs rs (level_of v w n heads ts) t qs us
    climbed n h l f = past v w heads rs ts read t qs us (subst (λ r. ReadAs rs r t qs us) (tight v w heads ts read (omega arith)) c.reads) n h (λ m a b. no_op_here w m next (head_of us).kind (omega arith) is (f m a b))

    -- where the next token does not read on, all was read
    pub climb_stop : reads_on read next last ≡ false → ReadAs rs (up_to v w last heads ts) t qs us
    unfolding short_circuit or_from
    climb_stop e = either (nat_le last 10) (nat_le read 8) (nat_le read 10) refl refl refl
      where
        none : (m : ℕ) → read < m → m ≤ last → (m ≡ 11 → read ≤ 8) → m ≡ next → ⊥
        none m a b o q = true_false (sym (must_read read m last a b (omega arith) o) ∙ ap (λ x. reads_on read x last) q ∙ e)

        either : (x y z : Bool) → nat_le last 10 ≡ x → nat_le read 8 ≡ y → nat_le read 10 ≡ z → ReadAs rs (up_to v w last heads ts) t qs us
        either true y z p q r =
            let less : last ≤ 10 = grind (arith, nat_tests) in
            subst (λ x. ReadAs rs x t qs us) (sym (tight v w heads ts last less)) (climbed last c.within less (λ m a b. none m a b (λ x. absurd (omega (arith, x)))))
        either false true z p q r =
            let same : last ≡ 11 = grind (arith, nat_tests) in
            let low : read ≤ 8 = grind (arith, nat_tests) in
            let stops = (λ (m : ℕ) (a : read < m) (b : m ≤ last). no_op_here w m next (head_of us).kind (omega arith) is (none m a b (λ x. low))) in
            subst (λ x. ReadAs rs x t qs us) (sym (loose v w heads ts last same))
            (then _ (climbed 8 low (omega arith) (λ m a b. none m a (omega arith) (λ x. low)))
            (when_false _ _ (stops 11 (omega arith) (omega arith))
            (then _ (none_read w 9 _ t qs us (stops 9 (omega arith) (omega arith))) (none_read w 10 _ t qs us (stops 10 (omega arith) (omega arith))))))
        either false false true p q r =
            let same : last ≡ 11 = grind (arith, nat_tests) in
            let high : 8 < read = grind (arith, nat_tests) in
            let low : read ≤ 10 = grind (arith, nat_tests) in
            subst (λ x. ReadAs rs x t qs us) (sym (loose v w heads ts last same)) (record { is = c.logical same high (omega arith) ∙ (climbed 10 low (omega arith) (λ m a b. none m a (omega arith) (λ x. absurd (omega (arith, x))))).is })
        either false false false p q r =
            let h : 10 < read = grind (arith, nat_tests) in
            let a = c.within in
            subst (λ k. ReadAs rs (up_to v w k heads ts) t qs us) (let same : read ≡ last = omega arith in same) c.reads

    module _ (on : ReadsOn read next last) where
      -- after `&&` or `||`
      pub climb_logical : last ≡ 11 → 8 < next → next < 11 → noted rs (short_circuit v w heads ts) ≡ noted rs (level_of v w 10 heads ts)
      climb_logical same a b = either (nat_le read 8) refl
        where
          either : (x : Bool) → nat_le read 8 ≡ x → noted rs (short_circuit v w heads ts) ≡ noted rs (level_of v w 10 heads ts)
          either true q =
              let low : read ≤ 8 = grind (arith, nat_tests) in
              short_or v w heads rs ts t qs us (climbed 8 low (omega arith) (λ m x y z. absurd (omega (arith, x, y, z)))) (no_op_here w 11 next (head_of us).kind (omega arith) is (λ z. absurd (omega (arith, z))))
          either false q =
              let high : 8 < read = grind (arith, nat_tests) in
              let x = on.takes in let y = on.lower in
              c.logical same high (omega arith)

      -- what is read up to the next operator's level is the list of its operands
      climb_list : noted rs (up_to v w next heads ts) ≡ noted qs (operands_from w next (level_of v w (operand_level next) false) t us)
      unfolding level_of short_circuit
      climb_list = either (nat_eq next 11) refl
        where
          either : (b : Bool) → nat_eq next 11 ≡ b → noted rs (up_to v w next heads ts) ≡ noted qs (operands_from w next (level_of v w (operand_level next) false) t us)
          either true q =
              let same : next ≡ 11 = grind (arith, nat_tests) in
              let low : read ≤ 8 = subst (λ k. read ≤ operand_level k) same on.takes in
              let here = op_here w 11 next (head_of us).kind (omega arith) is (sym same) in
              ap (noted rs) (loose v w heads ts next same)
              ∙ and_then rs (level_of v w 8 heads ts) _ (climbed 8 low (omega arith) (λ m a b z. absurd (omega (arith, a, b, z))))
              ∙ ap (λ b. noted qs (when b (operands_from w 11 (level_of v w 8 false) t) (or_from v w t) us)) here
              ∙ ap (λ k. noted qs (operands_from w k (level_of v w (operand_level k) false) t us)) (sym same)
          either false q =
              let less : next ≤ 10 = let a = on.within in grind (arith, nat_tests) in
              let above = on.above in
              let n = next - 1 in
              let e : next ≡ suc (next - 1) = omega arith in
              let o : operand_level next ≡ next - 1 = operand_before next q in
              let low : read ≤ next - 1 = subst (λ k. read ≤ k) o on.takes in
              ap (noted rs) (tight v w heads ts next less ∙ ap (λ k. level_of v w k heads ts) e)
              ∙ and_then rs (level_of v w (next - 1) heads ts) (operands_from w (suc (next - 1)) (level_of v w (next - 1) false)) (climbed (next - 1) low (omega arith) (λ m a b z. absurd (omega (arith, above, a, b, z))))
              ∙ ap (λ k. noted qs (operands_from w k (level_of v w (next - 1) false) t us)) (sym e)
              ∙ ap (λ j. noted qs (operands_from w next (level_of v w j false) t us)) (sym o)

      pub climb_next : (x : Expr) (ps : List Recorded) (vs : List Lexeme) → ReadAs qs (operands_from w next (level_of v w (operand_level next) false) t us) x ps vs → Climbing v w heads rs ts last next x ps vs
      climb_next x ps vs h = record { within = on.within; reads = record { is = climb_list ∙ h.is }; logical = climb_logical }

      pub climb_refused : (s : Source) (i : Interpretation) (p : Cursor) (e : ParseFault) → Refuses s i p e qs (operands_from w next (level_of v w (operand_level next) false) t us) → Refuses s i p e rs (up_to v w last heads ts)
      unfolding short_circuit
      climb_refused s i p e h = either (nat_le last 10) (nat_le next 8) (nat_le next 10) refl refl refl
        where
          fault : Refuses s i p e rs (up_to v w next heads ts)
          fault = refuses_same s i p e rs qs _ _ climb_list h

          up : (n : ℕ) → next ≤ n → n ≤ 10 → Refuses s i p e rs (level_of v w n heads ts)
          up n a b = refused_past v w heads rs ts s i p e next (subst (λ r. Refuses s i p e rs r) (tight v w heads ts next (omega arith)) fault) n a

          either : (x y z : Bool) → nat_le last 10 ≡ x → nat_le next 8 ≡ y → nat_le next 10 ≡ z → Refuses s i p e rs (up_to v w last heads ts)
          either true y z a b d = let less : last ≤ 10 = grind (arith, nat_tests) in subst (λ r. Refuses s i p e rs r) (sym (tight v w heads ts last less)) (up last on.within less)
          either false true z a b d =
              let same : last ≡ 11 = grind (arith, nat_tests) in
              let low : next ≤ 8 = grind (arith, nat_tests) in
              subst (λ r. Refuses s i p e rs r) (sym (loose v w heads ts last same)) (refused s i p e rs _ _ (up 8 low (omega arith)))
          either false false true a b d =
              let same : last ≡ 11 = grind (arith, nat_tests) in
              let high : 8 < next = grind (arith, nat_tests) in
              let low : next ≤ 10 = grind (arith, nat_tests) in
              subst (λ r. Refuses s i p e rs r) (sym (loose v w heads ts last same)) (refuses_same s i p e rs rs _ _ (climb_logical same high (omega arith)) (up 10 low (omega arith)))
          either false false false a b d =
              let h : 10 < next = grind (arith, nat_tests) in
              let l = on.within in
              subst (λ k. Refuses s i p e rs (up_to v w k heads ts)) (let same : next ≡ last = omega arith in same) fault
