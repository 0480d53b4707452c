-- Binary operators, conditionals and assignments: what is read fits its places, and faults can be mended.
use Rattle.std.proofs.Common.{◌≡◌, ℕ, zero, suc, ◌+◌, ◌≤◌, ◌<◌, List, [], ◌∷◌, ◌++◌, refl, sym, ap, ◌∙◌, subst, arith, append_assoc, append-nil, Bool, true, false, ◌&&◌, ◌||◌, not, nat_le, nat_eq, Option, Some, None, if◌then◌else◌}
use Rattle.std.proofs.lemmas.Bool.{leb-true, eqb-true, ne_eqb}
use Rattle.script_grammar.specs.declared.token.Kind.{Kind}
use Rattle.script_grammar.specs.declared.token.Kind.TheVariants as kind
use Rattle.script_grammar.specs.declared.token.mark.TheConstants as mark
use Rattle.script_grammar.specs.declared.token.word.TheConstants as word
use Rattle.script_grammar.specs.Lexeme.{Lexeme}
use Rattle.script_grammar.specs.Kinds.{is_mark, is_word, kind_level, op_level, op_kind, is_assign_mark, is_assign_op}
use Rattle.script_grammar.specs.Tree.{Expr, Operands, no_operands, more_operands}
use Rattle.script_grammar.specs.Tree as tree
use Rattle.script_grammar.specs.TreeLists.{Operand, operands_of}
use Rattle.script_grammar.specs.Pieces.{Bodies, Piece}
use Rattle.script_grammar.specs.Print.{print, print_operands, operator_piece}
use Rattle.script_grammar.specs.Proper.{rank, Proper, ProperOperands, operand_rank, first_rank, rest_rank, level_rank, free_of_in, operands_free, InIf}
use Rattle.grammar_parser_specs.specs.Parser.{Parser, head_of, ret, bind, peek, step, when, Turn, Again, Stop, loop, Many, stopped, begun}
use Rattle.grammar_parser_specs.specs.Exprs
use Rattle.grammar_parser_specs.specs.Exprs.{Env, AnAssign, expect, mark_of, is_word_kind, operand, binary_case, with_last, is_op, is_update_expr, power_operand}
use Rattle.grammar_parser_laws.proofs.Friendly.{AtFront, Inside}
use Rattle.grammar_parser_laws.proofs.Fitting.{FitsAll, all_none, all_append, all_mark, all_kind, all_same}
use Rattle.grammar_parser_laws.proofs.Tests.{false_true, mark_known, and_left, and_right}
use Rattle.grammar_parser_laws.proofs.Sound.{Sound, Behind, sound_bind, sound_ret, sound_at, sound_peek, at_step, at_when, sound_done, sound_map, sound_inside, sound_loop, sound_made, sound_when}
use Rattle.grammar_parser_laws.proofs.SoundParts.{IsExpr, SoundEnv, SoundHead, in_both, looser, expect_sound, head_bind, head_map}

-- after lexemes in two parts
pub regroup : {A : Type 0} (R : List Lexeme → A → Type 0) (u x : List Lexeme) {f : Parser A} → Sound Inside (Behind (u ++ x) R) f → Sound Inside (Behind x (Behind u R)) f
regroup R u x s = sound_map (λ y a h. subst (λ z. R z a) (append_assoc u x y) h) s

-- the operator that a lexeme is

op_known : (k : Kind) (n : ℕ) → n < 12 → kind_level k ≡ n → (k ≡ op_kind (mark_of k) (is_word_kind k)) × (op_level (mark_of k) (is_word_kind k) ≡ n)
op_known (kind.Mark i) n h e = (refl, e)
op_known (kind.Word i) n h e = (refl, e)
op_known kind.Name n h e = absurd (omega (arith, h, e))
op_known kind.Number n h e = absurd (omega (arith, h, e))
op_known kind.Str n h e = absurd (omega (arith, h, e))
op_known kind.TemplateWhole n h e = absurd (omega (arith, h, e))
op_known kind.TemplateHead n h e = absurd (omega (arith, h, e))
op_known kind.TemplateMiddle n h e = absurd (omega (arith, h, e))
op_known kind.TemplateTail n h e = absurd (omega (arith, h, e))
op_known kind.Bad n h e = absurd (omega (arith, h, e))
op_known kind.End n h e = absurd (omega (arith, h, e))

no_in : (w : Bool) (k : Kind) → (w || not (is_word word.IN k)) ≡ true → (w || not (is_word_kind k && nat_eq (mark_of k) word.IN)) ≡ true
no_in w (kind.Word i) h = h
no_in w (kind.Mark i) h = h
no_in w kind.Name h = h
no_in w kind.Number h = h
no_in w kind.Str h = h
no_in w kind.TemplateWhole h = h
no_in w kind.TemplateHead h = h
no_in w kind.TemplateMiddle h = h
no_in w kind.TemplateTail h = h
no_in w kind.Bad h = h
no_in w kind.End h = h

assign_known : (k : Kind) → is_assign_mark k ≡ true → (k ≡ kind.Mark (mark_of k)) × (is_assign_op (mark_of k) ≡ true)
assign_known (kind.Mark i) e = (refl, e)
assign_known (kind.Word i) e = absurd (false_true e)
assign_known kind.Name e = absurd (false_true e)
assign_known kind.Number e = absurd (false_true e)
assign_known kind.Str e = absurd (false_true e)
assign_known kind.TemplateWhole e = absurd (false_true e)
assign_known kind.TemplateHead e = absurd (false_true e)
assign_known kind.TemplateMiddle e = absurd (false_true e)
assign_known kind.TemplateTail e = absurd (false_true e)
assign_known kind.Bad e = absurd (false_true e)
assign_known kind.End e = absurd (false_true e)

-- the ranks of operands

operand_le : (n : ℕ) → operand_rank n ≤ level_rank n
operand_le n = either (nat_eq n 11) refl
  where
    either : (b : Bool) → nat_eq n 11 ≡ b → (if b then 15 else 6 + n) ≤ 7 + n
    either true e = omega (arith, eqb-true n 11 e)
    either false e = omega arith

operand_known : (n : ℕ) → n ≤ 10 → operand_rank n ≡ 6 + n
operand_known n h = ap (λ b. if b then 15 else 6 + n) (ne_eqb n 11 (λ e. absurd (omega (arith, h, e))))

module _ (m : Bodies) (d : ℕ) where
  abbrev pub operand_pieces : Operand → List Piece
  operand_pieces o = operator_piece o.op o.is_word d ∷ print m d o.value

  -- an operand of the level n with its operator
  pub record IsOperand (w : Bool) (n r : ℕ) (u : List Lexeme) (o : Operand) : Type 0 where
    pub level : op_level o.op o.is_word ≡ n
    pub no_in : (w || not (o.is_word && nat_eq o.op word.IN)) ≡ true
    pub rank_le : rank o.value ≤ r
    pub proper : Proper m o.value
    pub in_if : InIf w (free_of_in o.value)
    pub fits : FitsAll (operand_pieces o) u

  operand_is : (w : Bool) (n r : ℕ) (t : Lexeme) → n < 12 → is_op w n t.kind ≡ true → (u : List Lexeme) (e : Expr) → IsExpr m w d r u e → IsOperand w n r (t ∷ u) (operand t e)
  operand_is w n r t l h u e q =
      let known = op_known t.kind n l (eqb-true (kind_level t.kind) n (and_left (nat_eq (kind_level t.kind) n) (w || not (is_word word.IN t.kind)) h)) in
      record {
        level = known.1;
        no_in = no_in w t.kind (and_right (nat_eq (kind_level t.kind) n) (w || not (is_word word.IN t.kind)) h);
        rank_le = q.rank_le;
        proper = q.proper;
        in_if = q.in_if;
        fits = all_append (all_kind (op_kind (mark_of t.kind) (is_word_kind t.kind)) d t known.0) q.fits;
      }

  -- operands of the level n after one another
  pub record AreOperands (w : Bool) (n : ℕ) (u : List Lexeme) (os : List Operand) : Type 0 where
    pub proper : ProperOperands m n (operands_of os)
    pub in_if : InIf w (operands_free (operands_of os))
    pub fits : FitsAll (print_operands m d (operands_of os)) u

  free_none : (w : Bool) → (w || true) ≡ true
  free_none true = refl
  free_none false = refl

  no_operands_are : (w : Bool) (n : ℕ) → AreOperands w n [] []
  no_operands_are w n = record { proper = tt; in_if = free_none w; fits = all_none }

  -- a Binary, or its first operand alone
  binary_is : (w : Bool) (n r : ℕ) (u x : List Lexeme) (e : Expr) (os : List Operand) → n < 12 → r ≤ level_rank n → IsExpr m w d r u e → rank e ≤ first_rank n → AreOperands w n x os → IsExpr m w d (level_rank n) (u ++ x) (binary_case e os)
  binary_is w n r u x e [] l h q k a = record { rank_le = omega (arith, q.rank_le, h); proper = q.proper; in_if = q.in_if; fits = all_same (append-nil (print m d e)) (all_append q.fits a.fits) }
  binary_is w n r u x e (o ∷ os) l h q k a =
      let same : op_level o.op o.is_word ≡ n = a.proper.0 in
      record {
        rank_le = omega (arith, same);
        proper = (tt, omega (arith, same, l), subst (λ i. rank e ≤ first_rank i) (sym same) k, q.proper, subst (λ i. ProperOperands m i (operands_of (o ∷ os))) (sym same) a.proper);
        in_if = in_both w (free_of_in e) (operands_free (operands_of (o ∷ os))) q.in_if a.in_if;
        fits = all_append q.fits a.fits;
      }

  operands_go : (w : Bool) (n r : ℕ) (u x : List Lexeme) (o : Operand) (os : List Operand) → IsOperand w n r u o → rank o.value ≤ rest_rank n (operands_of os) → AreOperands w n x os → AreOperands w n (u ++ x) (o ∷ os)
  operands_go w n r u x o os h k a = record {
    proper = (h.level, k, h.proper, a.proper);
    in_if = in_both w (not (o.is_word && nat_eq o.op word.IN)) (free_of_in o.value && operands_free (operands_of os)) h.no_in (in_both w (free_of_in o.value) (operands_free (operands_of os)) h.in_if a.in_if);
    fits = all_append h.fits a.fits;
  }

  -- a chain of `**`

  abbrev pub PowerTurn : List Lexeme → Turn Operand (Option Operand) → Type 0
  PowerTurn u (Again o) = IsOperand false 0 5 u o
  PowerTurn u (Stop None) = u ≡ []
  PowerTurn u (Stop (Some o)) = IsOperand false 0 6 u o

  abbrev pub PowerMany : List Lexeme → Many Operand (Option Operand) → Type 0
  PowerMany u n = AreOperands false 0 u (with_last n.items n.last)

  power_rank : (os : Operands) → 5 ≤ rest_rank 0 os
  power_rank no_operands = omega arith
  power_rank (more_operands op is_word value rest) = omega arith

  power_stop : (u : List Lexeme) (o : Option Operand) → PowerTurn u (Stop o) → PowerMany u (stopped o)
  power_stop u None h = subst (λ y. AreOperands false 0 y []) (sym h) (no_operands_are false 0)
  power_stop u (Some o) h = subst (λ y. AreOperands false 0 y (o ∷ [])) (append-nil u) (operands_go false 0 6 u [] o [] h h.rank_le (no_operands_are false 0))

  power_more : (u x : List Lexeme) (o : Operand) (is : List Operand) (last : Option Operand) → PowerTurn u (Again o) → AreOperands false 0 x (with_last is last) → AreOperands false 0 (u ++ x) (with_last (o ∷ is) last)
  power_more u x o is None h r = operands_go false 0 5 u x o is h (omega (arith, h.rank_le, power_rank (operands_of is))) r
  power_more u x o is (Some l) h r = operands_go false 0 5 u x o (is ++ l ∷ []) h (omega (arith, h.rank_le, power_rank (operands_of (is ++ l ∷ [])))) r

  power_go : (u x : List Lexeme) (o : Operand) (n : Many Operand (Option Operand)) → PowerTurn u (Again o) → PowerMany x n → PowerMany (u ++ x) (begun o n)
  power_go u x o n h r = power_more u x o n.items n.last h r

  power_case : (t : Lexeme) → t.kind ≡ kind.Mark mark.POWER → (u : List Lexeme) (e : Expr) → IsExpr m false d 6 u e → (b : Bool) → is_update_expr e ≡ b → PowerTurn (t ∷ u) (if b then Again (operand t e) else Stop (Some (operand t e)))
  power_case t k u e q true h = operand_is false 0 5 t (omega arith) (ap (λ y. is_op false 0 y) k) u e (record { rank_le = leb-true (rank e) 5 h; proper = q.proper; in_if = q.in_if; fits = q.fits })
  power_case t k u e q false h = operand_is false 0 6 t (omega arith) (ap (λ y. is_op false 0 y) k) u e q

  module _ (v : Env) (s : SoundEnv m d v) (unary : (heads : Bool) → SoundHead m false d heads 6 (Exprs.unary_of v heads)) where
    power_turn_sound : Sound Inside PowerTurn (Exprs.power_turn v)
    unfolding Exprs.power_turn
    power_turn_sound = sound_peek (λ t. at_when (is_mark mark.POWER t.kind) (λ e. at_step t (sound_made (power_operand t) (sound_inside (unary false)) (λ u a q. power_case t (mark_known mark.POWER t.kind e) u a q (is_update_expr a) refl))) (λ _. sound_at t (sound_ret {a = Stop None} refl))) (sound_ret {a = Stop None} refl)

    power_loop_sound : Sound Inside PowerMany (loop (Exprs.power_turn v))
    power_loop_sound = sound_loop PowerTurn PowerMany (Exprs.power_turn v) power_turn_sound power_stop power_go (record { end = []; of = stopped None; starts = tt; is = no_operands_are false 0 })

    power_behind : (u : List Lexeme) (e : Expr) → IsExpr m false d 6 u e → Sound Inside (Behind u (IsExpr m false d 7)) (when (is_update_expr e) (bind (loop (Exprs.power_turn v)) (λ n. ret (binary_case e (with_last n.items n.last)))) (ret e))
    power_behind u e q = sound_when (is_update_expr e)
        (λ h. sound_made (λ n. binary_case e (with_last n.items n.last)) power_loop_sound (λ x n r. binary_is false 0 6 u x e (with_last n.items n.last) (omega arith) (omega arith) q (leb-true (rank e) 5 h) r))
        (λ _. sound_done (IsExpr m false d 7) u e (looser (omega arith) u e q))

    power_sound : (heads : Bool) → SoundHead m false d heads 7 (Exprs.power_of v heads)
    unfolding Exprs.power_of
    power_sound heads = head_bind heads (λ e. when (is_update_expr e) (bind (loop (Exprs.power_turn v)) (λ n. ret (binary_case e (with_last n.items n.last)))) (ret e)) (omega arith) (unary heads) power_behind

    -- the other levels

    abbrev pub OpTurn : Bool → ℕ → List Lexeme → Turn Operand (Unit {0}) → Type 0
    OpTurn w n u (Again o) = IsOperand w n (operand_rank n) u o
    OpTurn w n u (Stop b) = u ≡ []

    op_turn_sound : (w : Bool) (n : ℕ) (lower : Parser Expr) → n < 12 → Sound AtFront (IsExpr m w d (operand_rank n)) lower → Sound Inside (OpTurn w n) (Exprs.op_turn w n lower)
    unfolding Exprs.op_turn
    op_turn_sound w n lower l h = sound_peek (λ t. at_when (is_op w n t.kind) (λ e. at_step t (sound_made (λ a. Again (operand t a)) (sound_inside h) (λ u a q. operand_is w n (operand_rank n) t l e u a q))) (λ _. sound_at t (sound_ret {a = Stop tt} refl)))
        (subst (λ b. Sound Inside (OpTurn w n) (when b (step (bind lower (λ a. ret (Again (operand (head_of []) a))))) (ret (Stop tt)))) (sym (end_no_op w n l)) (sound_ret {a = Stop tt} refl))
      where
        end_no_op : (w : Bool) (n : ℕ) → n < 12 → is_op w n kind.End ≡ false
        end_no_op w n l = ap (λ b. b && (w || true)) (ne_eqb 12 n (λ e. absurd (omega (arith, l, e))))

    pub operands_sound : (w : Bool) (n : ℕ) (lower : Parser Expr) → suc n < 12 → Sound AtFront (IsExpr m w d (operand_rank (suc n))) lower → (u : List Lexeme) (e : Expr) → IsExpr m w d (operand_rank (suc n)) u e → Sound Inside (Behind u (IsExpr m w d (level_rank (suc n)))) (Exprs.operands_from w (suc n) lower e)
    operands_sound w n lower l h u e q = sound_made (λ o. binary_case e o.items)
        (sound_loop (OpTurn w (suc n)) (λ x o. AreOperands w (suc n) x o.items) (Exprs.op_turn w (suc n) lower) (op_turn_sound w (suc n) lower l h)
        (λ x b r. subst (λ y. AreOperands w (suc n) y []) (sym r) (no_operands_are w (suc n)))
        (λ x y o r p a. operands_go w (suc n) (operand_rank (suc n)) x y o r.items p p.rank_le a)
        (record { end = []; of = stopped tt; starts = tt; is = no_operands_are w (suc n) }))
        (λ x o r. binary_is w (suc n) (operand_rank (suc n)) u x e o.items l (operand_le (suc n)) q q.rank_le r)

    pub level_sound : (n : ℕ) → n ≤ 10 → (w heads : Bool) → SoundHead m w d heads (level_rank n) (Exprs.level_of v w n heads)
    unfolding Exprs.level_of
    level_sound zero h w heads = head_map heads (omega arith) (power_sound heads)
    level_sound (suc n) h w heads =
        let same : operand_rank (suc n) ≡ level_rank n = operand_known (suc n) h ∙ omega arith in
        let lower = subst (λ r. Sound AtFront (IsExpr m w d r) (Exprs.level_of v w n false)) (sym same) (level_sound n (omega arith) w false) in
        head_bind heads (Exprs.operands_from w (suc n) (Exprs.level_of v w n false)) (omega arith) (level_sound n (omega arith) w heads)
        (λ u e q. operands_sound w n (Exprs.level_of v w n false) (omega arith) lower u e (subst (λ r. IsExpr m w d r u e) (sym same) q))

    or_sound : (w : Bool) (u : List Lexeme) (e : Expr) → IsExpr m w d 15 u e → Sound Inside (Behind u (IsExpr m w d 17)) (Exprs.or_from v w e)
    unfolding Exprs.or_from
    or_sound w u e q = sound_bind (operands_sound w 8 (Exprs.level_of v w 8 false) (omega arith) (level_sound 8 (omega arith) w false) u e q)
        (λ x a r. regroup (IsExpr m w d 17) u x (operands_sound w 9 (Exprs.level_of v w 9 false) (omega arith) (level_sound 9 (omega arith) w false) (u ++ x) a r))

    short_behind : (w : Bool) (u : List Lexeme) (e : Expr) → IsExpr m w d 15 u e → Sound Inside (Behind u (IsExpr m w d 18)) (peek (λ t. when (is_op w Exprs.coalesce_level t.kind) (Exprs.operands_from w Exprs.coalesce_level (Exprs.level_of v w Exprs.bit_or_level false) e) (Exprs.or_from v w e)))
    short_behind w u e q =
        let ors : Sound Inside (Behind u (IsExpr m w d 18)) (Exprs.or_from v w e) = sound_map (λ x a r. looser (omega arith) (u ++ x) a r) (or_sound w u e q) in
        sound_peek (λ t. at_when (is_op w Exprs.coalesce_level t.kind) (λ _. sound_at t (operands_sound w 10 (Exprs.level_of v w 8 false) (omega arith) (level_sound 8 (omega arith) w false) u e q)) (λ _. sound_at t ors)) ors

    pub short_sound : (w heads : Bool) → SoundHead m w d heads 18 (Exprs.short_circuit v w heads)
    unfolding Exprs.short_circuit
    short_sound w heads = head_bind heads (λ e. peek (λ t. when (is_op w Exprs.coalesce_level t.kind) (Exprs.operands_from w Exprs.coalesce_level (Exprs.level_of v w Exprs.bit_or_level false) e) (Exprs.or_from v w e))) (omega arith) (level_sound 8 (omega arith) w heads) (short_behind w)

    -- conditionals

    branches_sound : (w : Bool) (u : List Lexeme) (e : Expr) → IsExpr m w d 18 u e → (t : Lexeme) → t.kind ≡ kind.Mark mark.QUESTION → Sound Inside (Behind (t ∷ []) (Behind u (IsExpr m w d 19))) (Exprs.branches_of v w e)
    unfolding Exprs.branches_of
    branches_sound w u e q t k = sound_bind (sound_inside (s.calls.assign true)) (λ x y p. sound_bind (expect_sound mark.COLON d) (λ z _ c. sound_made (λ n. tree.Cond e y n) (sound_inside (s.calls.assign w)) (λ o n r. record {
      rank_le = omega arith;
      proper = (q.rank_le, q.proper, p.rank_le, p.proper, r.rank_le, r.proper);
      in_if = in_both w (free_of_in e) (free_of_in n) q.in_if r.in_if;
      fits = all_append q.fits (all_append (all_mark mark.QUESTION d t k) (all_append p.fits (all_append c r.fits)));
    })))

    cond_behind : (w : Bool) (u : List Lexeme) (e : Expr) → IsExpr m w d 18 u e → Sound Inside (Behind u (IsExpr m w d 19)) (Exprs.cond_tail v w e)
    unfolding Exprs.cond_tail
    cond_behind w u e q =
        let alone : Sound Inside (Behind u (IsExpr m w d 19)) (ret e) = sound_done (IsExpr m w d 19) u e (looser (omega arith) u e q) in
        sound_peek (λ t. at_when (is_mark mark.QUESTION t.kind) (λ h. at_step t (branches_sound w u e q t (mark_known mark.QUESTION t.kind h))) (λ _. sound_at t alone)) alone

    pub cond_sound : (w heads : Bool) → SoundHead m w d heads 19 (Exprs.cond_of v w heads)
    unfolding Exprs.cond_of
    cond_sound w heads = head_bind heads (Exprs.cond_tail v w) (omega arith) (short_sound w heads) (cond_behind w)

    -- assignments

    assign_behind : (w : Bool) (u : List Lexeme) (e : Expr) → IsExpr m w d 19 u e → Sound Inside (Behind u (IsExpr m w d 20)) (Exprs.assign_tail v w e)
    unfolding Exprs.assign_tail
    assign_behind w u e q =
        let alone : Sound Inside (Behind u (IsExpr m w d 20)) (ret e) = sound_done (IsExpr m w d 20) u e (looser (omega arith) u e q) in
        sound_peek (λ t. at_when (is_assign_mark t.kind && nat_le (rank e) 4) (λ h.
        let known = assign_known t.kind (and_left (is_assign_mark t.kind) (nat_le (rank e) 4) h) in
        at_step t (sound_made (λ x. tree.Assign (mark_of t.kind) e x) (sound_inside (s.calls.assign w)) (λ x a r. record {
          rank_le = omega arith;
          proper = (known.1, leb-true (rank e) 4 (and_right (is_assign_mark t.kind) (nat_le (rank e) 4) h), q.proper, r.rank_le, r.proper);
          in_if = in_both w (free_of_in e) (free_of_in a) q.in_if r.in_if;
          fits = all_append q.fits (all_append (all_mark (mark_of t.kind) d t known.0) r.fits);
        }))) (λ _. sound_at t alone)) alone

    pub plain_sound : (w : Bool) → Sound AtFront (IsExpr m w d 20) (Exprs.plain_of v w)
    unfolding Exprs.plain_of
    plain_sound w = head_bind true (Exprs.assign_tail v w) (omega arith) (cond_sound w true) (assign_behind w)
