-- All calls of the parser of expressions look at no lexeme after the place where they stop, though they look for an
-- arrow's mark after a closing parenthesis.
use Rattle.std.proofs.Common.{◌≡◌, ℕ, zero, suc, ◌≤◌, ◌<◌, List, [], ◌∷◌, ◌++◌, length, refl, sym, ap, ◌∙◌, subst, arith, length-append, append-nil, Bool, true, false, ◌&&◌, Some, None, inl, inr, ◌⊎◌, if◌then◌else◌}
use Rattle.script_grammar.specs.declared.token.Kind.{Kind}
use Rattle.script_grammar.specs.declared.token.Kind.TheVariants as kind
use Rattle.script_grammar.specs.declared.token.FuncForm.{FuncForm}
use Rattle.script_grammar.specs.declared.token.mark.TheConstants as mark
use Rattle.script_grammar.specs.Lexeme.{Lexeme}
use Rattle.script_grammar.specs.Kinds.{is_mark, is_name, is_assign_mark}
use Rattle.script_grammar.specs.Tree.{Named, Expr}
use Rattle.script_grammar.specs.Tree as tree
use Rattle.script_grammar.specs.Pieces.{Bodies, paren}
use Rattle.grammar_parser_specs.specs.Parser.{Reply, Read, Bad, Deep, Parser, head_of, after, ret, bad, deep, bind, step, when, no_room, turns, loop}
use Rattle.grammar_parser_specs.specs.Exprs
use Rattle.grammar_parser_specs.specs.Exprs.{Env, Call, BodyParser, AnAssign, APrefix, ANew, AParam, ARest, calls, call_case, no_calls, begins_call, named, param, is_param_form, is_arrow, is_update_expr, binary_case, with_last, name_of, arrow_behind, only_params}
use Rattle.grammar_parser_laws.proofs.Friendly.{AtFront}
use Rattle.grammar_parser_laws.proofs.Tests.{mark_known, name_known, bool_cases, and_right}
use Rattle.grammar_parser_laws.proofs.Local.{Local, Same, out, kept, left, grown_records, after_shorter, local_ret, local_bind, local_when, local_loop, local_no_room, Eats, Ate, eats_bind, eats_no_room, eats_peek, ate_when, ate_step}
use Rattle.grammar_parser_laws.proofs.Sound.{Leads, Outcome, Sound}
use Rattle.grammar_parser_laws.proofs.Sound as sound
use Rattle.grammar_parser_laws.proofs.SoundParts.{SoundEnv, SoundBody}
use Rattle.grammar_sound_laws.proofs.SoundCalls.{calls_sound, case_sound}
use Rattle.grammar_sound_laws.proofs.Lone.{of_kind, lone_assign, form_name, form_cases}
use Rattle.grammar_local_laws.proofs.LocalExprs.{LocalEnv, deep_end, read_end, name_of_local, initializer_local, chain_local, tail_turn_local, tail_turn_gains, postfix_local, power_turn_local, power_turn_gains, operands_local, level_local, cond_tail_local, assign_tail_local, plain_local, prefix_local, new_local, short_behind_local, after_noted}
use Rattle.grammar_local_laws.proofs.LocalArrows.{arrow_local, arrow_behind_local, arrow_param_local, arrow_rest_local}
use Rattle.grammar_local_laws.proofs.LocalRace.{RunsOut, opens_local, opens_false, Race, race_same, race_left, race_right}
use Rattle.grammar_local_laws.proofs.LocalHeads.{Pair, pair_out, pair_bad, pair_deep, pair_read, read_noted, paren_race}

known : (k : Kind) (t : Lexeme) → t.kind ≡ k → of_kind k t ≡ t
known k t e = ap (λ j. of_kind j t) (sym e)

-- a name that is the last lexeme

name_alone : (v : Env) (w : Bool) (t : Lexeme) → Exprs.plain_of v w (of_kind kind.Name t ∷ []) ≡ Read (tree.Name (named t)) [] []
unfolding Exprs.plain_of Exprs.cond_of Exprs.short_circuit Exprs.level_of Exprs.power_of Exprs.unary_of Exprs.update_of Exprs.left_of Exprs.new_or_prim Exprs.prim_of loop turns Exprs.tail_turn Exprs.postfix_of Exprs.power_turn Exprs.op_turn Exprs.or_from Exprs.cond_tail Exprs.assign_tail
name_alone v w t = refl

plain_end : (v : Env) (w : Bool) (t : Lexeme) → is_name t.kind ≡ true → length (left (Exprs.plain_of v w (t ∷ []))) ≡ 0
plain_end v w t e = subst (λ x. length (left (Exprs.plain_of v w (x ∷ []))) ≡ 0) (known kind.Name t (name_known t.kind e)) (ap (λ r. length (left r)) (name_alone v w t))

pub assign_end : (v : Env) (w : Bool) (t : Lexeme) → is_name t.kind ≡ true → length (left (Exprs.assign_of v w (t ∷ []))) ≡ 0
unfolding Exprs.assign_of Exprs.is_arrow_head
assign_end v w t e = ap (λ b. length (left (when b (Exprs.arrow_of v w) (Exprs.plain_of v w) (t ∷ [])))) (ap (λ k. if is_name k then is_arrow (head_of []) else (is_mark mark.OPEN_PAREN k && Exprs.arrow_opens [])) (name_known t.kind e)) ∙ plain_end v w t e

-- what is read at the front is not nothing

longer : (w us : List Lexeme) → sound.Reads AtFront w → length us < length (w ++ us)
longer [] us h = absurd h
longer (t ∷ w) us h = omega (arith, length-append w us)

ate_front : {A : Type 0} (R S : List Lexeme → A → Type 0) (ts : List Lexeme) (r : Reply A) → Outcome AtFront R S ts r → Ate (length ts) r
ate_front R S ts (Read a rs us) o = omega (arith, longer o.front us o.some, ap length o.split)
ate_front R S ts (Bad rs us) o = tt
ate_front R S ts (Deep rs us) o = tt

pub eats_front : {A : Type 0} {R S : List Lexeme → A → Type 0} {f : Parser A} → Leads AtFront R S f → Eats f
eats_front {R = R} {S = S} {f = f} s = record { each = λ ts. ate_front R S ts (f ts) (s.at ts) }

module _ (v : Env) (l : LocalEnv v) (m : Bodies) (d : ℕ) (s : SoundEnv m d v)
    (pair : (q : List Lexeme) (t u : Lexeme) (us : List Lexeme) → is_param_form t u ≡ true → Pair q (v.sub (AnAssign true) (t ∷ u ∷ us)) (v.sub AParam (t ∷ u ∷ (us ++ q)))) where
  open_lexeme : Lexeme → Lexeme
  open_lexeme t = of_kind (kind.Mark mark.OPEN_PAREN) t

  head_race : (q us : List Lexeme) (t : Lexeme) → RunsOut (paren ∷ []) us → only_params true (paren ∷ []) (us ++ q) ≡ true → (w : Bool) → Race q (Exprs.paren_of v true t.start us) (Exprs.arrow_of v w (open_lexeme t ∷ (us ++ q)))
  unfolding Exprs.arrow_of Exprs.arrow_head open_lexeme
  head_race q us t r f w = race_right q (Exprs.paren_of v true t.start us) (Exprs.arrow_listed v t.start (us ++ q)) (λ h. bind Exprs.arrow_mark (λ _. bind (Exprs.arrow_body v w h) (λ b. ret (Exprs.arrow_case h b)))) (arrow_behind_local v l w) (paren_race v l q m d s (pair q) t.start us r f)

  module _ (q us : List Lexeme) (t : Lexeme) (w : Bool) (r : RunsOut (paren ∷ []) us) (f : only_params true (paren ∷ []) (us ++ q) ≡ true) where
    arrowed : Reply Expr
    arrowed = Exprs.arrow_of v w (open_lexeme t ∷ (us ++ q))

    left_race : Race q (Exprs.left_of v true (open_lexeme t ∷ us)) arrowed
    unfolding Exprs.left_of Exprs.new_or_prim Exprs.prim_of open_lexeme arrowed
    left_race = race_left q (Exprs.paren_of v true t.start us) arrowed (Exprs.chain_of (Exprs.tail_turn v)) (chain_local v l (tail_turn_local v l) (tail_turn_gains v l)) (head_race q us t r f w)

    unary_race : Race q (Exprs.unary_of v true (open_lexeme t ∷ us)) arrowed
    unfolding Exprs.unary_of Exprs.update_of open_lexeme
    unary_race = race_left q (Exprs.left_of v true (open_lexeme t ∷ us)) arrowed (Exprs.postfix_of t.start) (postfix_local v l t.start) left_race

    power_race : Race q (Exprs.power_of v true (open_lexeme t ∷ us)) arrowed
    unfolding Exprs.power_of
    power_race = race_left q (Exprs.unary_of v true (open_lexeme t ∷ us)) arrowed (λ e. when (is_update_expr e) (bind (loop (Exprs.power_turn v)) (λ n. ret (binary_case e (with_last n.items n.last)))) (ret e)) (λ e. local_when (is_update_expr e) (local_bind (local_loop (power_turn_local v l) (power_turn_gains v l)) (λ n. local_ret _)) (local_ret e)) unary_race

    level_race : (n : ℕ) → n ≤ 10 → Race q (Exprs.level_of v w n true (open_lexeme t ∷ us)) arrowed
    unfolding Exprs.level_of
    level_race zero h = power_race
    level_race (suc n) h = race_left q (Exprs.level_of v w n true (open_lexeme t ∷ us)) arrowed (Exprs.operands_from w (suc n) (Exprs.level_of v w n false)) (operands_local v l w (suc n) (Exprs.level_of v w n false) (level_local v l w n (omega arith) false) (omega arith)) (level_race n (omega arith))

    plain_race : Race q (Exprs.plain_of v w (open_lexeme t ∷ us)) arrowed
    unfolding Exprs.plain_of Exprs.cond_of Exprs.short_circuit
    plain_race =
        race_left q (Exprs.cond_of v w true (open_lexeme t ∷ us)) arrowed (Exprs.assign_tail v w) (assign_tail_local v l w)
        (race_left q (Exprs.short_circuit v w true (open_lexeme t ∷ us)) arrowed (Exprs.cond_tail v w) (cond_tail_local v l w)
        (race_left q (Exprs.level_of v w 8 true (open_lexeme t ∷ us)) arrowed _ (short_behind_local v l w) (level_race 8 (omega arith))))

  race_at : (q us : List Lexeme) (t : Lexeme) (w : Bool) → is_mark mark.OPEN_PAREN t.kind ≡ true → RunsOut (paren ∷ []) us → only_params true (paren ∷ []) (us ++ q) ≡ true → Race q (Exprs.plain_of v w (t ∷ us)) (Exprs.arrow_of v w (t ∷ (us ++ q)))
  unfolding arrowed open_lexeme
  race_at q us t w e r f = subst (λ x. Race q (Exprs.plain_of v w (x ∷ us)) (Exprs.arrow_of v w (x ∷ (us ++ q)))) (known (kind.Mark mark.OPEN_PAREN) t (mark_known mark.OPEN_PAREN t.kind e)) (plain_race q us t w r f)

  -- the choice between an arrow and another expression

  branch_local : (w b : Bool) → Local (when b (Exprs.arrow_of v w) (Exprs.plain_of v w))
  branch_local w b = local_when b (arrow_local v l w) (plain_local v l w)

  same_branch : (w : Bool) (ts q : List Lexeme) (b c : Bool) → c ≡ b → Same q (when b (Exprs.arrow_of v w) (Exprs.plain_of v w) ts) (when c (Exprs.arrow_of v w) (Exprs.plain_of v w) (ts ++ q))
  same_branch w ts q b c e = subst (λ x. Same q (when b (Exprs.arrow_of v w) (Exprs.plain_of v w) ts) (when x (Exprs.arrow_of v w) (Exprs.plain_of v w) (ts ++ q))) (sym e) ((branch_local w b).same ts q)

  -- a name that is the last lexeme: neither leaves it
  arrow_name : (w : Bool) (t : Lexeme) (q : List Lexeme) → is_name t.kind ≡ true → length (left (Exprs.arrow_of v w (t ∷ q))) ≤ length q
  unfolding Exprs.arrow_of Exprs.arrow_head
  arrow_name w t q e =
      let behind = λ (h : Exprs.Head). bind Exprs.arrow_mark (λ _. bind (Exprs.arrow_body v w h) (λ b. ret (Exprs.arrow_case h b))) in
      omega (arith, after_shorter behind (arrow_behind_local v l w) (Exprs.arrow_head v (t ∷ q)), ap (λ b. length (left (when b (step (ret (Exprs.bare_head t))) (when (is_mark mark.OPEN_PAREN t.kind) (step (Exprs.arrow_listed v t.start)) bad) (t ∷ q)))) e)

  plain_name : (w : Bool) (t : Lexeme) (q : List Lexeme) → is_name t.kind ≡ true → length (left (Exprs.plain_of v w (t ∷ q))) ≤ length q
  plain_name w t q e = zero_left q (Exprs.plain_of v w (t ∷ [])) (Exprs.plain_of v w (t ∷ q)) ((plain_local v l w).same (t ∷ []) q) (plain_end v w t e)
    where
      zero_left : {A : Type 0} (q : List Lexeme) (r s : Reply A) → Same q r s → length (left r) ≡ 0 → length (left s) ≤ length q
      zero_left q r s (out z h) e = h
      zero_left q (Read a rs us) s (kept k) e = omega (arith, e, length-append us q, ap (λ x. length (left x)) k)
      zero_left q (Bad rs us) s (kept k) e = omega (arith, e, length-append us q, ap (λ x. length (left x)) k)
      zero_left q (Deep rs us) s (kept k) e = omega (arith, e, length-append us q, ap (λ x. length (left x)) k)

  either_name : (w b : Bool) (t : Lexeme) (q : List Lexeme) → is_name t.kind ≡ true → length (left (when b (Exprs.arrow_of v w) (Exprs.plain_of v w) (t ∷ q))) ≤ length q
  either_name w true t q e = arrow_name w t q e
  either_name w false t q e = plain_name w t q e

  head_name : (t u : Lexeme) (us xs : List Lexeme) → is_name t.kind ≡ true → Exprs.is_arrow_head (t ∷ u ∷ xs) ≡ Exprs.is_arrow_head (t ∷ u ∷ us)
  unfolding Exprs.is_arrow_head
  head_name t u us xs e = rw e refl

  name_same : (w : Bool) (t : Lexeme) (us q : List Lexeme) → is_name t.kind ≡ true → Same q (Exprs.assign_of v w (t ∷ us)) (Exprs.assign_of v w (t ∷ (us ++ q)))
  unfolding Exprs.assign_of
  name_same w t [] q e = out (assign_end v w t e) (either_name w (Exprs.is_arrow_head (t ∷ q)) t q e)
  name_same w t (u ∷ us) q e = same_branch w (t ∷ u ∷ us) q (Exprs.is_arrow_head (t ∷ u ∷ us)) (Exprs.is_arrow_head (t ∷ u ∷ (us ++ q))) (head_name t u us (us ++ q) e)

  head_other : (t : Lexeme) (us : List Lexeme) → is_name t.kind ≡ false → Exprs.is_arrow_head (t ∷ us) ≡ (is_mark mark.OPEN_PAREN t.kind && Exprs.arrow_opens us)
  unfolding Exprs.is_arrow_head
  head_other t us e = rw e refl

  -- a parenthesis in which the lexemes end
  open_same : (w : Bool) (t : Lexeme) (us q : List Lexeme) → is_name t.kind ≡ false → is_mark mark.OPEN_PAREN t.kind ≡ true → RunsOut (paren ∷ []) us → (c : Bool) → Exprs.is_arrow_head (t ∷ (us ++ q)) ≡ c → Same q (when (Exprs.is_arrow_head (t ∷ us)) (Exprs.arrow_of v w) (Exprs.plain_of v w) (t ∷ us)) (when c (Exprs.arrow_of v w) (Exprs.plain_of v w) (t ∷ (us ++ q)))
  open_same w t us q n e r true k =
      subst (λ b. Same q (when b (Exprs.arrow_of v w) (Exprs.plain_of v w) (t ∷ us)) (Exprs.arrow_of v w (t ∷ (us ++ q)))) (sym (head_other t us n ∙ ap (λ b. is_mark mark.OPEN_PAREN t.kind && b) (opens_false us r) ∙ none (is_mark mark.OPEN_PAREN t.kind)))
      (race_same q (Exprs.plain_of v w (t ∷ us)) (Exprs.arrow_of v w (t ∷ (us ++ q))) (race_at q us t w e r (and_right (arrow_behind (paren ∷ []) (us ++ q)) (only_params true (paren ∷ []) (us ++ q)) (and_right (is_mark mark.OPEN_PAREN t.kind) (Exprs.arrow_opens (us ++ q)) (sym (head_other t (us ++ q) n) ∙ k)))))
    where
      none : (b : Bool) → (b && false) ≡ false
      none true = refl
      none false = refl
  open_same w t us q n e r false k =
      subst (λ b. Same q (when b (Exprs.arrow_of v w) (Exprs.plain_of v w) (t ∷ us)) (Exprs.plain_of v w (t ∷ (us ++ q)))) (sym (head_other t us n ∙ ap (λ b. is_mark mark.OPEN_PAREN t.kind && b) (opens_false us r) ∙ none (is_mark mark.OPEN_PAREN t.kind)))
      ((plain_local v l w).same (t ∷ us) q)
    where
      none : (b : Bool) → (b && false) ≡ false
      none true = refl
      none false = refl

  other_same : (w : Bool) (t : Lexeme) (us q : List Lexeme) → is_name t.kind ≡ false → (o : Bool) → is_mark mark.OPEN_PAREN t.kind ≡ o → Same q (Exprs.assign_of v w (t ∷ us)) (Exprs.assign_of v w (t ∷ (us ++ q)))
  unfolding Exprs.assign_of
  other_same w t us q n false o = same_branch w (t ∷ us) q (Exprs.is_arrow_head (t ∷ us)) (Exprs.is_arrow_head (t ∷ (us ++ q))) (head_other t (us ++ q) n ∙ ap (λ b. b && Exprs.arrow_opens (us ++ q)) o ∙ sym (head_other t us n ∙ ap (λ b. b && Exprs.arrow_opens us) o))
  other_same w t us q n true o = elim (opens_local us q) [
    | inl e ↦ same_branch w (t ∷ us) q (Exprs.is_arrow_head (t ∷ us)) (Exprs.is_arrow_head (t ∷ (us ++ q))) (head_other t (us ++ q) n ∙ ap (λ b. is_mark mark.OPEN_PAREN t.kind && b) e ∙ sym (head_other t us n))
    | inr r ↦ open_same w t us q n o r (Exprs.is_arrow_head (t ∷ (us ++ q))) refl
  ]

  assign_same : (w : Bool) (ts q : List Lexeme) → Same q (Exprs.assign_of v w ts) (Exprs.assign_of v w (ts ++ q))
  unfolding Exprs.assign_of
  assign_same w [] q = out (omega (arith, (branch_local w (Exprs.is_arrow_head [])).shorter [])) ((branch_local w (Exprs.is_arrow_head q)).shorter q)
  assign_same w (t ∷ us) q = elim (bool_cases (is_name t.kind)) [ inl e ↦ name_same w t us q e | inr e ↦ other_same w t us q e (is_mark mark.OPEN_PAREN t.kind) refl ]

  pub assign_local : (w : Bool) → Local (Exprs.assign_of v w)
  unfolding Exprs.assign_of
  assign_local w = record { shorter = λ ts. (branch_local w (Exprs.is_arrow_head ts)).shorter ts; same = assign_same w }

-- an item of the form of a parameter, read as an item and as a parameter

module _ (v : Env) (l : LocalEnv v) (q : List Lexeme) where
  values_pair : (n : Named) (r t : Reply Expr) → Same q r t → Pair q (after r (λ x. ret (tree.Assign mark.ASSIGN (tree.Name n) x))) (after (after t (λ e. ret (Some e))) (λ o. ret (param n o)))
  values_pair n r t (out z h) = pair_out (omega (arith, z, after_shorter (λ x. ret (tree.Assign mark.ASSIGN (tree.Name n) x)) (λ x. local_ret (tree.Assign mark.ASSIGN (tree.Name n) x)) r))
      (omega (arith, h, after_shorter (λ (e : Expr). ret (Some e)) (λ e. local_ret (Some e)) t, after_shorter (λ o. ret (param n o)) (λ o. local_ret (param n o)) (after t (λ e. ret (Some e)))))
  values_pair n (Bad rs us) t (kept e) = pair_bad rs us refl (ap (λ x. after (after x (λ e. ret (Some e))) (λ o. ret (param n o))) e)
  values_pair n (Deep rs us) t (kept e) = pair_deep rs us refl (ap (λ x. after (after x (λ e. ret (Some e))) (λ o. ret (param n o))) e)
  values_pair n (Read a rs us) t (kept e) = pair_read (tree.Assign mark.ASSIGN (tree.Name n) a) (param n (Some a)) rs us
      (read_noted rs [] (tree.Assign mark.ASSIGN (tree.Name n) a) us ∙ ap (λ x. Read (tree.Assign mark.ASSIGN (tree.Name n) a) x us) (append-nil rs))
      (ap (λ x. after (after x (λ y. ret (Some y))) (λ o. ret (param n o))) e
      ∙ after_noted (grown_records q rs) (Read (Some a) [] (us ++ q)) (λ o. ret (param n o))
      ∙ read_noted (grown_records q rs) [] (param n (Some a)) (us ++ q)
      ∙ ap (λ x. Read (param n (Some a)) x (us ++ q)) (append-nil (grown_records q rs)))

  -- after the name, at the mark `=` and at another
  tail_assign : (w : Bool) (n : Named) (u : Lexeme) (us : List Lexeme) → u.kind ≡ kind.Mark mark.ASSIGN → Exprs.assign_tail v w (tree.Name n) (u ∷ us) ≡ bind (v.sub (AnAssign w)) (λ x. ret (tree.Assign mark.ASSIGN (tree.Name n) x)) us
  unfolding Exprs.assign_tail
  tail_assign w n u us e = ap (λ k. when (is_assign_mark k && true) (step (bind (v.sub (AnAssign w)) (λ x. ret (tree.Assign (Exprs.mark_of k) (tree.Name n) x)))) (ret (tree.Name n)) (u ∷ us)) e

  tail_other : (w : Bool) (n : Named) (u : Lexeme) (us : List Lexeme) → is_assign_mark u.kind ≡ false → Exprs.assign_tail v w (tree.Name n) (u ∷ us) ≡ Read (tree.Name n) [] (u ∷ us)
  unfolding Exprs.assign_tail
  tail_other w n u us e = rw e refl

  init_assign : (u : Lexeme) (us : List Lexeme) → u.kind ≡ kind.Mark mark.ASSIGN → Exprs.initializer_of v (u ∷ us) ≡ bind (v.sub (AnAssign true)) (λ e. ret (Some e)) us
  unfolding Exprs.initializer_of
  init_assign u us e = ap (λ k. when (is_mark mark.ASSIGN k) (step (bind (v.sub (AnAssign true)) (λ e. ret (Some e)))) (ret None) (u ∷ us)) e

  init_other : (u : Lexeme) (us : List Lexeme) → is_mark mark.ASSIGN u.kind ≡ false → Exprs.initializer_of v (u ∷ us) ≡ Read None [] (u ∷ us)
  unfolding Exprs.initializer_of
  init_other u us e = ap (λ b. when b (step (bind (v.sub (AnAssign true)) (λ e. ret (Some e)))) (ret None) (u ∷ us)) e

  name_first : (t : Lexeme) (us : List Lexeme) → t.kind ≡ kind.Name → name_of (t ∷ us) ≡ Read (named t) [] us
  unfolding name_of
  name_first t us e = ap (λ k. when (is_name k) (step (ret (named t))) bad (t ∷ us)) e

  param_first : (t : Lexeme) (us : List Lexeme) → t.kind ≡ kind.Name → Exprs.arrow_param v (t ∷ us) ≡ after (Exprs.initializer_of v us) (λ o. ret (param (named t) o))
  unfolding Exprs.arrow_param Exprs.param_of
  param_first t us e = ap (λ r. after r (λ n. bind (Exprs.initializer_of v) (λ o. ret (param n o)))) (name_first t us e)

  lone_pair : (t u : Lexeme) (us : List Lexeme) → t.kind ≡ kind.Name → is_assign_mark u.kind ≡ false → is_mark mark.ASSIGN u.kind ≡ false → Pair q (Exprs.assign_tail v true (tree.Name (named t)) (u ∷ us)) (Exprs.arrow_param v (t ∷ u ∷ (us ++ q)))
  lone_pair t u us n e f = pair_read (tree.Name (named t)) (param (named t) None) [] (u ∷ us) (tail_other true (named t) u us e) (param_first t (u ∷ (us ++ q)) n ∙ ap (λ r. after r (λ o. ret (param (named t) o))) (init_other u (us ++ q) f))

  value_pair : (t u : Lexeme) (us : List Lexeme) → t.kind ≡ kind.Name → u.kind ≡ kind.Mark mark.ASSIGN → Pair q (Exprs.assign_tail v true (tree.Name (named t)) (u ∷ us)) (Exprs.arrow_param v (t ∷ u ∷ (us ++ q)))
  value_pair t u us n e =
      subst (λ x. Pair q x (Exprs.arrow_param v (t ∷ u ∷ (us ++ q)))) (sym (tail_assign true (named t) u us e))
      (subst (λ x. Pair q (bind (v.sub (AnAssign true)) (λ x. ret (tree.Assign mark.ASSIGN (tree.Name (named t)) x)) us) x) (sym (param_first t (u ∷ (us ++ q)) n ∙ ap (λ r. after r (λ o. ret (param (named t) o))) (init_assign u (us ++ q) e)))
      (values_pair (named t) (v.sub (AnAssign true) us) (v.sub (AnAssign true) (us ++ q)) ((l.at (AnAssign true)).same us q)))

  pub call_pair : (t u : Lexeme) (us : List Lexeme) → is_param_form t u ≡ true → Pair q (Exprs.assign_of v true (t ∷ u ∷ us)) (Exprs.arrow_param v (t ∷ u ∷ (us ++ q)))
  call_pair t u us h =
      let n = form_name t u h in
      subst (λ x. Pair q x (Exprs.arrow_param v (t ∷ u ∷ (us ++ q)))) (sym (lone_assign v true t u us h))
      (form_cases t u h
      (λ e. lone_pair t u us n (ap is_assign_mark e) (ap (is_mark mark.ASSIGN) e))
      (λ e. lone_pair t u us n (ap is_assign_mark e) (ap (is_mark mark.ASSIGN) e))
      (λ e. value_pair t u us n e))

-- with whatever room for depth

pub record LocalRoom (v : Env) : Type 0 where
  pub env : LocalEnv v
  pub pair : (q : List Lexeme) (t u : Lexeme) (us : List Lexeme) → is_param_form t u ≡ true → Pair q (v.sub (AnAssign true) (t ∷ u ∷ us)) (v.sub AParam (t ∷ u ∷ (us ++ q)))

pub no_room_name : (c : Call) (t : Lexeme) (q : List Lexeme) → begins_call c t.kind ≡ true → no_room {A = Exprs.Result c} (begins_call c) (t ∷ q) ≡ Deep [] (t ∷ q)
no_room_name c t q e = ap (λ x. when x deep bad (t ∷ q)) e

begins_name : (c : Call) (t : Lexeme) → (c ≡ AnAssign true) ⊎ (c ≡ AParam) → is_name t.kind ≡ true → begins_call c t.kind ≡ true
begins_name c t x e = ap (begins_call c) (name_known t.kind e) ∙ elim x [ inl k ↦ ap (λ y. begins_call y kind.Name) k | inr k ↦ ap (λ y. begins_call y kind.Name) k ]

pub name_eats : Eats name_of
unfolding name_of
name_eats = eats_peek (λ t. when (is_name t.kind) (step (ret (named t))) bad) tt (λ t ts. ate_when (step (ret (named t))) bad (is_name t.kind) t ts (ate_step (ret (named t)) (local_ret (named t)) t ts) tt)

param_eats : (v : Env) → LocalEnv v → Eats (Exprs.arrow_param v)
unfolding Exprs.arrow_param Exprs.param_of
param_eats v l = eats_bind name_eats (λ n. local_bind (initializer_local v l) (λ o. local_ret (param n o)))

rest_eats : Eats Exprs.arrow_rest
unfolding Exprs.arrow_rest
rest_eats = eats_peek (λ t. when (is_mark mark.ELLIPSIS t.kind) (step name_of) bad) tt (λ t ts. ate_when (step name_of) bad (is_mark mark.ELLIPSIS t.kind) t ts (ate_step name_of name_of_local t ts) tt)

param_left : (v : Env) (l : LocalEnv v) (t : Lexeme) (q : List Lexeme) → is_name t.kind ≡ true → length (left (Exprs.arrow_param v (t ∷ q))) ≤ length q
param_left v l t q e = omega (arith, ap (λ r. length (left r)) (param_first v l [] t q (name_known t.kind e)), after_shorter (λ o. ret (param (named t) o)) (λ o. local_ret (param (named t) o)) (Exprs.initializer_of v q), (initializer_local v l).shorter q)

-- All calls over those one deeper.
module _ (v : Env) (r : LocalRoom v) (m : Bodies) (d : ℕ) (s : SoundEnv m (suc d) v) where
  pub case_local : (c : Call) → Local (call_case v c)
  case_local (AnAssign w) = assign_local v r.env m (suc d) s r.pair w
  case_local APrefix = prefix_local v r.env
  case_local ANew = new_local v r.env
  case_local AParam = arrow_param_local v r.env
  case_local ARest = arrow_rest_local

  pub case_eats : (c : Call) → Eats (call_case v c)
  case_eats (AnAssign w) = eats_front ((case_sound m d v s).assign w)
  case_eats APrefix = eats_front ((case_sound m d v s).prefix)
  case_eats ANew = eats_front ((case_sound m d v s).new)
  case_eats AParam = param_eats v r.env
  case_eats ARest = rest_eats

  pub case_room : (body : BodyParser) → ((f : FuncForm) (start : ℕ) (simple : Bool) → Local (body f start simple)) → LocalRoom (record { sub = call_case v; body = body })
  case_room body h = record {
    env = record {
      at = case_local;
      eats = case_eats;
      body = h;
      name = λ t e. read_end (assign_end v true t e) (λ q. param_left v r.env t q e);
    };
    pair = λ q t u us k. call_pair v r.env q t u us k;
  }

-- No room is left.
pub no_room_calls : (body : BodyParser) → ((f : FuncForm) (start : ℕ) (simple : Bool) → Local (body f start simple)) → LocalRoom (record { sub = no_calls; body = body })
no_room_calls body h = record {
  env = record {
    at = λ c. local_no_room (begins_call c);
    eats = λ c. eats_no_room (begins_call c);
    body = h;
    name = λ t e. deep_end (λ q. no_room_name (AnAssign true) t q (begins_name (AnAssign true) t (inl refl) e)) (λ q. no_room_name AParam t q (begins_name AParam t (inr refl) e));
  };
  pair = λ q t u us k. let e = ap is_name (form_name t u k) in pair_deep [] (t ∷ u ∷ us) (no_room_name (AnAssign true) t (u ∷ us) (begins_name (AnAssign true) t (inl refl) e)) (no_room_name AParam t (u ∷ (us ++ q)) (begins_name AParam t (inr refl) e));
}

module _ (m : Bodies) (body : ℕ → BodyParser) (b : (room d : ℕ) → SoundBody m d (body room)) (h : (room : ℕ) (f : FuncForm) (start : ℕ) (simple : Bool) → Local (body room f start simple)) where
  abbrev pub env_at : ℕ → Env
  env_at room = record { sub = calls body room; body = body room }

  sound_at : (room : ℕ) → SoundEnv m 1 (env_at room)
  sound_at room = record { calls = calls_sound m body b room 1; body = b room 1 }

  pub local_room : (room : ℕ) → LocalRoom (env_at room)
  unfolding calls
  local_room zero = no_room_calls (body zero) (h zero)
  local_room (suc room) = case_room (env_at room) (local_room room) m 0 (sound_at room) (body (suc room)) (h (suc room))

  -- the calls look at nothing after the place where they stop, and each reads a lexeme
  pub calls_local : (room : ℕ) (c : Call) → Local (calls body room c)
  calls_local room c = (local_room room).env.at c

  pub calls_eat : (room : ℕ) (c : Call) → Eats (calls body room c)
  calls_eat room c = (local_room room).env.eats c
