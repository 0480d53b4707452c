-- All calls of the parser of expressions: with whatever room for depth, what is read is the print of a proper tree, and
-- faults can be mended.
use Rattle.std.proofs.Common.{◌≡◌, ℕ, zero, suc, ◌≤◌, List, [], ◌∷◌, refl, sym, ap, ◌∙◌, subst, arith, Bool, true, false, ◌&&◌, ◌||◌, nat_eq, Some, None}
use Rattle.std.proofs.lemmas.Bool.{eqb-true}
use Rattle.script_grammar.specs.declared.token.Kind.{Kind}
use Rattle.script_grammar.specs.declared.token.Kind.TheVariants as kind
use Rattle.script_grammar.specs.declared.token.mark.TheConstants as mark
use Rattle.script_grammar.specs.declared.token.word.TheConstants as word
use Rattle.script_grammar.specs.Lexeme.{Lexeme}
use Rattle.script_grammar.specs.Kinds.{is_mark, is_prefix, is_update, is_assign_mark}
use Rattle.script_grammar.specs.Tree.{Named, Expr}
use Rattle.script_grammar.specs.Tree as tree
use Rattle.script_grammar.specs.Pieces.{Bodies}
use Rattle.grammar_parser_specs.specs.Parser.{Parser, ret, bad, deep, bind, step, when, no_room}
use Rattle.grammar_parser_specs.specs.Exprs
use Rattle.grammar_parser_specs.specs.Exprs.{Env, Call, Calls, BodyParser, AnAssign, APrefix, ANew, AParam, ARest, named, param, is_param_form, calls, no_calls, call_case, begins_assign, begins_word, begins_mark, begins_call, is_atom, is_word_atom, atom_case}
use Rattle.grammar_parser_laws.proofs.Friendly.{AtFront, Inside}
use Rattle.grammar_parser_laws.proofs.Fitting.{all_append, all_mark, all_name, lexeme_of_kind}
use Rattle.grammar_parser_laws.proofs.Tests.{false_true, mark_known, word_known, name_known, or_cases}
use Rattle.grammar_parser_laws.proofs.Sound.{Outcome, Sound, Mended, Behind, outcome_behind, sound_bad, sound_at, sound_peek, at_step, at_when, sound_some, sound_map, sound_inside, sound_made, sound_when, sound_no_room}
use Rattle.grammar_parser_laws.proofs.SoundParts.{IsExpr, IsParam, IsRest, IsItem, SoundEnv, SoundCalls, SoundBody, looser, freed, zero_some, name_sound}
use Rattle.grammar_sound_laws.proofs.SoundFunctions.{param_sound, func_sound}
use Rattle.grammar_sound_laws.proofs.SoundLists.{array_sound, template_sound}
use Rattle.grammar_sound_laws.proofs.SoundObjects.{object_sound}
use Rattle.grammar_sound_laws.proofs.SoundChains.{atom_at, new_sound, prefix_sound, unary_sound, new_behind, unary_behind, update_behind}
use Rattle.grammar_sound_laws.proofs.SoundLevels.{plain_sound}
use Rattle.grammar_sound_laws.proofs.SoundArrows.{paren_sound}
use Rattle.grammar_sound_laws.proofs.SoundHeads.{arrow_sound}
use Rattle.grammar_sound_laws.proofs.Lone.{lone_assign, form_name, form_cases}

-- The parts that begin an expression, with no room after them: some end completes each.

abbrev pub nothing : BodyParser → Env
nothing body = record { sub = λ c. bad; body = body }

module _ (m : Bodies) (d : ℕ) where
  name_param : (t : Lexeme) → t.kind ≡ kind.Name → IsParam m d (t ∷ []) (param (named t) None)
  name_param t e = record { single = refl; proper = tt; fits = all_name d t e }

  name_item : (t : Lexeme) → t.kind ≡ kind.Name → IsItem m d (t ∷ []) (tree.Name (named t))
  name_item t e = record { param = param (named t) None; is = refl; of = name_param t e }

  name_lexeme : Lexeme
  name_lexeme = lexeme_of_kind kind.Name

  param_mend : Mended Inside (IsParam m d)
  unfolding name_lexeme
  param_mend = record { end = name_lexeme ∷ []; of = param (named name_lexeme) None; starts = tt; is = name_param name_lexeme refl }

  rest_behind : (t : Lexeme) → t.kind ≡ kind.Mark mark.ELLIPSIS → Mended Inside (Behind (t ∷ []) (IsRest d))
  unfolding name_lexeme
  rest_behind t e = record { end = name_lexeme ∷ []; of = named name_lexeme; starts = tt; is = all_append (all_mark mark.ELLIPSIS d t e) (all_name d name_lexeme refl) }

  rest_mend : Mended Inside (IsRest d)
  rest_mend = let r = rest_behind (lexeme_of_kind (kind.Mark mark.ELLIPSIS)) refl in record { end = lexeme_of_kind (kind.Mark mark.ELLIPSIS) ∷ r.end; of = r.of; starts = tt; is = r.is }

  no_item : (t u : Lexeme) (ts : List Lexeme) → Outcome Inside (IsItem m d) (IsItem m d) (t ∷ u ∷ ts) (bad (t ∷ u ∷ ts))
  unfolding name_lexeme
  no_item t u ts = record { front = []; split = refl; end = name_lexeme ∷ []; of = tree.Name (named name_lexeme); starts = tt; is = name_item name_lexeme refl }

pub nothing_sound : (m : Bodies) (d : ℕ) (body : BodyParser) → SoundBody m d body → SoundEnv m d (nothing body)
nothing_sound m d body b = record {
  calls = record {
    assign = λ w. sound_bad (zero_some AtFront m w (suc d) 20);
    prefix = sound_bad (zero_some AtFront m false d 6);
    new = sound_bad (zero_some AtFront m false d 3);
    param = sound_bad (param_mend m (suc d));
    rest = sound_bad (rest_mend m (suc d));
    item = λ t u h ts. no_item m (suc d) t u ts;
  };
  body = b;
}

-- what may begin an AssignmentExpression is completed by some end
module _ (m : Bodies) (d : ℕ) (body : BodyParser) (b : SoundBody m d body) (b2 : SoundBody m (suc d) body) (w : Bool) (t : Lexeme) where
  abbrev Begins : Type 0
  Begins = Mended Inside (Behind (t ∷ []) (IsExpr m w d 20))

  begun : (r : ℕ) → r ≤ 20 → Mended Inside (Behind (t ∷ []) (IsExpr m false d r)) → Begins
  begun r h s = record { end = s.end; of = s.of; starts = tt; is = freed (t ∷ s.end) s.of (looser h (t ∷ s.end) s.of s.is) }

  here : SoundEnv m d (nothing body)
  here = nothing_sound m d body b

  below : SoundEnv m (suc d) (nothing body)
  below = nothing_sound m (suc d) body b2

  atom_begun : is_atom t.kind ≡ true → Begins
  atom_begun h = begun 0 (omega arith) (record { end = []; of = atom_case t.kind t; starts = tt; is = atom_at m d t.kind t refl h })

  word_atom_begun : (i : ℕ) → t.kind ≡ kind.Word i → is_word_atom i ≡ true → Begins
  word_atom_begun i e h = atom_begun (ap is_atom e ∙ h)

  function_begun : t.kind ≡ kind.Word word.FUNCTION → Begins
  function_begun e = begun 0 (omega arith) (sound_some (func_sound m d (nothing body) here t e))

  new_begun : t.kind ≡ kind.Word word.NEW → Begins
  new_begun e = begun 3 (omega arith) (sound_some (new_behind m d (nothing body) below (paren_sound m (suc d) (nothing body) below) t e))

  prefix_begun : is_prefix t.kind ≡ true → Begins
  prefix_begun h = begun 6 (omega arith) (sound_some (unary_behind m d (nothing body) below (paren_sound m (suc d) (nothing body) below) t h))

  update_begun : is_update t.kind ≡ true → Begins
  update_begun h = begun 6 (omega arith) (sound_some (update_behind m d (nothing body) below (paren_sound m (suc d) (nothing body) below) t h))

  word_known_as : (i j : ℕ) → t.kind ≡ kind.Word i → nat_eq i j ≡ true → t.kind ≡ kind.Word j
  word_known_as i j e h = e ∙ ap kind.Word (eqb-true i j h)

  mark_known_as : (i j : ℕ) → t.kind ≡ kind.Mark i → nat_eq i j ≡ true → t.kind ≡ kind.Mark j
  mark_known_as i j e h = e ∙ ap kind.Mark (eqb-true i j h)

  word_begun : (i : ℕ) → t.kind ≡ kind.Word i → begins_word i ≡ true → Begins
  word_begun i e h =
      or_cases (nat_eq i word.THIS || nat_eq i word.NULL || nat_eq i word.TRUE || nat_eq i word.FALSE || nat_eq i word.FUNCTION || nat_eq i word.NEW || nat_eq i word.DELETE || nat_eq i word.VOID) (nat_eq i word.TYPEOF) h
      (λ h. or_cases (nat_eq i word.THIS || nat_eq i word.NULL || nat_eq i word.TRUE || nat_eq i word.FALSE || nat_eq i word.FUNCTION || nat_eq i word.NEW || nat_eq i word.DELETE) (nat_eq i word.VOID) h
      (λ h. or_cases (nat_eq i word.THIS || nat_eq i word.NULL || nat_eq i word.TRUE || nat_eq i word.FALSE || nat_eq i word.FUNCTION || nat_eq i word.NEW) (nat_eq i word.DELETE) h
      (λ h. or_cases (nat_eq i word.THIS || nat_eq i word.NULL || nat_eq i word.TRUE || nat_eq i word.FALSE || nat_eq i word.FUNCTION) (nat_eq i word.NEW) h
      (λ h. or_cases (nat_eq i word.THIS || nat_eq i word.NULL || nat_eq i word.TRUE || nat_eq i word.FALSE) (nat_eq i word.FUNCTION) h
      (λ h. word_atom_begun i e h)
      (λ h. function_begun (word_known_as i word.FUNCTION e h)))
      (λ h. new_begun (word_known_as i word.NEW e h)))
      (λ h. prefix_begun (ap is_prefix (word_known_as i word.DELETE e h))))
      (λ h. prefix_begun (ap is_prefix (word_known_as i word.VOID e h))))
      (λ h. prefix_begun (ap is_prefix (word_known_as i word.TYPEOF e h)))

  paren_begun : t.kind ≡ kind.Mark mark.OPEN_PAREN → Begins
  paren_begun e = begun 0 (omega arith) (sound_some (paren_sound m d (nothing body) here false t e))

  array_begun : t.kind ≡ kind.Mark mark.OPEN_BRACKET → Begins
  array_begun e = begun 0 (omega arith) (sound_some (array_sound m d (nothing body) here t e))

  object_begun : t.kind ≡ kind.Mark mark.OPEN_BRACE → Begins
  object_begun e = begun 0 (omega arith) (sound_some (object_sound m d (nothing body) here t e))

  template_begun : t.kind ≡ kind.TemplateHead → Begins
  template_begun e = begun 0 (omega arith) (sound_some (template_sound m d (nothing body) here t e))

  mark_begun : (i : ℕ) → t.kind ≡ kind.Mark i → begins_mark i ≡ true → Begins
  mark_begun i e h =
      or_cases (nat_eq i mark.OPEN_PAREN || nat_eq i mark.OPEN_BRACKET || nat_eq i mark.OPEN_BRACE || nat_eq i mark.PLUS || nat_eq i mark.MINUS || nat_eq i mark.NOT || nat_eq i mark.BIT_NOT || nat_eq i mark.INCREMENT) (nat_eq i mark.DECREMENT) h
      (λ h. or_cases (nat_eq i mark.OPEN_PAREN || nat_eq i mark.OPEN_BRACKET || nat_eq i mark.OPEN_BRACE || nat_eq i mark.PLUS || nat_eq i mark.MINUS || nat_eq i mark.NOT || nat_eq i mark.BIT_NOT) (nat_eq i mark.INCREMENT) h
      (λ h. or_cases (nat_eq i mark.OPEN_PAREN || nat_eq i mark.OPEN_BRACKET || nat_eq i mark.OPEN_BRACE || nat_eq i mark.PLUS || nat_eq i mark.MINUS || nat_eq i mark.NOT) (nat_eq i mark.BIT_NOT) h
      (λ h. or_cases (nat_eq i mark.OPEN_PAREN || nat_eq i mark.OPEN_BRACKET || nat_eq i mark.OPEN_BRACE || nat_eq i mark.PLUS || nat_eq i mark.MINUS) (nat_eq i mark.NOT) h
      (λ h. or_cases (nat_eq i mark.OPEN_PAREN || nat_eq i mark.OPEN_BRACKET || nat_eq i mark.OPEN_BRACE || nat_eq i mark.PLUS) (nat_eq i mark.MINUS) h
      (λ h. or_cases (nat_eq i mark.OPEN_PAREN || nat_eq i mark.OPEN_BRACKET || nat_eq i mark.OPEN_BRACE) (nat_eq i mark.PLUS) h
      (λ h. or_cases (nat_eq i mark.OPEN_PAREN || nat_eq i mark.OPEN_BRACKET) (nat_eq i mark.OPEN_BRACE) h
      (λ h. or_cases (nat_eq i mark.OPEN_PAREN) (nat_eq i mark.OPEN_BRACKET) h
      (λ h. paren_begun (mark_known_as i mark.OPEN_PAREN e h))
      (λ h. array_begun (mark_known_as i mark.OPEN_BRACKET e h)))
      (λ h. object_begun (mark_known_as i mark.OPEN_BRACE e h)))
      (λ h. prefix_begun (ap is_prefix (mark_known_as i mark.PLUS e h))))
      (λ h. prefix_begun (ap is_prefix (mark_known_as i mark.MINUS e h))))
      (λ h. prefix_begun (ap is_prefix (mark_known_as i mark.NOT e h))))
      (λ h. prefix_begun (ap is_prefix (mark_known_as i mark.BIT_NOT e h))))
      (λ h. update_begun (ap is_update (mark_known_as i mark.INCREMENT e h))))
      (λ h. update_begun (ap is_update (mark_known_as i mark.DECREMENT e h)))

  pub assign_begun : (k : Kind) → t.kind ≡ k → begins_assign k ≡ true → Begins
  assign_begun kind.Name e h = atom_begun (ap is_atom e)
  assign_begun kind.Number e h = atom_begun (ap is_atom e)
  assign_begun kind.Str e h = atom_begun (ap is_atom e)
  assign_begun kind.TemplateWhole e h = atom_begun (ap is_atom e)
  assign_begun kind.TemplateHead e h = template_begun e
  assign_begun (kind.Word i) e h = word_begun i e h
  assign_begun (kind.Mark i) e h = mark_begun i e h
  assign_begun kind.TemplateMiddle e h = absurd (false_true h)
  assign_begun kind.TemplateTail e h = absurd (false_true h)
  assign_begun kind.Bad e h = absurd (false_true h)
  assign_begun kind.End e h = absurd (false_true h)

-- an item of the form of a parameter

module _ (m : Bodies) (d : ℕ) (v : Env) (s : SoundEnv m d v) where
  assign_item : (t u : Lexeme) → t.kind ≡ kind.Name → (w : List Lexeme) (e : Expr) → u.kind ≡ kind.Mark mark.ASSIGN → IsExpr m true (suc d) 20 w e → IsItem m d (t ∷ u ∷ w) (tree.Assign mark.ASSIGN (tree.Name (named t)) e)
  assign_item t u n w e k q = record { param = param (named t) (Some e); is = refl; of = record { single = refl; proper = (q.rank_le, q.proper); fits = all_append (all_name d t n) (all_append (all_mark mark.ASSIGN d u k) q.fits) } }

  lone_tail : (t u : Lexeme) → t.kind ≡ kind.Name → (ts : List Lexeme) → is_assign_mark u.kind ≡ false → Outcome Inside (IsItem m d) (IsItem m d) (t ∷ u ∷ ts) (Exprs.assign_tail v true (tree.Name (named t)) (u ∷ ts))
  unfolding Exprs.assign_tail
  lone_tail t u n ts h = rw h (record { front = t ∷ []; split = refl; some = tt; is = name_item m d t n })

  value_tail : (t u : Lexeme) → t.kind ≡ kind.Name → u.kind ≡ kind.Mark mark.ASSIGN → Sound Inside (Behind (t ∷ u ∷ []) (IsItem m d)) (bind (v.sub (AnAssign true)) (λ x. ret (tree.Assign mark.ASSIGN (tree.Name (named t)) x)))
  value_tail t u n k = sound_made (λ x. tree.Assign mark.ASSIGN (tree.Name (named t)) x) (sound_inside (s.calls.assign true)) (λ w e q. assign_item t u n w e k q)

  valued_tail : (t u : Lexeme) → t.kind ≡ kind.Name → u.kind ≡ kind.Mark mark.ASSIGN → (ts : List Lexeme) → Outcome Inside (IsItem m d) (IsItem m d) (t ∷ u ∷ ts) (Exprs.assign_tail v true (tree.Name (named t)) (u ∷ ts))
  unfolding Exprs.assign_tail
  valued_tail t u n k ts =
      let e : Expr = tree.Name (named t) in
      let read : Parser Expr = bind (v.sub (AnAssign true)) (λ x. ret (tree.Assign mark.ASSIGN e x)) in
      subst (λ r. Outcome Inside (IsItem m d) (IsItem m d) (t ∷ u ∷ ts) r)
      (sym (ap (λ k. when (is_assign_mark k && true) (step (bind (v.sub (AnAssign true)) (λ x. ret (tree.Assign (Exprs.mark_of k) e x)))) (ret e) (u ∷ ts)) k))
      (outcome_behind Inside (IsItem m d) (IsItem m d) (t ∷ u ∷ []) (t ∷ u ∷ ts) ts tt refl (read ts) ((value_tail t u n k).at ts))

  item_tail : (t u : Lexeme) → is_param_form t u ≡ true → (ts : List Lexeme) → Outcome Inside (IsItem m d) (IsItem m d) (t ∷ u ∷ ts) (Exprs.assign_tail v true (tree.Name (named t)) (u ∷ ts))
  item_tail t u h ts =
      let n = form_name t u h in
      form_cases t u h
      (λ e. lone_tail t u n ts (ap is_assign_mark e))
      (λ e. lone_tail t u n ts (ap is_assign_mark e))
      (λ e. valued_tail t u n e ts)

  pub item_sound : (t u : Lexeme) → is_param_form t u ≡ true → (ts : List Lexeme) → Outcome Inside (IsItem m d) (IsItem m d) (t ∷ u ∷ ts) (Exprs.assign_of v true (t ∷ u ∷ ts))
  item_sound t u h ts = subst (λ r. Outcome Inside (IsItem m d) (IsItem m d) (t ∷ u ∷ ts) r) (sym (lone_assign v true t u ts h)) (item_tail t u h ts)

-- the calls, by the room

begins_end : (w : Bool) → begins_call (AnAssign w) kind.End ≡ false
begins_end w = refl

either_begun : (m : Bodies) (d : ℕ) (body : BodyParser) → SoundBody m (suc d) body → (t : Lexeme) → (is_prefix t.kind || is_update t.kind) ≡ true → Mended Inside (Behind (t ∷ []) (IsExpr m false d 6))
either_begun m d body b t h =
    let below = nothing_sound m (suc d) body b in
    or_cases (is_prefix t.kind) (is_update t.kind) h
    (λ h. sound_some (unary_behind m d (nothing body) below (paren_sound m (suc d) (nothing body) below) t h))
    (λ h. sound_some (update_behind m d (nothing body) below (paren_sound m (suc d) (nothing body) below) t h))

no_room_item : (m : Bodies) (d : ℕ) (t u : Lexeme) → is_param_form t u ≡ true → (ts : List Lexeme) → Outcome Inside (IsItem m (suc d)) (IsItem m (suc d)) (t ∷ u ∷ ts) (no_room (begins_call (AnAssign true)) (t ∷ u ∷ ts))
no_room_item m d t u h ts =
    subst (λ b. Outcome Inside (IsItem m (suc d)) (IsItem m (suc d)) (t ∷ u ∷ ts) (when b deep bad (t ∷ u ∷ ts))) (sym (ap begins_assign (form_name t u h)))
    (record { front = []; split = refl; token = t; behind = u ∷ ts; first = refl; end = []; of = tree.Name (named t); is = name_item m (suc d) t (form_name t u h) })

-- without room
pub no_calls_sound : (m : Bodies) (body : BodyParser) → ((d : ℕ) → SoundBody m d body) → (d : ℕ) → SoundCalls m d no_calls
no_calls_sound m body b d = record {
  assign = λ w. sound_no_room (begins_call (AnAssign w)) refl (zero_some AtFront m w (suc d) 20) (λ t h. assign_begun m (suc d) body (b (suc d)) (b (suc (suc d))) w t t.kind refl h);
  prefix = sound_no_room (begins_call APrefix) refl (zero_some AtFront m false d 6) (λ t h. either_begun m d body (b (suc d)) t h);
  new = sound_no_room (begins_call ANew) refl (zero_some AtFront m false d 3) (λ t h. let below = nothing_sound m (suc d) body (b (suc d)) in sound_some (new_behind m d (nothing body) below (paren_sound m (suc d) (nothing body) below) t (word_known word.NEW t.kind h)));
  param = sound_no_room (begins_call AParam) refl (param_mend m (suc d)) (λ t h. record { end = []; of = param (named t) None; starts = tt; is = name_param m (suc d) t (name_known t.kind h) });
  rest = sound_no_room (begins_call ARest) refl (rest_mend m (suc d)) (λ t h. rest_behind m (suc d) t (mark_known mark.ELLIPSIS t.kind h));
  item = no_room_item m d;
}

module _ (m : Bodies) where
  assign_sound : (d : ℕ) (v : Env) → SoundEnv m d v → (w : Bool) → Sound AtFront (IsExpr m w d 20) (Exprs.assign_of v w)
  unfolding Exprs.assign_of
  assign_sound d v s w = record { at = λ ts. (sound_when (Exprs.is_arrow_head ts) (λ _. arrow_sound m d v s w) (λ _. plain_sound m d v s (unary_sound m d v s (paren_sound m d v s)) w)).at ts }

  arrow_param_sound : (d : ℕ) (v : Env) → SoundEnv m d v → Sound Inside (IsParam m d) (Exprs.arrow_param v)
  unfolding Exprs.arrow_param
  arrow_param_sound d v s = param_sound m d v s

  arrow_rest_sound : (d : ℕ) → Sound Inside (IsRest d) Exprs.arrow_rest
  unfolding Exprs.arrow_rest
  arrow_rest_sound d = sound_peek (λ t. at_when (is_mark mark.ELLIPSIS t.kind) (λ e. at_step t (sound_map (λ u n h. all_append (all_mark mark.ELLIPSIS d t (mark_known mark.ELLIPSIS t.kind e)) h) (name_sound d))) (λ _. sound_at t (sound_bad (rest_mend m d)))) (sound_bad (rest_mend m d))

  -- with room for one more
  pub case_sound : (d : ℕ) (v : Env) → SoundEnv m (suc d) v → SoundCalls m d (call_case v)
  case_sound d v s = record {
    assign = λ w. assign_sound (suc d) v s w;
    prefix = prefix_sound m d v s (paren_sound m (suc d) v s);
    new = new_sound m d v s (paren_sound m (suc d) v s);
    param = arrow_param_sound (suc d) v s;
    rest = arrow_rest_sound (suc d);
    item = item_sound m (suc d) v s;
  }

-- with whatever room for depth
pub calls_sound : (m : Bodies) (body : ℕ → BodyParser) → ((room d : ℕ) → SoundBody m d (body room)) → (room d : ℕ) → SoundCalls m d (calls body room)
unfolding calls
calls_sound m body b zero d = no_calls_sound m (body zero) (b zero) d
calls_sound m body b (suc room) d = case_sound m d (record { sub = calls body room; body = body room }) (record { calls = calls_sound m body b room (suc d); body = b room (suc d) })
