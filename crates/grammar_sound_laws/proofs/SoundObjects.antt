-- Properties and object literals: what is read fits its places, and faults can be mended.
use Rattle.std.proofs.Common.{◌≡◌, ℕ, suc, List, [], ◌∷◌, ◌++◌, refl, sym, arith, append_assoc, Bool, true, false, None}
use Rattle.script_grammar.specs.declared.token.Kind.{Kind}
use Rattle.script_grammar.specs.declared.token.Kind.TheVariants as kind
use Rattle.script_grammar.specs.declared.token.FuncForm.{FuncForm}
use Rattle.script_grammar.specs.declared.token.FuncForm.TheVariants as form
use Rattle.script_grammar.specs.declared.token.mark.TheConstants as mark
use Rattle.script_grammar.specs.Lexeme.{Lexeme, Role, get_role, set_role}
use Rattle.script_grammar.specs.Kinds.{is_mark, is_name, is_str, is_number, is_any_word, is_get, is_set}
use Rattle.script_grammar.specs.Tree.{Named, Expr, Key, Prop, Function, function}
use Rattle.script_grammar.specs.Tree as tree
use Rattle.script_grammar.specs.TreeLists.{props_of}
use Rattle.script_grammar.specs.Pieces.{Bodies, mark_piece, comma_piece}
use Rattle.script_grammar.specs.Print.{print_key, print_prop, print_props, print_more_props}
use Rattle.script_grammar.specs.Proper.{ProperKey, ProperProp, ProperProps, HasProps, IsNamelessOf}
use Rattle.grammar_parser_specs.specs.Parser.{Parser, ret, bind, Turn, Again, Stop, loop, Many, stopped, begun, led}
use Rattle.grammar_parser_specs.specs.Exprs
use Rattle.grammar_parser_specs.specs.Exprs.{Env, AnAssign, expect, named, begins_value, ends_key}
use Rattle.grammar_parser_laws.proofs.Friendly.{Inside}
use Rattle.grammar_parser_laws.proofs.Fitting.{FitsAll, all_none, all_append, all_mark, all_placed, all_name, all_any_word, all_text, all_number, all_role, all_same, lexeme_of_kind, zero_lexeme}
use Rattle.grammar_parser_laws.proofs.Tests.{false_true, mark_known, name_known, str_known, number_known}
use Rattle.grammar_parser_laws.proofs.Sound.{Sound, Mended, Behind, sound_bind, sound_ret, sound_bad, sound_at, sound_peek, at_step, at_when, sound_inside, sound_loop, sound_made, sound_when}
use Rattle.grammar_parser_laws.proofs.SoundParts.{IsExpr, SoundEnv, zero_is, expect_sound}
use Rattle.grammar_sound_laws.proofs.SoundFunctions.{IsFunctionOf, function_sound}

module _ (m : Bodies) (d : ℕ) where
  pub record IsKey (u : List Lexeme) (k : Key) : Type 0 where
    pub proper : ProperKey m k
    pub fits : FitsAll (print_key m d k) u

  pub record IsProp (u : List Lexeme) (p : Prop) : Type 0 where
    pub proper : ProperProp m p
    pub fits : FitsAll (print_prop m d p) u

  -- properties after the opening brace

  abbrev pub PropsTurn : List Lexeme → Turn Prop Bool → Type 0
  PropsTurn u (Again p) = ProperProp m p × FitsAll (mark_piece mark.COMMA d ∷ print_prop m d p) u
  PropsTurn u (Stop b) = FitsAll (comma_piece b d) u

  pub record PropsRest (u : List Lexeme) (n : Many Prop Bool) : Type 0 where
    pub proper : ProperProps m (props_of n.items)
    pub fits : FitsAll (print_more_props m d (props_of n.items) ++ comma_piece n.last d) u

  pub record PropsMany (u : List Lexeme) (n : Many Prop Bool) : Type 0 where
    pub proper : ProperProps m (props_of n.items)
    pub has : n.last ≡ true → HasProps (props_of n.items)
    pub fits : FitsAll (print_props m d (props_of n.items) ++ comma_piece n.last d) u

  nameless : (f : FuncForm) (x : Function) (v : Env) (s : SoundEnv m d v) (u : List Lexeme) → IsFunctionOf m d v s f None u x → IsNamelessOf f x
  nameless f (function g start end name ps comma bare body) v s u h = h.of

  word_key : (n : Lexeme) → is_any_word n.kind ≡ true → IsKey (n ∷ []) (tree.WordKey (named n))
  word_key n e = record { proper = tt; fits = all_any_word d n e }

  name_word : (k : Kind) → k ≡ kind.Name → is_any_word k ≡ true
  name_word k e = rw e refl

  module _ (v : Env) (s : SoundEnv m d v) where
    zero_key : Mended Inside IsKey
    zero_key = record { end = zero_lexeme ∷ []; of = tree.NumberKey 0 0; starts = tt; is = record { proper = tt; fits = all_number d zero_lexeme refl } }

    computed_sound : (t : Lexeme) → t.kind ≡ kind.Mark mark.OPEN_BRACKET → Sound Inside (Behind (t ∷ []) IsKey) (Exprs.computed_of v)
    unfolding Exprs.computed_of
    computed_sound t e = sound_bind (sound_inside (s.calls.assign true)) (λ u a q. sound_made (λ _. tree.ComputedKey a) (expect_sound mark.CLOSE_BRACKET d) (λ x _ c. record { proper = (q.rank_le, q.proper); fits = all_append (all_mark mark.OPEN_BRACKET d t e) (all_append q.fits c) }))

    key_sound : Sound Inside IsKey (Exprs.key_of v)
    unfolding Exprs.key_of
    key_sound = sound_peek (λ t.
        at_when (is_any_word t.kind) (λ e. at_step t (sound_ret {a = tree.WordKey (named t)} (word_key t e))) (λ _.
        at_when (is_str t.kind) (λ e. at_step t (sound_ret {a = tree.StrKey (named t)} (record { proper = tt; fits = all_text kind.Str d t (str_known t.kind e) }))) (λ _.
        at_when (is_number t.kind) (λ e. at_step t (sound_ret {a = tree.NumberKey t.start t.number} (record { proper = tt; fits = all_number d t (number_known t.kind e) }))) (λ _.
        at_when (is_mark mark.OPEN_BRACKET t.kind) (λ e. at_step t (computed_sound t (mark_known mark.OPEN_BRACKET t.kind e))) (λ _. sound_at t (sound_bad zero_key)))))) (sound_bad zero_key)

    -- after a key

    colon : Lexeme
    colon = lexeme_of_kind (kind.Mark mark.COLON)

    pair_some : (w : List Lexeme) (k : Key) → IsKey w k → Mended Inside (Behind w IsProp)
    unfolding colon
    pair_some w k h = record { end = colon ∷ zero_lexeme ∷ []; of = tree.Pair k (tree.Number 0 0); starts = tt; is = record { proper = (h.proper, omega arith, tt); fits = all_append h.fits (all_append (all_mark mark.COLON d colon refl) (zero_is m true (suc d) 0).fits) } }

    value_sound : (w : List Lexeme) (k : Key) → IsKey w k → (t : Lexeme) → t.kind ≡ kind.Mark mark.COLON → Sound Inside (Behind (t ∷ []) (Behind w IsProp)) (bind (v.sub (AnAssign true)) (λ e. ret (tree.Pair k e)))
    value_sound w k h t e = sound_made (λ a. tree.Pair k a) (sound_inside (s.calls.assign true)) (λ u a q. record { proper = (h.proper, q.rank_le, q.proper); fits = all_append h.fits (all_append (all_mark mark.COLON d t e) q.fits) })

    keyed_sound : (w : List Lexeme) (k : Key) → IsKey w k → Sound Inside (Behind w IsProp) (Exprs.keyed_of v k)
    unfolding Exprs.keyed_of
    keyed_sound w k h =
        let method : Sound Inside (Behind w IsProp) (bind (Exprs.function_of v form.Method None) (λ f. ret (tree.Method k f))) = sound_made (λ f. tree.Method k f) (function_sound m d v s form.Method None tt) (λ u f r. record { proper = (h.proper, nameless form.Method f v s u r, r.proper); fits = all_append h.fits r.fits }) in
        sound_peek (λ t.
        at_when (is_mark mark.COLON t.kind) (λ e. at_step t (value_sound w k h t (mark_known mark.COLON t.kind e))) (λ _.
        at_when (is_mark mark.OPEN_PAREN t.kind) (λ _. sound_at t method) (λ _. sound_at t (sound_bad (pair_some w k h))))) (sound_bad (pair_some w k h))

    short_sound : (n : Lexeme) → n.kind ≡ kind.Name → Sound Inside (Behind (n ∷ []) IsProp) (Exprs.short_of v (named n))
    unfolding Exprs.short_of
    short_sound n e =
        let short : Sound Inside (Behind (n ∷ []) IsProp) (ret (tree.Short (named n))) = sound_ret (record { proper = tt; fits = all_name d n e }) in
        sound_peek (λ t. at_when (begins_value t.kind) (λ _. sound_at t (keyed_sound (n ∷ []) (tree.WordKey (named n)) (word_key n (name_word n.kind e)))) (λ _. sound_at t short)) short

    getter_sound : (n : Lexeme) → n.kind ≡ kind.Name → n.role ≡ get_role → Sound Inside (Behind (n ∷ []) IsProp) (Exprs.getter_of v)
    unfolding Exprs.getter_of
    getter_sound n e r = sound_bind key_sound (λ u k h. sound_made (λ f. tree.Get k f) (function_sound m d v s form.Getter None tt) (λ x f q. record { proper = (h.proper, nameless form.Getter f v s x q, q.proper); fits = all_append (all_role get_role d n e r) (all_append h.fits q.fits) }))

    setter_sound : (n : Lexeme) → n.kind ≡ kind.Name → n.role ≡ set_role → Sound Inside (Behind (n ∷ []) IsProp) (Exprs.setter_of v)
    unfolding Exprs.setter_of
    setter_sound n e r = sound_bind key_sound (λ u k h. sound_made (λ f. tree.Set k f) (function_sound m d v s form.Setter None tt) (λ x f q. record { proper = (h.proper, nameless form.Setter f v s x q, q.proper); fits = all_append (all_role set_role d n e r) (all_append h.fits q.fits) }))

    accessor_sound : (n : Lexeme) → n.kind ≡ kind.Name → (f : Parser Prop) → Sound Inside (Behind (n ∷ []) IsProp) f → Sound Inside (Behind (n ∷ []) IsProp) (Exprs.accessor_of v (named n) f)
    unfolding Exprs.accessor_of
    accessor_sound n e f h = sound_peek (λ t. at_when (ends_key t.kind) (λ _. sound_at t (short_sound n e)) (λ _. sound_at t h)) h

    get_known : (r : Role) → is_get r ≡ true → r ≡ get_role
    get_known get_role e = refl
    get_known _ e = absurd (false_true e)

    set_known : (r : Role) → is_set r ≡ true → r ≡ set_role
    set_known set_role e = refl
    set_known _ e = absurd (false_true e)

    name_prop_sound : (n : Lexeme) → n.kind ≡ kind.Name → Sound Inside (Behind (n ∷ []) IsProp) (Exprs.name_prop v n)
    name_prop_sound n e =
        sound_when (is_get n.role) (λ h. accessor_sound n e (Exprs.getter_of v) (getter_sound n e (get_known n.role h))) (λ _.
        sound_when (is_set n.role) (λ h. accessor_sound n e (Exprs.setter_of v) (setter_sound n e (set_known n.role h))) (λ _. short_sound n e))

    prop_sound : Sound Inside IsProp (Exprs.prop_of v)
    unfolding Exprs.prop_of
    prop_sound =
        let keyed : Sound Inside IsProp (bind (Exprs.key_of v) (Exprs.keyed_of v)) = sound_bind key_sound keyed_sound in
        sound_peek (λ t. at_when (is_name t.kind) (λ e. at_step t (name_prop_sound t (name_known t.kind e))) (λ _. sound_at t keyed)) keyed

    props_next_sound : (t : Lexeme) → t.kind ≡ kind.Mark mark.COMMA → Sound Inside (Behind (t ∷ []) PropsTurn) (Exprs.props_next v)
    unfolding Exprs.props_next
    props_next_sound t e =
        let c : FitsAll (comma_piece true d) (t ∷ []) = all_mark mark.COMMA d t e in
        let item : Sound Inside (Behind (t ∷ []) PropsTurn) (bind (Exprs.prop_of v) (λ p. ret (Again p))) = sound_made Again prop_sound (λ u p q. (q.proper, all_append c q.fits)) in
        sound_peek (λ x. at_when (is_mark mark.CLOSE_BRACE x.kind) (λ _. sound_at x (sound_ret {a = Stop true} c)) (λ _. sound_at x item)) item

    props_turn_sound : Sound Inside PropsTurn (Exprs.props_turn v)
    unfolding Exprs.props_turn
    props_turn_sound = sound_peek (λ t. at_when (is_mark mark.COMMA t.kind) (λ e. at_step t (props_next_sound t (mark_known mark.COMMA t.kind e))) (λ _. sound_at t (sound_ret {a = Stop false} all_none))) (sound_ret {a = Stop false} all_none)

    props_loop_sound : Sound Inside PropsRest (loop (Exprs.props_turn v))
    props_loop_sound = sound_loop PropsTurn PropsRest (Exprs.props_turn v) props_turn_sound
        (λ u b q. record { proper = tt; fits = q })
        (λ u x p n q r. record { proper = (q.0, r.proper); fits = all_same (sym (append_assoc (mark_piece mark.COMMA d ∷ print_prop m d p) (print_more_props m d (props_of n.items)) (comma_piece n.last d))) (all_append q.1 r.fits) })
        (record { end = []; of = stopped false; starts = tt; is = record { proper = tt; fits = all_none } })

    more_props_sound : Sound Inside PropsMany (Exprs.more_props v)
    unfolding Exprs.more_props
    more_props_sound =
        let all : Sound Inside PropsMany (bind (Exprs.prop_of v) (led (Exprs.props_turn v))) = sound_bind prop_sound (λ u p q. sound_made (begun p) props_loop_sound (λ x n r. record { proper = (q.proper, r.proper); has = λ _. tt; fits = all_same (sym (append_assoc (print_prop m d p) (print_more_props m d (props_of n.items)) (comma_piece n.last d))) (all_append q.fits r.fits) })) in
        sound_peek (λ t. at_when (is_mark mark.CLOSE_BRACE t.kind) (λ _. sound_at t (sound_ret {a = stopped false} (record { proper = tt; has = λ e. absurd (false_true e); fits = all_none }))) (λ _. sound_at t all)) all

    pub object_sound : (t : Lexeme) → t.kind ≡ kind.Mark mark.OPEN_BRACE → Sound Inside (Behind (t ∷ []) (IsExpr m false d 0)) (Exprs.object_of v t.start)
    unfolding Exprs.object_of
    object_sound t e = sound_bind more_props_sound (λ u n r. sound_made (λ _. tree.Object t.start (props_of n.items) n.last) (expect_sound mark.CLOSE_BRACE d) (λ x _ c. record {
      rank_le = omega arith;
      proper = (r.has, r.proper);
      in_if = refl;
      fits = all_append (all_placed (kind.Mark mark.OPEN_BRACE) d t e) (all_same (append_assoc (print_props m d (props_of n.items)) (comma_piece n.last d) (mark_piece mark.CLOSE_BRACE d ∷ [])) (all_append r.fits c));
    }))
