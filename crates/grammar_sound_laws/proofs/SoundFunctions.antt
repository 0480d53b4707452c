-- Parameters and functions that are no arrows: what is read fits its places, and faults can be mended.
use Rattle.std.proofs.Common.{◌≡◌, ℕ, List, [], ◌∷◌, ◌++◌, refl, sym, ap, ◌∙◌, subst, arith, append_assoc, append-nil, Bool, true, false, Option, Some, None}
use Rattle.script_grammar.specs.declared.token.Kind.TheVariants as kind
use Rattle.script_grammar.specs.declared.token.FuncForm.{FuncForm}
use Rattle.script_grammar.specs.declared.token.FuncForm.TheVariants as form
use Rattle.script_grammar.specs.declared.token.mark.TheConstants as mark
use Rattle.script_grammar.specs.declared.token.word.TheConstants as word
use Rattle.script_grammar.specs.Lexeme.{Lexeme}
use Rattle.script_grammar.specs.Kinds.{is_mark, is_name, is_arrow_form}
use Rattle.script_grammar.specs.Tree.{Named, Expr, MaybeExpr, no_expr, some_expr, Params, no_params, more_params, Function, function, Body, Stmts}
use Rattle.script_grammar.specs.Tree as tree
use Rattle.script_grammar.specs.TreeLists.{Param, params_of, maybe_expr_of}
use Rattle.script_grammar.specs.Pieces.{Bodies, Piece, mark_piece, comma_piece, name_piece}
use Rattle.script_grammar.specs.Print.{print_params, print_more_params, print_initializer, parenthesized, print_function, print_body, ellipsis, print_name}
use Rattle.script_grammar.specs.Proper.{ProperMaybe, ProperParams, ProperFunction, AreParams, SuitsForm, IsOneParam, function_free}
use Rattle.script_grammar.specs.Script.{IsOf}
use Rattle.grammar_parser_specs.specs.Parser.{Parser, ret, bind, Turn, Again, Stop, loop, Many, stopped, begun}
use Rattle.grammar_parser_specs.specs.Exprs
use Rattle.grammar_parser_specs.specs.Exprs.{Env, AnAssign, ParamsEnd, Plain, Trailing, Rest, Head, BodyRead, expect, name_of, named, param, rest_param, ended_params, is_trailing, head_case, function_case, is_simple}
use Rattle.grammar_parser_laws.proofs.Friendly.{Inside}
use Rattle.grammar_parser_laws.proofs.Fitting.{FitsAll, all_none, all_append, all_mark, all_placed, all_name, all_same, lexeme_of_kind}
use Rattle.grammar_parser_laws.proofs.Tests.{mark_known, name_known}
use Rattle.grammar_parser_laws.proofs.Sound.{Sound, Mended, Behind, sound_bind, sound_ret, sound_bad, sound_at, sound_peek, at_step, at_when, sound_done, sound_some, sound_map, sound_inside, sound_loop, sound_made}
use Rattle.grammar_parser_laws.proofs.SoundParts.{IsExpr, IsParam, IsRest, IsBraced, print_param, SoundEnv, IsMark, expect_sound, name_sound}

module _ (m : Bodies) where
  -- how a list of parameters ends after a parameter; the first number is the depth of a parameter, the second of a comma
  abbrev pub next_end : ℕ → ℕ → ParamsEnd → List Piece
  next_end q d Plain = []
  next_end q d Trailing = mark_piece mark.COMMA d ∷ []
  next_end q d (Rest n) = mark_piece mark.COMMA d ∷ mark_piece mark.ELLIPSIS q ∷ name_piece n q ∷ []

  abbrev pub next_pieces : ℕ → ℕ → List Param → List Piece
  next_pieces q d [] = []
  next_pieces q d (p ∷ ps) = mark_piece mark.COMMA d ∷ (print_param m q p ++ next_pieces q d ps)

  param_before : (q : ℕ) (p : Param) (xs : List Piece) → ellipsis p.rest q ++ (name_piece p.name q ∷ (print_initializer m q (maybe_expr_of p.value) ++ xs)) ≡ print_param m q p ++ xs
  param_before q p xs = sym (append_assoc (ellipsis p.rest q) (name_piece p.name q ∷ print_initializer m q (maybe_expr_of p.value)) xs)

  pub more_print : (q d : ℕ) (ps : List Param) (e : ParamsEnd) → print_more_params m q d (params_of (ended_params ps e)) ++ comma_piece (is_trailing e) d ≡ next_pieces q d ps ++ next_end q d e
  more_print q d [] Plain = refl
  more_print q d [] Trailing = refl
  more_print q d [] (Rest n) = refl
  more_print q d (p ∷ ps) Plain = ap (λ x. mark_piece mark.COMMA d ∷ x) (ap (λ x. x ++ []) (param_before q p (print_more_params m q d (params_of ps))) ∙ append_assoc (print_param m q p) (print_more_params m q d (params_of ps)) [] ∙ ap (λ x. print_param m q p ++ x) (more_print q d ps Plain) ∙ sym (append_assoc (print_param m q p) (next_pieces q d ps) []))
  more_print q d (p ∷ ps) Trailing = ap (λ x. mark_piece mark.COMMA d ∷ x) (ap (λ x. x ++ (mark_piece mark.COMMA d ∷ [])) (param_before q p (print_more_params m q d (params_of ps))) ∙ append_assoc (print_param m q p) (print_more_params m q d (params_of ps)) (mark_piece mark.COMMA d ∷ []) ∙ ap (λ x. print_param m q p ++ x) (more_print q d ps Trailing) ∙ sym (append_assoc (print_param m q p) (next_pieces q d ps) (next_end q d Trailing)))
  more_print q d (p ∷ ps) (Rest n) = ap (λ x. mark_piece mark.COMMA d ∷ x) (ap (λ x. x ++ []) (param_before q p (print_more_params m q d (params_of (ps ++ rest_param n ∷ [])))) ∙ append_assoc (print_param m q p) (print_more_params m q d (params_of (ps ++ rest_param n ∷ []))) [] ∙ ap (λ x. print_param m q p ++ x) (more_print q d ps (Rest n)) ∙ sym (append_assoc (print_param m q p) (next_pieces q d ps) (next_end q d (Rest n))))

  -- the first parameter and the others, with the comma at the end
  pub first_print : (q d : ℕ) (p : Param) (ps : List Param) (e : ParamsEnd) → print_params m q d (params_of (ended_params (p ∷ ps) e)) ++ comma_piece (is_trailing e) d ≡ print_param m q p ++ (next_pieces q d ps ++ next_end q d e)
  first_print q d p ps Plain = ap (λ x. x ++ []) (param_before q p (print_more_params m q d (params_of ps))) ∙ append_assoc (print_param m q p) (print_more_params m q d (params_of ps)) [] ∙ ap (λ x. print_param m q p ++ x) (more_print q d ps Plain)
  first_print q d p ps Trailing = ap (λ x. x ++ (mark_piece mark.COMMA d ∷ [])) (param_before q p (print_more_params m q d (params_of ps))) ∙ append_assoc (print_param m q p) (print_more_params m q d (params_of ps)) (mark_piece mark.COMMA d ∷ []) ∙ ap (λ x. print_param m q p ++ x) (more_print q d ps Trailing)
  first_print q d p ps (Rest n) = ap (λ x. x ++ []) (param_before q p (print_more_params m q d (params_of (ps ++ rest_param n ∷ [])))) ∙ append_assoc (print_param m q p) (print_more_params m q d (params_of (ps ++ rest_param n ∷ []))) [] ∙ ap (λ x. print_param m q p ++ x) (more_print q d ps (Rest n))

  -- parameters that are no rest parameters
  abbrev pub AreSingle : List Param → Type 0
  AreSingle [] = Unit {0}
  AreSingle (p ∷ ps) = (p.rest ≡ false) × AreSingle ps

  abbrev pub AreProper : List Param → Type 0
  AreProper [] = Unit {0}
  AreProper (p ∷ ps) = ProperMaybe m (maybe_expr_of p.value) × AreProper ps

  pub all_proper : (ps : List Param) (e : ParamsEnd) → AreProper ps → ProperParams m (params_of (ended_params ps e))
  all_proper [] Plain h = tt
  all_proper [] Trailing h = tt
  all_proper [] (Rest n) h = (tt, tt)
  all_proper (p ∷ ps) Plain h = (h.0, all_proper ps Plain h.1)
  all_proper (p ∷ ps) Trailing h = (h.0, all_proper ps Trailing h.1)
  all_proper (p ∷ ps) (Rest n) h = (h.0, all_proper ps (Rest n) h.1)

  last_single : (n : Named) (o : Option Expr) (r : Bool) (c : Bool) → r ≡ false → AreParams (more_params n (maybe_expr_of o) r no_params) c
  last_single n None false c h = tt
  last_single n (Some e) false c h = tt
  last_single n o true c h = absurd (cc)

  more_single : (n : Named) (o : Option Expr) (r : Bool) (c : Bool) (n2 : Named) (v2 : MaybeExpr) (r2 : Bool) (ps : Params) → r ≡ false → AreParams (more_params n2 v2 r2 ps) c → AreParams (more_params n (maybe_expr_of o) r (more_params n2 v2 r2 ps)) c
  more_single n None false c n2 v2 r2 ps h k = k
  more_single n (Some e) false c n2 v2 r2 ps h k = k
  more_single n o true c n2 v2 r2 ps h k = absurd (cc)

  pub are_params : (p : Param) (ps : List Param) (e : ParamsEnd) → AreSingle (p ∷ ps) → AreParams (params_of (ended_params (p ∷ ps) e)) (is_trailing e)
  are_params p [] Plain h = last_single p.name p.value p.rest false h.0
  are_params p [] Trailing h = last_single p.name p.value p.rest true h.0
  are_params p [] (Rest n) h = more_single p.name p.value p.rest false n no_expr true no_params h.0 refl
  are_params p (r ∷ ps) Plain h = more_single p.name p.value p.rest false r.name (maybe_expr_of r.value) r.rest (params_of ps) h.0 (are_params r ps Plain h.1)
  are_params p (r ∷ ps) Trailing h = more_single p.name p.value p.rest true r.name (maybe_expr_of r.value) r.rest (params_of ps) h.0 (are_params r ps Trailing h.1)
  are_params p (r ∷ ps) (Rest n) h = more_single p.name p.value p.rest false r.name (maybe_expr_of r.value) r.rest (params_of (ps ++ rest_param n ∷ [])) h.0 (are_params r ps (Rest n) h.1)

  -- what one turn reads: the first parameter, and one after a comma

  abbrev pub FirstTurn : ℕ → List Lexeme → Turn Param ParamsEnd → Type 0
  FirstTurn q u (Again p) = IsParam m q u p
  FirstTurn q u (Stop Plain) = ⊥
  FirstTurn q u (Stop Trailing) = ⊥
  FirstTurn q u (Stop (Rest n)) = IsRest q u n

  abbrev pub NextTurn : ℕ → ℕ → List Lexeme → Turn Param ParamsEnd → Type 0
  NextTurn q d u (Again p) = (p.rest ≡ false) × ProperMaybe m (maybe_expr_of p.value) × FitsAll (mark_piece mark.COMMA d ∷ print_param m q p) u
  NextTurn q d u (Stop e) = FitsAll (next_end q d e) u

  pub record NextMany (q d : ℕ) (u : List Lexeme) (n : Many Param ParamsEnd) : Type 0 where
    pub single : AreSingle n.items
    pub proper : AreProper n.items
    pub fits : FitsAll (next_pieces q d n.items ++ next_end q d n.last) u

  -- all parameters, with the comma at the end
  pub record ParamsMany (q d : ℕ) (u : List Lexeme) (n : Many Param ParamsEnd) : Type 0 where
    pub are : AreParams (params_of (ended_params n.items n.last)) (is_trailing n.last)
    pub proper : ProperParams m (params_of (ended_params n.items n.last))
    pub fits : FitsAll (print_params m q d (params_of (ended_params n.items n.last)) ++ comma_piece (is_trailing n.last) d) u

  pub next_go : (q d : ℕ) (u x : List Lexeme) (p : Param) (n : Many Param ParamsEnd) → NextTurn q d u (Again p) → NextMany q d x n → NextMany q d (u ++ x) (begun p n)
  next_go q d u x p n h r = record {
    single = (h.0, r.single);
    proper = (h.1, r.proper);
    fits = all_same (ap (λ y. mark_piece mark.COMMA d ∷ y) (sym (append_assoc (print_param m q p) (next_pieces q d n.items) (next_end q d n.last)))) (all_append h.2 r.fits);
  }

  pub params_first : (q d : ℕ) (u x : List Lexeme) (p : Param) (n : Many Param ParamsEnd) → IsParam m q u p → NextMany q d x n → ParamsMany q d (u ++ x) (begun p n)
  params_first q d u x p n h r = record {
    are = are_params p n.items n.last (h.single, r.single);
    proper = all_proper (p ∷ n.items) n.last (h.proper, r.proper);
    fits = all_same (sym (first_print q d p n.items n.last)) (all_append h.fits r.fits);
  }

  pub params_rest : (q d : ℕ) (u : List Lexeme) (n : Named) → IsRest q u n → ParamsMany q d u (stopped (Rest n))
  params_rest q d u n h = record { are = refl; proper = (tt, tt); fits = h }

  pub params_none : (q d : ℕ) → ParamsMany q d [] (stopped Plain)
  params_none q d = record { are = refl; proper = tt; fits = all_none }

  -- from the turn for the first parameter and the loop for the others
  pub led_sound : (q d : ℕ) (turn : Parser (Turn Param ParamsEnd)) → Sound Inside (NextTurn q d) turn → (u : List Lexeme) (t : Turn Param ParamsEnd) → FirstTurn q u t → Sound Inside (Behind u (ParamsMany q d)) (Exprs.params_led turn t)
  led_sound q d turn s u (Again p) h = sound_made (begun p) (next_loop q d turn s) (λ x n r. params_first q d u x p n h r)
    where
      next_loop : (q d : ℕ) (turn : Parser (Turn Param ParamsEnd)) → Sound Inside (NextTurn q d) turn → Sound Inside (NextMany q d) (loop turn)
      next_loop q d turn s = sound_loop (NextTurn q d) (NextMany q d) turn s
          (λ u b r. record { single = tt; proper = tt; fits = r })
          (λ u x p n h r. next_go q d u x p n h r)
          (record { end = []; of = stopped Plain; starts = tt; is = record { single = tt; proper = tt; fits = all_none } })
  led_sound q d turn s u (Stop Plain) h = absurd h
  led_sound q d turn s u (Stop Trailing) h = absurd h
  led_sound q d turn s u (Stop (Rest n)) h = sound_done (ParamsMany q d) u (stopped (Rest n)) (params_rest q d u n h)

  -- parameters in parentheses, from the opening one on
  pub record IsHead (q d : ℕ) (u : List Lexeme) (h : Head) : Type 0 where
    pub bare : h.bare ≡ false
    pub are : AreParams (params_of h.params) h.comma
    pub proper : ProperParams m (params_of h.params)
    pub fits : FitsAll (parenthesized false h.start d (print_params m q d (params_of h.params)) h.comma) u

  pub head_is : (q d : ℕ) (t : Lexeme) (u x : List Lexeme) (n : Many Param ParamsEnd) → t.kind ≡ kind.Mark mark.OPEN_PAREN → ParamsMany q d u n → IsMark mark.CLOSE_PAREN d x tt → IsHead q d (t ∷ (u ++ x)) (head_case t.start n)
  head_is q d t u x n e r c = record {
    bare = refl;
    are = r.are;
    proper = r.proper;
    fits = all_append (all_placed (kind.Mark mark.OPEN_PAREN) d t e) (all_same (append_assoc (print_params m q d (params_of (ended_params n.items n.last))) (comma_piece (is_trailing n.last) d) (mark_piece mark.CLOSE_PAREN d ∷ [])) (all_append r.fits c));
  }

  -- an initializer, or none
  pub record IsInit (d : ℕ) (u : List Lexeme) (o : Option Expr) : Type 0 where
    pub proper : ProperMaybe m (maybe_expr_of o)
    pub fits : FitsAll (print_initializer m d (maybe_expr_of o)) u

  module _ (d : ℕ) (v : Env) (s : SoundEnv m d v) where
    pub initializer_sound : Sound Inside (IsInit d) (Exprs.initializer_of v)
    unfolding Exprs.initializer_of
    initializer_sound =
        let none : Sound Inside (IsInit d) (ret None) = sound_ret (record { proper = tt; fits = all_none }) in
        sound_peek (λ t. at_when (is_mark mark.ASSIGN t.kind) (λ e. at_step t (sound_made Some (sound_inside (s.calls.assign true)) (λ u a r. record { proper = (r.rank_le, r.proper); fits = all_append (all_mark mark.ASSIGN d t (mark_known mark.ASSIGN t.kind e)) r.fits }))) (λ _. sound_at t none)) none

    pub param_sound : Sound Inside (IsParam m d) (Exprs.param_of v)
    unfolding Exprs.param_of
    param_sound = sound_bind (name_sound d) (λ u n h. sound_made (param n) initializer_sound (λ x o r. record { single = refl; proper = r.proper; fits = all_append h r.fits }))

    pub rest_name_sound : (t : Lexeme) → t.kind ≡ kind.Mark mark.ELLIPSIS → Sound Inside (Behind (t ∷ []) (FirstTurn d)) Exprs.rest_end
    rest_name_sound t e = sound_made (λ n. Stop (Rest n)) (name_sound d) (λ u n h. all_append (all_mark mark.ELLIPSIS d t e) h)

    first_sound : Sound Inside (FirstTurn d) (Exprs.param_turn v)
    unfolding Exprs.param_turn
    first_sound =
        let item : Sound Inside (FirstTurn d) (bind (Exprs.param_of v) (λ p. ret (Again p))) = sound_made Again param_sound (λ u p h. h) in
        sound_peek (λ t. at_when (is_mark mark.ELLIPSIS t.kind) (λ e. at_step t (rest_name_sound t (mark_known mark.ELLIPSIS t.kind e))) (λ _. sound_at t item)) item

    -- the first turn's result after a comma
    pub behind_comma : (q : ℕ) (t : Lexeme) → t.kind ≡ kind.Mark mark.COMMA → (u : List Lexeme) (p : Turn Param ParamsEnd) → FirstTurn q u p → NextTurn q d (t ∷ u) p
    behind_comma q t e u (Again p) h = (h.single, h.proper, all_append (all_mark mark.COMMA d t e) h.fits)
    behind_comma q t e u (Stop Plain) h = absurd h
    behind_comma q t e u (Stop Trailing) h = absurd h
    behind_comma q t e u (Stop (Rest n)) h = all_append (all_mark mark.COMMA d t e) h

    next_sound : (t : Lexeme) → t.kind ≡ kind.Mark mark.COMMA → Sound Inside (Behind (t ∷ []) (NextTurn d d)) (Exprs.params_next v)
    unfolding Exprs.params_next
    next_sound t e =
        let item : Sound Inside (Behind (t ∷ []) (NextTurn d d)) (Exprs.param_turn v) = sound_map (λ u p h. behind_comma d t e u p h) first_sound in
        sound_peek (λ x. at_when (is_mark mark.CLOSE_PAREN x.kind) (λ _. sound_at x (sound_ret {a = Stop Trailing} (all_mark mark.COMMA d t e))) (λ _. sound_at x item)) item

    turn_sound : Sound Inside (NextTurn d d) (Exprs.params_turn v)
    unfolding Exprs.params_turn
    turn_sound = sound_peek (λ t. at_when (is_mark mark.COMMA t.kind) (λ e. at_step t (next_sound t (mark_known mark.COMMA t.kind e))) (λ _. sound_at t (sound_ret {a = Stop Plain} all_none))) (sound_ret {a = Stop Plain} all_none)

    more_params_sound : Sound Inside (ParamsMany d d) (Exprs.more_params v)
    unfolding Exprs.more_params
    more_params_sound =
        let all : Sound Inside (ParamsMany d d) (bind (Exprs.param_turn v) (Exprs.params_led (Exprs.params_turn v))) = sound_bind first_sound (led_sound d d (Exprs.params_turn v) turn_sound) in
        sound_peek (λ t. at_when (is_mark mark.CLOSE_PAREN t.kind) (λ _. sound_at t (sound_ret {a = stopped Plain} (params_none d d))) (λ _. sound_at t all)) all

    listed_sound : (t : Lexeme) → t.kind ≡ kind.Mark mark.OPEN_PAREN → Sound Inside (Behind (t ∷ []) (IsHead d d)) (Exprs.listed_params v t.start)
    unfolding Exprs.listed_params
    listed_sound t e = sound_bind more_params_sound (λ u n r. sound_made (λ _. head_case t.start n) (expect_sound mark.CLOSE_PAREN d) (λ x _ c. head_is d d t u x n e r c))

    -- The parameters that suit a form: a getter's and a setter's are few.

    pub record SuitedHead (f : FuncForm) (u : List Lexeme) (h : Head) : Type 0 where
      pub suits : SuitsForm f (params_of h.params) h.comma
      pub is : IsHead d d u h

    -- the forms of functions that are no arrows
    abbrev pub IsPlainForm : FuncForm → Type 0
    IsPlainForm form.Script = ⊥
    IsPlainForm form.Function = Unit {0}
    IsPlainForm form.Arrow = ⊥
    IsPlainForm form.Method = Unit {0}
    IsPlainForm form.Getter = Unit {0}
    IsPlainForm form.Setter = Unit {0}

    none_sound : (t : Lexeme) → t.kind ≡ kind.Mark mark.OPEN_PAREN → Sound Inside (Behind (t ∷ []) (SuitedHead form.Getter)) (Exprs.no_params t.start)
    none_sound t e = sound_made (λ _. record { start = t.start; params = []; comma = false; bare = false }) (expect_sound mark.CLOSE_PAREN d) (λ x _ c. record { suits = (refl, refl); is = head_is d d t [] x (stopped Plain) e (params_none d d) c })

    one_sound : (t : Lexeme) → t.kind ≡ kind.Mark mark.OPEN_PAREN → Sound Inside (Behind (t ∷ []) (SuitedHead form.Setter)) (Exprs.one_param v t.start)
    one_sound t e = sound_bind param_sound (λ u p h. sound_made (λ _. record { start = t.start; params = p ∷ []; comma = false; bare = false }) (expect_sound mark.CLOSE_PAREN d) (λ x _ c. record {
      suits = one_param p h.single;
      is = head_is d d t u x (begun p (stopped Plain)) e (subst (λ y. ParamsMany d d y (begun p (stopped Plain))) (append-nil u) (params_first d d u [] p (stopped Plain) h (record { single = tt; proper = tt; fits = all_none }))) c;
    }))
      where
        one_param : (p : Param) → p.rest ≡ false → IsOneParam (params_of (p ∷ [])) false
        one_param p h = subst (λ r. IsOneParam (more_params p.name (maybe_expr_of p.value) r no_params) false) (sym h) refl

    form_sound : (f : FuncForm) → IsPlainForm f → (t : Lexeme) → t.kind ≡ kind.Mark mark.OPEN_PAREN → Sound Inside (Behind (t ∷ []) (SuitedHead f)) (Exprs.form_params v f t.start)
    form_sound form.Script i t e = absurd i
    form_sound form.Function i t e = sound_map (λ u h r. record { suits = tt; is = r }) (listed_sound t e)
    form_sound form.Arrow i t e = absurd i
    form_sound form.Method i t e = sound_map (λ u h r. record { suits = tt; is = r }) (listed_sound t e)
    form_sound form.Getter i t e = none_sound t e
    form_sound form.Setter i t e = one_sound t e

    pub head_sound : (f : FuncForm) → IsPlainForm f → Sound Inside (SuitedHead f) (Exprs.params_head v f)
    unfolding Exprs.params_head
    head_sound f i =
        let open_paren : Lexeme = lexeme_of_kind (kind.Mark mark.OPEN_PAREN) in
        let rest = sound_some (form_sound f i open_paren refl) in
        let some : Mended Inside (SuitedHead f) = record { end = open_paren ∷ rest.end; of = rest.of; starts = tt; is = rest.is } in
        sound_peek (λ t. at_when (is_mark mark.OPEN_PAREN t.kind) (λ e. at_step t (form_sound f i t (mark_known mark.OPEN_PAREN t.kind e))) (λ _. sound_at t (sound_bad some))) (sound_bad some)

    -- a function from its parameters on
    pub record IsFunctionOf (f : FuncForm) (name : Option Named) (u : List Lexeme) (x : Function) : Type 0 where
      pub of : IsOf f name x
      pub free : function_free x ≡ true
      pub proper : ProperFunction m x
      pub fits : FitsAll (print_function m d x) u

    pub plain_arrow : (f : FuncForm) → IsPlainForm f → is_arrow_form f ≡ false
    plain_arrow form.Script i = absurd i
    plain_arrow form.Function i = refl
    plain_arrow form.Arrow i = absurd i
    plain_arrow form.Method i = refl
    plain_arrow form.Getter i = refl
    plain_arrow form.Setter i = refl

    plain_print : (f : FuncForm) → is_arrow_form f ≡ false → (start end : ℕ) (name : Option Named) (ps : Params) (comma : Bool) (body : Body) → parenthesized false start d (print_params m d d ps) comma ++ print_body m d end body ≡ print_function m d (function f start end name ps comma false body)
    plain_print f e start end name ps comma body = rw e refl

    function_is : (f : FuncForm) → IsPlainForm f → (name : Option Named) (u x : List Lexeme) (h : Head) (b : BodyRead) → SuitedHead f u h → IsBraced m d f x b → IsFunctionOf f name (u ++ x) (function_case f name h b)
    function_is f i name u x h b p q =
        subst (λ y. IsFunctionOf f name (u ++ x) (function f h.start b.end name (params_of h.params) h.comma y b.body)) (sym p.is.bare)
        (subst (λ y. IsFunctionOf f name (u ++ x) (function f h.start b.end name (params_of h.params) h.comma false y)) (sym q.is) (record {
          of = (refl, refl);
          free = refl;
          proper = (p.is.are, p.suits, tt, p.is.proper, q.proper);
          fits = all_same (plain_print f (plain_arrow f i) h.start b.end name (params_of h.params) h.comma (tree.BracedBody q.items)) (all_append p.is.fits q.fits);
        }))

    pub function_sound : (f : FuncForm) (name : Option Named) → IsPlainForm f → Sound Inside (IsFunctionOf f name) (Exprs.function_of v f name)
    unfolding Exprs.function_of
    function_sound f name i = sound_bind (head_sound f i) (λ u h p. sound_made (function_case f name h) (s.body.braced f h.start (is_simple h.params)) (λ x b q. function_is f i name u x h b p q))

    -- a function expression, after its word

    abbrev pub IsMaybeName : List Lexeme → Option Named → Type 0
    IsMaybeName u o = FitsAll (print_name o d) u

    pub maybe_name_sound : Sound Inside IsMaybeName Exprs.maybe_name
    unfolding Exprs.maybe_name
    maybe_name_sound = sound_peek (λ t. at_when (is_name t.kind) (λ e. at_step t (sound_ret {a = Some (named t)} (all_name d t (name_known t.kind e)))) (λ _. sound_at t (sound_ret {a = None} all_none))) (sound_ret {a = None} all_none)

    func_is : (t : Lexeme) → t.kind ≡ kind.Word word.FUNCTION → (u x : List Lexeme) (o : Option Named) (f : Function) → IsMaybeName u o → IsFunctionOf form.Function o x f → IsExpr m false d 0 (t ∷ (u ++ x)) (tree.Func t.start f)
    func_is t e u x o (function f start end name ps comma bare body) h r =
        subst (λ y. IsFunctionOf form.Function o x (function y start end name ps comma bare body) → IsExpr m false d 0 (t ∷ (u ++ x)) (tree.Func t.start (function y start end name ps comma bare body))) (sym r.of.0)
        (λ k. record {
          rank_le = omega arith;
          proper = (tt, k.proper);
          in_if = k.free;
          fits = all_append (all_placed (kind.Word word.FUNCTION) d t e) (all_append (subst (λ n. FitsAll (print_name n d) u) (sym k.of.1) h) k.fits);
        }) r

    pub func_sound : (t : Lexeme) → t.kind ≡ kind.Word word.FUNCTION → Sound Inside (Behind (t ∷ []) (IsExpr m false d 0)) (Exprs.func_of v t.start)
    unfolding Exprs.func_of
    func_sound t e = sound_bind maybe_name_sound (λ u o h. sound_made (λ f. tree.Func t.start f) (function_sound form.Function o tt) (λ x f r. func_is t e u x o f h r))
