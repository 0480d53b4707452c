-- Arrows, and the parentheses that might be an arrow's: what is read fits its places, and faults can be mended. Where only
-- an arrow can go on, the end makes an arrow of what stands in the parentheses; where an arrow cannot, it makes a
-- parenthesized expression of what was read as parameters.
use Rattle.std.proofs.Common.{◌≡◌, ℕ, suc, ◌≤◌, List, [], ◌∷◌, ◌++◌, refl, sym, ap, ◌∙◌, subst, arith, append_assoc, append-nil, Bool, true, false, ◌||◌, Option, Some, None}
use Rattle.script_grammar.specs.declared.token.Kind.TheVariants as kind
use Rattle.script_grammar.specs.declared.token.FuncForm.TheVariants as form
use Rattle.script_grammar.specs.declared.token.mark.TheConstants as mark
use Rattle.script_grammar.specs.Lexeme.{Lexeme}
use Rattle.script_grammar.specs.Kinds.{is_mark, is_name}
use Rattle.script_grammar.specs.Tree.{Named, Expr, Body}
use Rattle.script_grammar.specs.Tree as tree
use Rattle.script_grammar.specs.TreeLists.{Param, params_of, exprs_of, maybe_expr_of}
use Rattle.script_grammar.specs.Pieces.{Bodies, Piece, mark_piece, glued_mark, comma_piece, name_piece}
use Rattle.script_grammar.specs.Print.{print, print_list, print_more, print_params, print_body, parenthesized, param_depth}
use Rattle.script_grammar.specs.Proper.{rank, Proper, ProperExprs, ProperParams, ProperBody, ProperMaybe, AreParams, BareIf, HasExprs, body_free, InIf}
use Rattle.grammar_parser_specs.specs.Parser.{head_of, rest_of, ret, bind, when, Turn, Again, Stop, loop, Many, stopped, begun}
use Rattle.grammar_parser_specs.specs.Exprs
use Rattle.grammar_parser_specs.specs.Exprs.{Env, AnAssign, AParam, ARest, ParamsEnd, Plain, Trailing, Rest, Head, BodyRead, Spanned, spanned, last_end, short_body, expect, named, param, ended_params, is_trailing, head_case, bare_head, arrow_case, is_simple, is_arrow, is_param_form, list_case, comma_case}
use Rattle.grammar_parser_laws.proofs.Friendly.{Inside}
use Rattle.grammar_parser_laws.proofs.Fitting.{FitsAll, all_none, all_append, all_mark, all_placed, all_glued, all_same, fits_until, lexeme_of_kind, zero_lexeme}
use Rattle.grammar_parser_laws.proofs.Tests.{false_true, mark_known, and_right}
use Rattle.grammar_parser_laws.proofs.Sound.{Leads, Outcome, Sound, Mended, Behind, outcome_after, sound_bind, leads_bind, sound_ret, sound_bad, sound_at, sound_peek, at_step, at_when, leads_done, some_done, sound_inside, leads_loop, sound_made, leads_made}
use Rattle.grammar_parser_laws.proofs.SoundParts.{IsExpr, IsItem, print_param, param_value, param_expr, param_print, param_is, SoundEnv, looser, zero_is, IsMark, expect_sound, mark_some, top}
use Rattle.grammar_sound_laws.proofs.SoundLists.{more_loop_sound}
use Rattle.grammar_sound_laws.proofs.SoundFunctions.{next_end, next_pieces, first_print, AreSingle, AreProper, all_proper, are_params}

module _ (m : Bodies) (d : ℕ) where
  -- items in parentheses

  pub record IsItems (u : List Lexeme) (es : List Expr) : Type 0 where
    pub has : HasExprs (exprs_of es)
    pub proper : ProperExprs m (exprs_of es)
    pub fits : FitsAll (print_list m d (exprs_of es)) u

  pub list_more : (es : List Expr) → HasExprs (exprs_of es) → print_more m d (exprs_of es) ≡ mark_piece mark.COMMA d ∷ print_list m d (exprs_of es)
  list_more [] h = absurd h
  list_more (e ∷ es) h = refl

  pub items_first : (u x : List Lexeme) (e : Expr) (es : List Expr) → rank e ≤ 20 → Proper m e → FitsAll (print m (suc d) e) u → ProperExprs m (exprs_of es) → FitsAll (print_more m d (exprs_of es)) x → IsItems (u ++ x) (e ∷ es)
  items_first u x e es r p f q g = record { has = tt; proper = (r, p, q); fits = all_append f g }

  items_expr : (u : List Lexeme) (es : List Expr) → IsItems u es → Proper m (list_case es) × FitsAll (print m (suc d) (list_case es)) u
  items_expr u [] h = absurd h.has
  items_expr u (e ∷ []) h = (h.proper.1, all_same (append-nil (print m (suc d) e)) h.fits)
  items_expr u (e ∷ f ∷ es) h = ((tt, h.proper), h.fits)

  pub paren_is : (t : Lexeme) → t.kind ≡ kind.Mark mark.OPEN_PAREN → (u x : List Lexeme) (es : List Expr) → IsItems u es → IsMark mark.CLOSE_PAREN d x tt → IsExpr m false d 0 (t ∷ (u ++ x)) (tree.Paren t.start (list_case es))
  paren_is t e u x es h c =
      let p = items_expr u es h in
      record { rank_le = omega arith; proper = p.0; in_if = refl; fits = all_append (all_placed (kind.Mark mark.OPEN_PAREN) d t e) (all_append p.1 c) }

  -- an arrow of its head, its mark and its body

  pub record ArrowHead (u : List Lexeme) (h : Head) : Type 0 where
    pub are : AreParams (params_of h.params) h.comma
    pub bare : BareIf h.bare form.Arrow h.start (params_of h.params) h.comma
    pub proper : ProperParams m (params_of h.params)
    pub fits : FitsAll (parenthesized h.bare h.start d (print_params m (param_depth form.Arrow h.bare d) d (params_of h.params)) h.comma) u

  abbrev pub IsArrowMark : List Lexeme → Unit {0} → Type 0
  IsArrowMark u _ = FitsAll (glued_mark mark.ARROW d ∷ []) u

  pub record ArrowBody (w : Bool) (u : List Lexeme) (b : BodyRead) : Type 0 where
    pub proper : ProperBody m form.Arrow b.body
    pub in_if : InIf w (body_free b.body)
    pub fits : FitsAll (print_body m d b.end b.body) u

  pub arrow_is : (w : Bool) (u x y : List Lexeme) (h : Head) (b : BodyRead) → ArrowHead u h → IsArrowMark x tt → ArrowBody w y b → IsExpr m w d 20 (u ++ (x ++ y)) (arrow_case h b)
  arrow_is w u x y h b p c q = record {
    rank_le = omega arith;
    proper = ((refl, refl), (p.are, tt, p.bare, p.proper, q.proper));
    in_if = q.in_if;
    fits = all_append p.fits (all_append c q.fits);
  }

  -- the mark and the body 0
  abbrev pub arrow_lexeme : Lexeme
  arrow_lexeme = lexeme_of_kind (kind.Mark mark.ARROW)

  pub zero_body : BodyRead
  zero_body = record { body = tree.ShortBody (tree.Number 0 0); end = 0 }

  pub zero_body_is : (w : Bool) → ArrowBody w (zero_lexeme ∷ []) zero_body
  unfolding zero_body
  zero_body_is w = record {
    proper = (refl, omega arith, refl, tt);
    in_if = either w;
    fits = record { before = λ n. fits_until (print m (suc d) (tree.Number 0 0)) (zero_lexeme ∷ []) n 0 refl ((zero_is m w (suc d) 0).fits.before n) };
  }
    where
      either : (w : Bool) → (w || true) ≡ true
      either true = refl
      either false = refl

  pub arrow_mark_is : IsArrowMark (arrow_lexeme ∷ []) tt
  arrow_mark_is = all_glued mark.ARROW d (lexeme_of_kind (kind.Mark mark.ARROW)) refl refl

  abbrev pub arrow_end : List Lexeme
  arrow_end = arrow_lexeme ∷ zero_lexeme ∷ []

  -- Parameters that were read as items, each with the comma after it, and a rest parameter or none.

  abbrev pub lead_pieces : List Param → List Piece
  lead_pieces [] = []
  lead_pieces (p ∷ ps) = print_param m (suc d) p ++ (mark_piece mark.COMMA d ∷ lead_pieces ps)

  abbrev pub rest_pieces : Option Named → List Piece
  rest_pieces None = []
  rest_pieces (Some n) = mark_piece mark.ELLIPSIS (suc d) ∷ name_piece n (suc d) ∷ []

  abbrev pub end_behind : Option Named → ParamsEnd
  end_behind None = Trailing
  end_behind (Some n) = Rest n

  lead_next : (ps : List Param) (o : Option Named) → mark_piece mark.COMMA d ∷ (lead_pieces ps ++ rest_pieces o) ≡ next_pieces m (suc d) d ps ++ next_end m (suc d) d (end_behind o)
  lead_next [] None = refl
  lead_next [] (Some n) = refl
  lead_next (p ∷ ps) o = ap (λ x. mark_piece mark.COMMA d ∷ x) (append_assoc (print_param m (suc d) p) (mark_piece mark.COMMA d ∷ lead_pieces ps) (rest_pieces o) ∙ ap (λ x. print_param m (suc d) p ++ x) (lead_next ps o) ∙ sym (append_assoc (print_param m (suc d) p) (next_pieces m (suc d) d ps) (next_end m (suc d) d (end_behind o))))

  lead_print : (p : Param) (ps : List Param) (o : Option Named) → print_params m (suc d) d (params_of (ended_params (p ∷ ps) (end_behind o))) ++ comma_piece (is_trailing (end_behind o)) d ≡ lead_pieces (p ∷ ps) ++ rest_pieces o
  lead_print p ps o = first_print m (suc d) d p ps (end_behind o) ∙ ap (λ x. print_param m (suc d) p ++ x) (sym (lead_next ps o)) ∙ sym (append_assoc (print_param m (suc d) p) (mark_piece mark.COMMA d ∷ lead_pieces ps) (rest_pieces o))

  -- what is completed to an arrow, from the parameters on
  pub record ArrowTail (u : List Lexeme) : Type 0 where
    pub params : List Param
    pub last : Option Named
    pub single : AreSingle m params
    pub proper : AreProper m params
    pub front : List Lexeme
    pub split : u ≡ front ++ arrow_end
    pub fits : FitsAll (lead_pieces params ++ (rest_pieces last ++ mark_piece mark.CLOSE_PAREN d ∷ [])) front

  tail_head : (start : ℕ) (t : Lexeme) → t.kind ≡ kind.Mark mark.OPEN_PAREN → t.start ≡ start → (ps : List Param) (o : Option Named) → AreSingle m ps → AreProper m ps → (front : List Lexeme) → FitsAll (lead_pieces ps ++ (rest_pieces o ++ mark_piece mark.CLOSE_PAREN d ∷ [])) front → (h : Head) × ArrowHead (t ∷ front) h
  tail_head start t e s [] None a p front f = (record { start = t.start; params = []; comma = false; bare = false }, record { are = refl; bare = tt; proper = tt; fits = all_append (all_placed (kind.Mark mark.OPEN_PAREN) d t e) f })
  tail_head start t e s [] (Some n) a p front f = (record { start = t.start; params = Exprs.rest_param n ∷ []; comma = false; bare = false }, record { are = refl; bare = tt; proper = (tt, tt); fits = all_append (all_placed (kind.Mark mark.OPEN_PAREN) d t e) f })
  tail_head start t e s (q ∷ ps) o a p front f =
      let x = end_behind o in (
        record { start = t.start; params = ended_params (q ∷ ps) x; comma = is_trailing x; bare = false },
        record {
          are = are_params m q ps x a;
          bare = tt;
          proper = all_proper m (q ∷ ps) x p;
          fits = all_append (all_placed (kind.Mark mark.OPEN_PAREN) d t e) (all_same (sym (sym (append_assoc (print_params m (suc d) d (params_of (ended_params (q ∷ ps) x))) (comma_piece (is_trailing x) d) (mark_piece mark.CLOSE_PAREN d ∷ [])) ∙ ap (λ y. y ++ mark_piece mark.CLOSE_PAREN d ∷ []) (lead_print q ps o) ∙ append_assoc (lead_pieces (q ∷ ps)) (rest_pieces o) (mark_piece mark.CLOSE_PAREN d ∷ []))) f);
        },
      )

  tail_is : (w : Bool) (t : Lexeme) → t.kind ≡ kind.Mark mark.OPEN_PAREN → (u : List Lexeme) → ArrowTail u → (e : Expr) × IsExpr m w d 20 (t ∷ u) e
  tail_is w t e u a =
      let h = tail_head t.start t e refl a.params a.last a.single a.proper a.front a.fits in
      (arrow_case h.0 zero_body, subst (λ y. IsExpr m w d 20 (t ∷ y) (arrow_case h.0 zero_body)) (sym a.split) (arrow_is w (t ∷ a.front) (arrow_lexeme ∷ []) (zero_lexeme ∷ []) h.0 zero_body h.1 arrow_mark_is (zero_body_is w)))

  -- what one turn reads in parentheses that might be an arrow's

  pub record LeadAgain (u : List Lexeme) (e : Expr) : Type 0 where
    pub param : Param
    pub is : e ≡ param_expr param
    pub single : param.rest ≡ false
    pub proper : ProperMaybe m (maybe_expr_of param.value)
    pub fits : FitsAll (print_param m (suc d) param ++ mark_piece mark.COMMA d ∷ []) u

  abbrev pub LeadTurn : List Lexeme → Turn Expr (List Expr) → Type 0
  LeadTurn u (Again e) = LeadAgain u e
  LeadTurn u (Stop es) = IsItems u es

  pub data LeadEnd (u : List Lexeme) (t : Turn Expr (List Expr)) : Type 0 where
    lead_usual : LeadTurn u t → LeadEnd u t
    lead_doomed : ArrowTail u → LeadEnd u t

  abbrev pub LeadMany : List Lexeme → Many Expr (List Expr) → Type 0
  LeadMany u n = IsItems u (n.items ++ n.last)

  pub data LeadAllEnd (u : List Lexeme) (es : List Expr) : Type 0 where
    all_usual : IsItems u es → LeadAllEnd u es
    all_doomed : ArrowTail u → LeadAllEnd u es

  abbrev pub LeadManyEnd : List Lexeme → Many Expr (List Expr) → Type 0
  LeadManyEnd u n = LeadAllEnd u (n.items ++ n.last)

  item_go : (u x : List Lexeme) (e : Expr) (es : List Expr) → LeadAgain u e → IsItems x es → IsItems (u ++ x) (e ∷ es)
  item_go u x e es h r =
      let f : FitsAll (print_param m (suc d) h.param ++ (mark_piece mark.COMMA d ∷ print_list m d (exprs_of es))) (u ++ x) = all_same (append_assoc (print_param m (suc d) h.param) (mark_piece mark.COMMA d ∷ []) (print_list m d (exprs_of es))) (all_append h.fits r.fits) in
      let q = param_facts h.param h.single h.proper in
      record {
        has = tt;
        proper = subst (λ y. (rank y ≤ 20) × Proper m y × ProperExprs m (exprs_of es)) (sym h.is) (q.0, q.1, r.proper);
        fits = subst (λ y. FitsAll (print m (suc d) y ++ print_more m d (exprs_of es)) (u ++ x)) (sym h.is) (all_same (ap (λ y. y ++ (mark_piece mark.COMMA d ∷ print_list m d (exprs_of es))) (param_print m (suc d) h.param h.single) ∙ ap (λ y. print m (suc d) (param_expr h.param) ++ y) (sym (list_more es r.has))) f);
      }
    where
      value_facts : (n : Named) (o : Option Expr) → ProperMaybe m (maybe_expr_of o) → (rank (param_value n o) ≤ 20) × Proper m (param_value n o)
      value_facts n None p = (omega arith, tt)
      value_facts n (Some e) p = (omega arith, (refl, omega arith, tt, p.0, p.1))

      param_facts : (p : Param) → p.rest ≡ false → ProperMaybe m (maybe_expr_of p.value) → (rank (param_expr p) ≤ 20) × Proper m (param_expr p)
      param_facts p s h = value_facts p.name p.value h

  tail_go : (u x : List Lexeme) (e : Expr) → LeadAgain u e → ArrowTail x → ArrowTail (u ++ x)
  tail_go u x e h a = record {
    params = h.param ∷ a.params;
    last = a.last;
    single = (h.single, a.single);
    proper = (h.proper, a.proper);
    front = u ++ a.front;
    split = ap (λ y. u ++ y) a.split ∙ sym (append_assoc u a.front arrow_end);
    fits = all_same (append_assoc (print_param m (suc d) h.param) (mark_piece mark.COMMA d ∷ []) (lead_pieces a.params ++ (rest_pieces a.last ++ mark_piece mark.CLOSE_PAREN d ∷ [])) ∙ sym (append_assoc (print_param m (suc d) h.param) (mark_piece mark.COMMA d ∷ lead_pieces a.params) (rest_pieces a.last ++ mark_piece mark.CLOSE_PAREN d ∷ []))) (all_append h.fits a.fits);
  }

  zero_items : IsItems (zero_lexeme ∷ []) (tree.Number 0 0 ∷ [])
  zero_items = record { has = tt; proper = (omega arith, tt, tt); fits = all_same (sym (append-nil (print m (suc d) (tree.Number 0 0)))) (zero_is m true (suc d) 0).fits }

  -- after a closing parenthesis only an arrow's mark can stand
  doomed_end : (o : Option Named) (u x : List Lexeme) → FitsAll (rest_pieces o) u → IsMark mark.CLOSE_PAREN d x tt → ArrowTail ((u ++ x) ++ arrow_end)
  doomed_end o u x h c = record { params = []; last = o; single = tt; proper = tt; front = u ++ x; split = refl; fits = all_append h c }

  doomed_sound : (o : Option Named) (u : List Lexeme) → FitsAll (rest_pieces o) u → Leads Inside (Behind u LeadTurn) (Behind u LeadEnd) (Exprs.doomed {A = Turn Expr (List Expr)})
  doomed_sound o u h =
      let mend : (x : List Lexeme) → IsMark mark.CLOSE_PAREN d x tt → Mended Inside (Behind x (Behind u LeadEnd)) = λ x c. record { end = arrow_end; of = Stop []; starts = tt; is = lead_doomed (subst ArrowTail (append_assoc u x arrow_end) (doomed_end o u x h c)) } in
      leads_bind (expect_sound mark.CLOSE_PAREN d) (λ x _ c. sound_bad (mend x c)) (λ x _ c. mend x c)

  module _ (v : Env) (s : SoundEnv m d v) where
    pub items_sound : Sound Inside IsItems (Exprs.items_from v)
    unfolding Exprs.items_from
    items_sound = sound_bind (sound_inside (s.calls.assign true)) (λ u e q. sound_made (λ n. e ∷ n.items) (more_loop_sound m d v s true) (λ x n r. items_first u x e n.items q.rank_le q.proper q.fits r.proper r.fits))

    doomed_rest_sound : Leads Inside LeadTurn LeadEnd (Exprs.doomed_rest {A = Turn Expr (List Expr)} v)
    unfolding Exprs.doomed_rest
    doomed_rest_sound = leads_bind s.calls.rest (λ u n h. doomed_sound (Some n) u h) (λ u n h. record { end = lexeme_of_kind (kind.Mark mark.CLOSE_PAREN) ∷ arrow_end; of = Stop []; starts = tt; is = lead_doomed (subst ArrowTail (append_assoc u (lexeme_of_kind (kind.Mark mark.CLOSE_PAREN) ∷ []) arrow_end) (doomed_end (Some n) u (lexeme_of_kind (kind.Mark mark.CLOSE_PAREN) ∷ []) h (all_mark mark.CLOSE_PAREN d (lexeme_of_kind (kind.Mark mark.CLOSE_PAREN)) refl))) })

    item_stop : (u : List Lexeme) (e : Expr) → IsItem m (suc d) u e → LeadTurn u (Stop (e ∷ []))
    item_stop u e h =
        let q = subst (λ y. IsExpr m true (suc d) 20 u y) (sym h.is) (param_is m (suc d) u h.param h.of) in
        record { has = tt; proper = (q.rank_le, q.proper, tt); fits = all_same (sym (append-nil (print m (suc d) e))) q.fits }

    lead_end_sound : (u : List Lexeme) (e : Expr) → IsItem m (suc d) u e → Leads Inside (Behind u LeadTurn) (Behind u LeadEnd) (Exprs.lead_end e)
    unfolding Exprs.lead_end
    lead_end_sound u e h =
        let stop : Leads Inside (Behind u LeadTurn) (Behind u LeadEnd) (ret (Stop (e ∷ []))) = leads_done LeadTurn LeadEnd u (Stop (e ∷ [])) (item_stop u e h) in
        sound_peek (λ t. at_when (is_mark mark.COMMA t.kind) (λ k. at_step t (sound_ret {a = Again e} (record { param = h.param; is = h.is; single = h.of.single; proper = h.of.proper; fits = all_append h.of.fits (all_mark mark.COMMA d t (mark_known mark.COMMA t.kind k)) }))) (λ _. sound_at t stop)) stop

    -- an item of the form of a parameter begins with two lexemes
    form_two : (ts : List Lexeme) → is_param_form (head_of ts) (head_of (rest_of ts)) ≡ true → (t : Lexeme) × (u : Lexeme) × (us : List Lexeme) × (ts ≡ t ∷ u ∷ us)
    form_two [] h = absurd (false_true h)
    form_two (t ∷ []) h = absurd (false_true (and_right (is_name t.kind) false h))
    form_two (t ∷ u ∷ us) h = (t, u, us, refl)

    lead_item_mend : (u : List Lexeme) (e : Expr) → IsItem m (suc d) u e → Mended Inside (Behind u LeadEnd)
    lead_item_mend u e h = some_done LeadEnd u (Stop (e ∷ [])) (lead_usual (item_stop u e h))

    lead_item_form : (ts : List Lexeme) → is_param_form (head_of ts) (head_of (rest_of ts)) ≡ true → Outcome Inside LeadTurn LeadEnd ts (bind (v.sub (AnAssign true)) Exprs.lead_end ts)
    lead_item_form ts h =
        let w = form_two ts h in
        subst (λ y. Outcome Inside LeadTurn LeadEnd y (bind (v.sub (AnAssign true)) Exprs.lead_end y)) (sym w.3)
        (outcome_after Inside (IsItem m (suc d)) (IsItem m (suc d)) LeadTurn LeadEnd Exprs.lead_end lead_end_sound lead_item_mend (w.0 ∷ w.1 ∷ w.2) (v.sub (AnAssign true) (w.0 ∷ w.1 ∷ w.2))
        (s.calls.item w.0 w.1 (subst (λ y. is_param_form (head_of y) (head_of (rest_of y)) ≡ true) w.3 h) w.2))

    lead_item_sound : Leads Inside LeadTurn LeadEnd (Exprs.lead_item v)
    unfolding Exprs.lead_item
    lead_item_sound = record { at = λ ts. either ts (is_param_form (head_of ts) (head_of (rest_of ts))) refl }
      where
        plain : Leads Inside LeadTurn LeadEnd (bind (Exprs.items_from v) (λ es. ret (Stop es)))
        plain = leads_made Stop items_sound (λ u es h. h) (λ u es h. lead_usual h)

        either : (ts : List Lexeme) (b : Bool) → is_param_form (head_of ts) (head_of (rest_of ts)) ≡ b → Outcome Inside LeadTurn LeadEnd ts (when b (bind (v.sub (AnAssign true)) Exprs.lead_end) (bind (Exprs.items_from v) (λ es. ret (Stop es))) ts)
        either ts true h = lead_item_form ts h
        either ts false h = plain.at ts

    lead_turn_sound : Leads Inside LeadTurn LeadEnd (Exprs.lead_turn v)
    unfolding Exprs.lead_turn
    lead_turn_sound = sound_peek (λ t.
        at_when (is_mark mark.CLOSE_PAREN t.kind) (λ _. sound_at t (doomed_sound None [] all_none)) (λ _.
        at_when (is_mark mark.ELLIPSIS t.kind) (λ _. sound_at t doomed_rest_sound) (λ _. sound_at t lead_item_sound))) lead_item_sound

    lead_fault : (u : List Lexeme) (t : Turn Expr (List Expr)) → LeadEnd u t → Mended Inside (Behind u LeadManyEnd)
    lead_fault u (Again e) (lead_usual h) = record { end = zero_lexeme ∷ []; of = begun e (stopped (tree.Number 0 0 ∷ [])); starts = tt; is = all_usual (item_go u (zero_lexeme ∷ []) e (tree.Number 0 0 ∷ []) h zero_items) }
    lead_fault u (Stop es) (lead_usual h) = some_done LeadManyEnd u (stopped es) (all_usual h)
    lead_fault u t (lead_doomed a) = some_done LeadManyEnd u (stopped []) (all_doomed a)

    lead_loop_sound : Leads Inside LeadMany LeadManyEnd (loop (Exprs.lead_turn v))
    lead_loop_sound = leads_loop LeadTurn LeadEnd LeadMany LeadManyEnd (Exprs.lead_turn v) lead_turn_sound
        (λ u es h. h)
        (λ u x e n h r. item_go u x e (n.items ++ n.last) h r)
        (λ u x e n h r. go_end u x e (n.items ++ n.last) h r)
        lead_fault
        (record { end = zero_lexeme ∷ []; of = stopped (tree.Number 0 0 ∷ []); starts = tt; is = all_usual zero_items })
      where
        go_end : (u x : List Lexeme) (e : Expr) (es : List Expr) → LeadAgain u e → LeadAllEnd x es → LeadAllEnd (u ++ x) (e ∷ es)
        go_end u x e es h (all_usual r) = all_usual (item_go u x e es h r)
        go_end u x e es h (all_doomed a) = all_doomed (tail_go u x e h a)

    lead_items_sound : Leads Inside IsItems LeadAllEnd (Exprs.lead_items v)
    unfolding Exprs.lead_items
    lead_items_sound = leads_made (λ n. n.items ++ n.last) lead_loop_sound (λ u n h. h) (λ u n h. h)

    -- a parenthesized expression

    close_sound : (r : ℕ) (t : Lexeme) → t.kind ≡ kind.Mark mark.OPEN_PAREN → (u : List Lexeme) (es : List Expr) → IsItems u es → Leads Inside (Behind u (Behind (t ∷ []) (IsExpr m false d 0))) (Behind u (Behind (t ∷ []) (IsExpr m false d r))) (bind (expect mark.CLOSE_PAREN) (λ _. ret (tree.Paren t.start (list_case es))))
    close_sound r t e u es h = leads_made (λ _. tree.Paren t.start (list_case es)) (expect_sound mark.CLOSE_PAREN d) (λ x _ c. paren_is t e u x es h c) (λ x _ c. looser (omega arith) (t ∷ (u ++ x)) (tree.Paren t.start (list_case es)) (paren_is t e u x es h c))

    close_mend : (r : ℕ) (t : Lexeme) → t.kind ≡ kind.Mark mark.OPEN_PAREN → (u : List Lexeme) (es : List Expr) → IsItems u es → Mended Inside (Behind u (Behind (t ∷ []) (IsExpr m false d r)))
    close_mend r t e u es h = record { end = (mark_some mark.CLOSE_PAREN d).end; of = tree.Paren t.start (list_case es); starts = tt; is = looser (omega arith) (t ∷ (u ++ (mark_some mark.CLOSE_PAREN d).end)) (tree.Paren t.start (list_case es)) (paren_is t e u (mark_some mark.CLOSE_PAREN d).end es h (mark_some mark.CLOSE_PAREN d).is) }

    lead_mend : (t : Lexeme) → t.kind ≡ kind.Mark mark.OPEN_PAREN → (u : List Lexeme) (es : List Expr) → LeadAllEnd u es → Mended Inside (Behind u (Behind (t ∷ []) (IsExpr m false d 20)))
    lead_mend t e u es (all_usual h) = close_mend 20 t e u es h
    lead_mend t e u es (all_doomed a) = let x = tail_is false t e u a in some_done (Behind (t ∷ []) (IsExpr m false d 20)) u x.0 x.1

    pub paren_sound : (heads : Bool) (t : Lexeme) → t.kind ≡ kind.Mark mark.OPEN_PAREN → Leads Inside (Behind (t ∷ []) (IsExpr m false d 0)) (Behind (t ∷ []) (IsExpr m false d (top heads 0))) (Exprs.paren_of v heads t.start)
    unfolding Exprs.paren_of
    paren_sound true t e = leads_bind lead_items_sound (close_sound 20 t e) (lead_mend t e)
    paren_sound false t e = leads_bind items_sound (close_sound 0 t e) (close_mend 0 t e)
