-- The heads of arrows, arrows, and all calls that count for the depth: what is read fits its places, and faults can be
-- mended.
use Rattle.std.proofs.Common.{◌≡◌, ℕ, suc, List, [], ◌∷◌, ◌++◌, refl, sym, ap, ◌∙◌, subst, Bool, true, false, ◌||◌, not}
use Rattle.script_grammar.specs.declared.token.Kind.TheVariants as kind
use Rattle.script_grammar.specs.declared.token.FuncForm.TheVariants as form
use Rattle.script_grammar.specs.declared.token.mark.TheConstants as mark
use Rattle.script_grammar.specs.Lexeme.{Lexeme}
use Rattle.script_grammar.specs.Kinds.{is_mark, is_name}
use Rattle.script_grammar.specs.Tree.{Named, Expr, Body}
use Rattle.script_grammar.specs.Tree as tree
use Rattle.script_grammar.specs.TreeLists.{Param}
use Rattle.script_grammar.specs.Pieces.{Bodies, Fits}
use Rattle.script_grammar.specs.Print.{print, print_body}
use Rattle.script_grammar.specs.Proper.{ProperBody, begins_brace, body_free}
use Rattle.grammar_parser_specs.specs.Parser.{Parser, head_of, ret, bind, peek, when, Turn, Again, Stop, loop, Many, stopped, begun}
use Rattle.grammar_parser_specs.specs.Exprs
use Rattle.grammar_parser_specs.specs.Exprs.{Env, Calls, BodyParser, AnAssign, APrefix, ANew, AParam, ARest, ParamsEnd, Plain, Trailing, Rest, Head, BodyRead, Spanned, spanned, short_body, expect, named, param, head_case, bare_head, arrow_case, is_simple, is_arrow, is_param_form}
use Rattle.grammar_parser_laws.proofs.Friendly.{AtFront, Inside}
use Rattle.grammar_parser_laws.proofs.Fitting.{FitsAll, all_none, all_mark, all_name, all_glued, fits_until, EndsBy, lexeme_of_kind, zero_lexeme, zero_starts}
use Rattle.grammar_parser_laws.proofs.Tests.{mark_known, name_known, and_left, and_right, not_true}
use Rattle.grammar_parser_laws.proofs.Sound.{Leads, LeadsAt, Outcome, Sound, Mended, Behind, Begun, BeginsAt, here, started, sound_bind, leads_bind, sound_ret, sound_bad, sound_at, sound_peek, sound_look, at_step, at_when, at_bind, sound_first, sound_done, leads_done, some_done, sound_map, leads_map, leads_loop, sound_made, leads_made, at_inside, inside_outcome, end_outcome, sound_first_end}
use Rattle.grammar_parser_laws.proofs.Spanned.{at_spanned, spanned_outcome, WithEnd}
use Rattle.grammar_sound_laws.proofs.Fronts.{begins_no}
use Rattle.grammar_parser_laws.proofs.SoundParts.{IsExpr, IsBraced, SoundEnv, freed, zero_is, IsMark, expect_sound}
use Rattle.grammar_sound_laws.proofs.SoundFunctions.{FirstTurn, NextTurn, NextMany, ParamsMany, next_go, params_first, params_rest, params_none, head_is, behind_comma}
use Rattle.grammar_sound_laws.proofs.SoundArrows.{ArrowHead, IsArrowMark, ArrowBody, arrow_is, arrow_lexeme, arrow_mark_is, zero_body, zero_body_is}

module _ (m : Bodies) (d : ℕ) where
  -- a head, or an expression where nothing was read of one
  pub data HeadEnd (u : List Lexeme) (h : Head) : Type 0 where
    head_usual : ArrowHead m d u h → HeadEnd u h
    head_other : (e : Expr) → IsExpr m false d 20 u e → HeadEnd u h

  module _ (v : Env) (s : SoundEnv m d v) where
    abbrev close_lexeme : Lexeme
    close_lexeme = lexeme_of_kind (kind.Mark mark.CLOSE_PAREN)

    arrow_first_sound : Sound Inside (FirstTurn m (suc d)) (Exprs.arrow_first v)
    unfolding Exprs.arrow_first
    arrow_first_sound =
        let rest : Sound Inside (FirstTurn m (suc d)) (bind (v.sub ARest) Exprs.rest_stop) = leads_made (λ n. Stop (Rest n)) s.calls.rest (λ u n h. h) (λ u n h. h) in
        let one : Sound Inside (FirstTurn m (suc d)) (bind (v.sub AParam) Exprs.again) = leads_made Again s.calls.param (λ u p h. h) (λ u p h. h) in
        sound_peek (λ t. at_when (is_mark mark.ELLIPSIS t.kind) (λ _. sound_at t rest) (λ _. sound_at t one)) one

    arrow_next_sound : (t : Lexeme) → t.kind ≡ kind.Mark mark.COMMA → Sound Inside (Behind (t ∷ []) (NextTurn m (suc d) d)) (Exprs.arrow_next v)
    unfolding Exprs.arrow_next
    arrow_next_sound t e =
        let item : Sound Inside (Behind (t ∷ []) (NextTurn m (suc d) d)) (Exprs.arrow_first v) = leads_map (λ u p h. behind_comma m d v s (suc d) t e u p h) (λ u p h. behind_comma m d v s (suc d) t e u p h) arrow_first_sound in
        sound_peek (λ x. at_when (is_mark mark.CLOSE_PAREN x.kind) (λ _. sound_at x (sound_ret {a = Stop Trailing} (all_mark mark.COMMA d t e))) (λ _. sound_at x item)) item

    arrow_turn_sound : Sound Inside (NextTurn m (suc d) d) (Exprs.arrow_turn v)
    unfolding Exprs.arrow_turn
    arrow_turn_sound = sound_peek (λ t. at_when (is_mark mark.COMMA t.kind) (λ e. at_step t (arrow_next_sound t (mark_known mark.COMMA t.kind e))) (λ _. sound_at t (sound_ret {a = Stop Plain} all_none))) (sound_ret {a = Stop Plain} all_none)

    next_stop : (u : List Lexeme) (e : ParamsEnd) → NextTurn m (suc d) d u (Stop e) → NextMany m (suc d) d u (stopped e)
    next_stop u e h = record { single = tt; proper = tt; fits = h }

    none_left : NextMany m (suc d) d [] (stopped Plain)
    none_left = record { single = tt; proper = tt; fits = all_none }

    next_fault : (u : List Lexeme) (t : Turn Param ParamsEnd) → NextTurn m (suc d) d u t → Mended Inside (Behind u (NextMany m (suc d) d))
    next_fault u (Again p) h = record { end = []; of = begun p (stopped Plain); starts = tt; is = next_go m (suc d) d u [] p (stopped Plain) h none_left }
    next_fault u (Stop e) h = some_done (NextMany m (suc d) d) u (stopped e) (next_stop u e h)

    arrow_loop_sound : Sound Inside (NextMany m (suc d) d) (loop (Exprs.arrow_turn v))
    arrow_loop_sound = leads_loop (NextTurn m (suc d) d) (NextTurn m (suc d) d) (NextMany m (suc d) d) (NextMany m (suc d) d) (Exprs.arrow_turn v) arrow_turn_sound
        next_stop
        (λ u x p n h r. next_go m (suc d) d u x p n h r)
        (λ u x p n h r. next_go m (suc d) d u x p n h r)
        next_fault
        (record { end = []; of = stopped Plain; starts = tt; is = none_left })

    arrow_led_sound : (u : List Lexeme) (t : Turn Param ParamsEnd) → FirstTurn m (suc d) u t → Sound Inside (Behind u (ParamsMany m (suc d) d)) (Exprs.params_led (Exprs.arrow_turn v) t)
    arrow_led_sound u (Again p) h = leads_made (begun p) arrow_loop_sound (λ x n r. params_first m (suc d) d u x p n h r) (λ x n r. params_first m (suc d) d u x p n h r)
    arrow_led_sound u (Stop Plain) h = absurd h
    arrow_led_sound u (Stop Trailing) h = absurd h
    arrow_led_sound u (Stop (Rest n)) h = leads_done (ParamsMany m (suc d) d) (ParamsMany m (suc d) d) u (stopped (Rest n)) (params_rest m (suc d) d u n h)

    led_mend : (u : List Lexeme) (t : Turn Param ParamsEnd) → FirstTurn m (suc d) u t → Mended Inside (Behind u (ParamsMany m (suc d) d))
    led_mend u (Again p) h = record { end = []; of = begun p (stopped Plain); starts = tt; is = params_first m (suc d) d u [] p (stopped Plain) h none_left }
    led_mend u (Stop Plain) h = absurd h
    led_mend u (Stop Trailing) h = absurd h
    led_mend u (Stop (Rest n)) h = some_done (ParamsMany m (suc d) d) u (stopped (Rest n)) (params_rest m (suc d) d u n h)

    arrow_params_sound : Sound Inside (ParamsMany m (suc d) d) (Exprs.arrow_params v)
    unfolding Exprs.arrow_params
    arrow_params_sound =
        let all : Sound Inside (ParamsMany m (suc d) d) (bind (Exprs.arrow_first v) (Exprs.params_led (Exprs.arrow_turn v))) = leads_bind arrow_first_sound arrow_led_sound led_mend in
        sound_peek (λ t. at_when (is_mark mark.CLOSE_PAREN t.kind) (λ _. sound_at t (sound_ret {a = stopped Plain} (params_none m (suc d) d))) (λ _. sound_at t all)) all

    head_arrow : (t : Lexeme) → t.kind ≡ kind.Mark mark.OPEN_PAREN → (u x : List Lexeme) (n : Many Param ParamsEnd) → ParamsMany m (suc d) d u n → IsMark mark.CLOSE_PAREN d x tt → ArrowHead m d (t ∷ (u ++ x)) (head_case t.start n)
    head_arrow t e u x n r c = let h = head_is m (suc d) d t u x n e r c in record { are = h.are; bare = tt; proper = h.proper; fits = h.fits }

    listed_mend : (t : Lexeme) → t.kind ≡ kind.Mark mark.OPEN_PAREN → (u : List Lexeme) (n : Many Param ParamsEnd) → ParamsMany m (suc d) d u n → Mended Inside (Behind u (Behind (t ∷ []) HeadEnd))
    listed_mend t e u n r = record { end = close_lexeme ∷ []; of = head_case t.start n; starts = tt; is = head_usual (head_arrow t e u (close_lexeme ∷ []) n r (close_is close_lexeme refl)) }
      where
        close_is : (t : Lexeme) → t.kind ≡ kind.Mark mark.CLOSE_PAREN → IsMark mark.CLOSE_PAREN d (t ∷ []) tt
        close_is t e = all_mark mark.CLOSE_PAREN d t e

    listed_sound : (t : Lexeme) → t.kind ≡ kind.Mark mark.OPEN_PAREN → Leads Inside (Behind (t ∷ []) (ArrowHead m d)) (Behind (t ∷ []) HeadEnd) (Exprs.arrow_listed v t.start)
    unfolding Exprs.arrow_listed
    listed_sound t e = leads_bind arrow_params_sound (λ u n r. leads_made (λ _. head_case t.start n) (expect_sound mark.CLOSE_PAREN d) (λ x _ c. head_arrow t e u x n r c) (λ x _ c. head_usual (head_arrow t e u x n r c))) (listed_mend t e)

    bare_is : (t : Lexeme) → t.kind ≡ kind.Name → ArrowHead m d (t ∷ []) (bare_head t)
    bare_is t e = record { are = tt; bare = (refl, refl); proper = (tt, tt); fits = all_name d t e }

    pub arrow_head_sound : Leads AtFront (ArrowHead m d) HeadEnd (Exprs.arrow_head v)
    unfolding Exprs.arrow_head
    arrow_head_sound =
        let some : Mended AtFront HeadEnd = record { end = zero_lexeme ∷ []; of = bare_head zero_lexeme; starts = zero_starts; is = head_other (tree.Number 0 0) (zero_is m false d 20) } in
        sound_peek (λ t.
        at_when (is_name t.kind) (λ e. at_step t (sound_ret {a = bare_head t} (bare_is t (name_known t.kind e)))) (λ _.
        at_when (is_mark mark.OPEN_PAREN t.kind) (λ e. at_step t (listed_sound t (mark_known mark.OPEN_PAREN t.kind e))) (λ _. sound_at t (sound_bad some)))) (sound_bad some)

    -- the mark, on the line of what stands before it
    pub arrow_mark_sound : Sound Inside (IsArrowMark m d) Exprs.arrow_mark
    unfolding Exprs.arrow_mark
    arrow_mark_sound =
        let some : Mended Inside (IsArrowMark m d) = record { end = arrow_lexeme m d ∷ []; of = tt; starts = tt; is = arrow_mark_is m d } in
        sound_peek (λ t. at_when (is_arrow t) (λ e. at_step t (sound_ret {a = tt} (all_glued mark.ARROW d t (mark_known mark.ARROW t.kind (and_left (is_mark mark.ARROW t.kind) (not t.after_line) e)) (not_true t.after_line (and_right (is_mark mark.ARROW t.kind) (not t.after_line) e))))) (λ _. sound_at t (sound_bad some))) (sound_bad some)

    -- a body

    first_no_brace : (t : Lexeme) → is_mark mark.OPEN_BRACE t.kind ≡ false → (w : Bool) (u : List Lexeme) (e : Expr) → IsExpr m w (suc d) 20 u e → Begun t u → begins_brace e ≡ false
    first_no_brace t k w [] e q (here b) = absurd b
    first_no_brace t k w (x ∷ u) e q (here b) = begins_no (is_mark mark.OPEN_BRACE) m _ (suc d) 1 e x u x q.proper (q.fits.before x) (ap (λ y. is_mark mark.OPEN_BRACE y.kind) b ∙ k)
    first_no_brace t k w u e q (started x v h z) = begins_no (is_mark mark.OPEN_BRACE) m _ (suc d) 1 e x v x q.proper (subst (λ y. Fits (print m (suc d) e) y x) h (q.fits.before x)) (ap (is_mark mark.OPEN_BRACE) z.number)

    short_is : (w : Bool) (t : Lexeme) → is_mark mark.OPEN_BRACE t.kind ≡ false → (u : List Lexeme) (x : Spanned Expr) → IsExpr m w (suc d) 20 u x.value → Begun t u → EndsBy u x.end → ArrowBody m d w u (short_body x)
    short_is w t k u x q b e = record {
      proper = (refl, q.rank_le, first_no_brace t k w u x.value q b, q.proper);
      in_if = q.in_if;
      fits = record { before = λ n. fits_until (print m (suc d) x.value) u n x.end e (q.fits.before n) };
    }

    braced_is : (w : Bool) (u : List Lexeme) (b : BodyRead) → IsBraced m d form.Arrow u b → ArrowBody m d w u b
    braced_is w u b h = record {
      proper = subst (λ y. ProperBody m form.Arrow y) (sym h.is) h.proper;
      in_if = subst (λ y. (w || body_free y) ≡ true) (sym h.is) (free_none w);
      fits = subst (λ y. FitsAll (print_body m d b.end y) u) (sym h.is) h.fits;
    }
      where
        free_none : (w : Bool) → (w || true) ≡ true
        free_none true = refl
        free_none false = refl

    abbrev Short : Bool → Lexeme → List Lexeme → Expr → Type 0
    Short w t u e = IsExpr m w (suc d) 20 u e × BeginsAt t u

    abbrev ShortEnd : Bool → Lexeme → List Lexeme → Expr → Type 0
    ShortEnd w t u e = IsExpr m w (suc d) 20 u e × Begun t u

    -- a braced body that is read so, or an expression
    module _ (w : Bool) (R : List Lexeme → BodyRead → Type 0) (braced : Parser BodyRead) (are : Sound Inside R braced) (short : (u : List Lexeme) (x : Spanned Expr) → ArrowBody m d w u (short_body x) → R u (short_body x)) where
      short_mend : (t : Lexeme) → is_mark mark.OPEN_BRACE t.kind ≡ false → (u : List Lexeme) (x : Spanned Expr) → WithEnd (ShortEnd w t) u x → Mended Inside (Behind u R)
      short_mend t k u x q = some_done R u (short_body x) (short u x (short_is w t k u x q.0.0 q.0.1 q.1))

      short_sound : (t : Lexeme) → is_mark mark.OPEN_BRACE t.kind ≡ false → LeadsAt Inside R R t (bind (spanned (v.sub (AnAssign w))) (λ x. ret (short_body x)))
      short_sound t k = at_bind (at_spanned (at_inside (sound_first t (s.calls.assign w)))) (λ u x q. sound_done R u (short_body x) (short u x (short_is w t k u x q.0.0 (here q.0.1) q.1))) (short_mend t k)

      short_end : Outcome Inside R R [] (bind (spanned (v.sub (AnAssign w))) (λ x. ret (short_body x)) [])
      short_end =
          let t : Lexeme = head_of [] in
          inside_outcome R R [] (bind (spanned (v.sub (AnAssign w))) (λ x. ret (short_body x)) [])
          (end_outcome (WithEnd (Short w t)) (WithEnd (ShortEnd w t)) R R (λ x. ret (short_body x)) (short_mend t refl) (spanned (v.sub (AnAssign w)) [])
          (spanned_outcome AtFront (Short w t) (ShortEnd w t) [] (v.sub (AnAssign w) []) (sound_first_end t (s.calls.assign w))))

      pub either_body_sound : Sound Inside R (peek (λ t. when (is_mark mark.OPEN_BRACE t.kind) braced (bind (spanned (v.sub (AnAssign w))) (λ x. ret (short_body x)))))
      either_body_sound = sound_look (λ t. at_when (is_mark mark.OPEN_BRACE t.kind) (λ _. sound_at t are) (short_sound t)) short_end

    arrow_body_sound : (w : Bool) (h : Head) → Sound Inside (ArrowBody m d w) (Exprs.arrow_body v w h)
    unfolding Exprs.arrow_body
    arrow_body_sound w h = record { at = λ ts. (either_body_sound w (ArrowBody m d w) (v.body form.Arrow h.start (is_simple h.params)) (sound_map (λ u b r. braced_is w u b r) (s.body.braced form.Arrow h.start (is_simple h.params))) (λ u x q. q)).at ts }

    head_mend : (w : Bool) (u : List Lexeme) (h : Head) → HeadEnd u h → Mended Inside (Behind u (IsExpr m w d 20))
    head_mend w u h (head_usual p) = record { end = arrow_lexeme m d ∷ zero_lexeme ∷ []; of = arrow_case h (zero_body m d); starts = tt; is = arrow_is m d w u (arrow_lexeme m d ∷ []) (zero_lexeme ∷ []) h (zero_body m d) p (arrow_mark_is m d) (zero_body_is m d w) }
    head_mend w u h (head_other e q) = some_done (IsExpr m w d 20) u e (freed u e q)

    pub arrow_sound : (w : Bool) → Sound AtFront (IsExpr m w d 20) (Exprs.arrow_of v w)
    unfolding Exprs.arrow_of
    arrow_sound w = leads_bind arrow_head_sound
        (λ u h p. sound_bind arrow_mark_sound (λ x _ c. sound_made (arrow_case h) (arrow_body_sound w h) (λ y b q. arrow_is m d w u x y h b p c q)))
        (head_mend w)
