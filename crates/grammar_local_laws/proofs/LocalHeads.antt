-- Items in a parenthesis that does not end: read as items and as parameters they have the same fault, or both run out.
use Rattle.std.proofs.Common.{◌≡◌, ℕ, zero, suc, ◌+◌, ◌≤◌, ◌<◌, List, [], ◌∷◌, ◌++◌, length, refl, sym, ap, ◌∙◌, subst, arith, length-append, append-nil, Bool, true, false, ◌||◌, Some, inl, inr}
use Rattle.script_grammar.specs.declared.token.mark.TheConstants as mark
use Rattle.script_grammar.specs.Lexeme.{Lexeme}
use Rattle.script_grammar.specs.Kinds.{is_mark, is_name}
use Rattle.script_grammar.specs.Tree.{Named, Expr}
use Rattle.script_grammar.specs.Tree as tree
use Rattle.script_grammar.specs.TreeLists.{Param}
use Rattle.script_grammar.specs.Pieces.{Bodies, Piece, paren, open_at_end}
use Rattle.grammar_parser_specs.specs.Parser.{Recorded, Reply, Read, Bad, Deep, Parser, head_of, noted, after, ret, bad, bind, step, when, Turn, Again, Stop, Many, stopped, begun, turned, turns, loop, end_lexeme}
use Rattle.grammar_parser_specs.specs.Exprs
use Rattle.grammar_parser_specs.specs.Exprs.{Env, AnAssign, AParam, ARest, ParamsEnd, Plain, Trailing, Rest, expect, again, is_param_form, only_params}
use Rattle.grammar_parser_laws.proofs.Tests.{bool_cases, mark_known, and_left, or_right}
use Rattle.grammar_parser_laws.proofs.Local.{Local, Same, out, kept, left, grown, grown_records, grown_noted, left_noted, after_shorter, local_ret, local_bind, local_loop, local_turned, local_turns}
use Rattle.grammar_parser_laws.proofs.Sound.{sound_inside}
use Rattle.grammar_parser_laws.proofs.Fitting.{FitsAll}
use Rattle.grammar_parser_laws.proofs.Nested.{Nested, nested_none, mark_cons, name_cons}
use Rattle.grammar_parser_laws.proofs.NestedTrees.{nested_expr}
use Rattle.grammar_parser_laws.proofs.SoundParts.{IsExpr, IsRest, SoundEnv}
use Rattle.grammar_local_laws.proofs.LocalExprs.{LocalEnv, NameEnd, deep_end, read_end, no_form, more_turn_local, more_turn_gains, expect_local, doomed_local, noted_twice, after_noted, after_twice, params_led_local, lead_turn_local, lead_end_local}
use Rattle.grammar_local_laws.proofs.LocalArrows.{arrow_next_local, arrow_turn_local, arrow_turn_gains, arrow_params_local}
use Rattle.grammar_local_laws.proofs.LocalRace.{RunsOut, close_last, comma_runs, read_runs, read_flat, IsRead, WhereRead, Close, close_out, close_here, close_stuck, close_bad, close_deep, close_race, close_reads, Race, expect_close, expect_stuck}
use Rattle.grammar_parser_laws.proofs.Flat.{flat_expr}
use Rattle.grammar_sound_laws.proofs.Lone.{form_name}
use Rattle.grammar_parser_laws.proofs.ParamsBegin.{comma_params, name_params, params_start}

-- records before replies

pub read_noted : {A : Type 0} (rs ps : List Recorded) (a : A) (us : List Lexeme) → noted rs (Read a ps us) ≡ Read a (rs ++ ps) us
read_noted [] ps a us = refl
read_noted (b ∷ rs) ps a us = refl

bad_noted : (A : Type 0) (rs ps : List Recorded) (us : List Lexeme) → noted {A = A} rs (Bad ps us) ≡ Bad (rs ++ ps) us
bad_noted A [] ps us = refl
bad_noted A (b ∷ rs) ps us = refl

deep_noted : (A : Type 0) (rs ps : List Recorded) (us : List Lexeme) → noted {A = A} rs (Deep ps us) ≡ Deep (rs ++ ps) us
deep_noted A [] ps us = refl
deep_noted A (b ∷ rs) ps us = refl

close_noted : {A B : Type 0} (q : List Lexeme) (rs : List Recorded) (r : Reply A) (s : Reply B) → Close q r s → Close q (noted rs r) (noted (grown_records q rs) s)
close_noted q rs r s (close_out z h) = close_out (ap length (left_noted rs r) ∙ z) (omega (arith, h, ap length (left_noted (grown_records q rs) s)))
close_noted q rs r s (close_here a ps c e k h) = close_here a (rs ++ ps) c (ap (λ x. noted rs x) e ∙ read_noted rs ps a (c ∷ [])) k (h.0, grown_records q rs ++ h.1, ap (λ x. noted (grown_records q rs) x) h.2 ∙ read_noted (grown_records q rs) h.1 h.0 q)
close_noted {B = B} q rs r s (close_stuck a ps y us e k f) = close_stuck a (rs ++ ps) y us (ap (λ x. noted rs x) e ∙ read_noted rs ps a (y ∷ us)) k (let end : Reply B = Bad [] (y ∷ us) in ap (λ x. noted (grown_records q rs) x) f ∙ grown_noted q rs (noted ps end) ∙ sym (ap (λ x. grown q x) (noted_twice rs ps end)))
close_noted {A = A} {B = B} q rs r s (close_bad ps us e f) = close_bad (rs ++ ps) us (ap (λ x. noted rs x) e ∙ bad_noted A rs ps us) (let end : Reply B = Bad ps us in ap (λ x. noted (grown_records q rs) x) f ∙ grown_noted q rs end ∙ ap (λ x. grown q x) (bad_noted B rs ps us))
close_noted {A = A} {B = B} q rs r s (close_deep ps us e f) = close_deep (rs ++ ps) us (ap (λ x. noted rs x) e ∙ deep_noted A rs ps us) (let end : Reply B = Deep ps us in ap (λ x. noted (grown_records q rs) x) f ∙ grown_noted q rs end ∙ ap (λ x. grown q x) (deep_noted B rs ps us))

close_map : {A A2 B : Type 0} (q : List Lexeme) (r : Reply A) (s : Reply B) (h : A → A2) → Close q r s → Close q (after r (λ a. ret (h a))) s
close_map q r s h (close_out z k) = close_out (omega (arith, z, after_shorter (λ a. ret (h a)) (λ a. local_ret (h a)) r)) k
close_map q r s h (close_here a rs c e k l) = close_here (h a) (rs ++ []) c (ap (λ x. after x (λ a. ret (h a))) e ∙ read_noted rs [] (h a) (c ∷ [])) k l
close_map q r s h (close_stuck a rs y us e k f) = close_stuck (h a) (rs ++ []) y us (ap (λ x. after x (λ a. ret (h a))) e ∙ read_noted rs [] (h a) (y ∷ us)) k (f ∙ ap (λ x. grown q (noted x (Bad [] (y ∷ us)))) (sym (append-nil rs)))
close_map q r s h (close_bad rs us e f) = close_bad rs us (ap (λ x. after x (λ a. ret (h a))) e) f
close_map q r s h (close_deep rs us e f) = close_deep rs us (ap (λ x. after x (λ a. ret (h a))) e) f

-- how an item of the form of a parameter is read, as an item and as a parameter
pub data Pair (q : List Lexeme) (r : Reply Expr) (s : Reply Param) : Type 0 where
  pair_out : length (left r) ≡ 0 → length (left s) ≤ length q → Pair q r s
  pair_bad : (rs : List Recorded) (us : List Lexeme) → r ≡ Bad rs us → s ≡ Bad (grown_records q rs) (us ++ q) → Pair q r s
  pair_deep : (rs : List Recorded) (us : List Lexeme) → r ≡ Deep rs us → s ≡ Deep (grown_records q rs) (us ++ q) → Pair q r s
  pair_read : (e : Expr) (p : Param) (rs : List Recorded) (us : List Lexeme) → r ≡ Read e rs us → s ≡ Read p (grown_records q rs) (us ++ q) → Pair q r s

module _ (v : Env) (l : LocalEnv v) (q : List Lexeme) where
  abbrev Leading : Type 0
  Leading = Turn Expr (List Expr)

  abbrev Arrowing : Type 0
  Arrowing = Turn Param ParamsEnd

  -- one turn of each, without records
  data Later (zs : List Lexeme) : Reply Leading → Reply Arrowing → Type 0 where
    later_again : (e : Expr) (p : Param) (c : Lexeme) (us : List Lexeme) → is_mark mark.COMMA c.kind ≡ true → RunsOut (paren ∷ []) us → only_params true (paren ∷ []) (us ++ q) ≡ true → length us < length zs → Later zs (Read (Again e) [] us) (Read (Again p) [] (c ∷ (us ++ q)))
    later_item : (es : List Expr) (p : Param) (y : Lexeme) (us : List Lexeme) → is_mark mark.COMMA y.kind ≡ false → RunsOut (paren ∷ []) (y ∷ us) → Later zs (Read (Stop es) [] (y ∷ us)) (Read (Again p) [] (y ∷ (us ++ q)))
    later_rest : (n : Named) (y : Lexeme) (us : List Lexeme) → RunsOut (paren ∷ []) (y ∷ us) → Later zs (Exprs.doomed (y ∷ us)) (Read (Stop (Rest n)) [] (y ∷ (us ++ q)))

  data TurnRace (zs : List Lexeme) (r : Reply Leading) (s : Reply Arrowing) : Type 0 where
    turn_out : length (left r) ≡ 0 → length (left s) ≤ length q → TurnRace zs r s
    turn_bad : (rs : List Recorded) (us : List Lexeme) → r ≡ Bad rs us → s ≡ Bad (grown_records q rs) (us ++ q) → TurnRace zs r s
    turn_deep : (rs : List Recorded) (us : List Lexeme) → r ≡ Deep rs us → s ≡ Deep (grown_records q rs) (us ++ q) → TurnRace zs r s
    turn_later : (rs : List Recorded) (x : Reply Leading) (y : Reply Arrowing) → r ≡ noted rs x → s ≡ noted (grown_records q rs) y → Later zs x y → TurnRace zs r s

  -- the closing parenthesis after the parameters
  abbrev Ending : {B : Type 0} → (Many Param ParamsEnd → B) → Many Param ParamsEnd → Parser B
  Ending g m = bind (expect mark.CLOSE_PAREN) (λ _. ret (g m))

  ending_local : {B : Type 0} (g : Many Param ParamsEnd → B) (m : Many Param ParamsEnd) → Local (Ending g m)
  ending_local g m = local_bind (expect_local mark.CLOSE_PAREN) (λ _. local_ret (g m))

  -- after the turn for one parameter
  pub record Behind (limit : ℕ) (more : Turn Param ParamsEnd → Parser (Many Param ParamsEnd)) : Type 0 where
    near : (t : Turn Param ParamsEnd) → Local (more t)
    steps : List Lexeme → ℕ
    enough : (us : List Lexeme) → length us ≤ limit → length us ≤ steps us
    goes : (p : Param) (us : List Lexeme) → more (Again p) us ≡ after (turns (Exprs.arrow_turn v) (suc (steps us)) us) (λ m. ret (begun p m))
    stops : (e : ParamsEnd) (us : List Lexeme) → more (Stop e) us ≡ Read (stopped e) [] us

  -- what all items after a comma do
  abbrev Rests : ℕ → List Lexeme → Type 1
  Rests n zs = (B : Type 0) (g : Many Param ParamsEnd → B) (k : ℕ) → length (zs ++ q) < k → Close q (turns (Exprs.lead_turn v) n zs) (after (after (Exprs.arrow_next v (zs ++ q)) (turned (turns (Exprs.arrow_turn v) k))) (Ending g))

  ending_here : {B : Type 0} (g : Many Param ParamsEnd → B) (m : Many Param ParamsEnd) (c : Lexeme) (us : List Lexeme) → is_mark mark.CLOSE_PAREN c.kind ≡ true → Ending g m (c ∷ us) ≡ Read (g m) [] us
  ending_here g m c us e = ap (λ r. after r (λ _. ret (g m))) (expect_close c us e)

  ending_stuck : {B : Type 0} (g : Many Param ParamsEnd → B) (m : Many Param ParamsEnd) (y : Lexeme) (us : List Lexeme) → is_mark mark.CLOSE_PAREN y.kind ≡ false → Ending g m (y ∷ us) ≡ Bad [] (y ∷ us)
  ending_stuck g m y us e = ap (λ r. after r (λ _. ret (g m))) (expect_stuck y us e)

  -- an item and its end, or a fault, on the second side
  ended : {A B : Type 0} (a : A) (y : Lexeme) (us : List Lexeme) (s : Reply B) (g : Many Param ParamsEnd → B) (m : Many Param ParamsEnd) → RunsOut (paren ∷ []) (y ∷ us) → s ≡ Ending g m (y ∷ (us ++ q)) → (b : Bool) → is_mark mark.CLOSE_PAREN y.kind ≡ b → Close q (Read a [] (y ∷ us)) s
  ended a y us s g m h e true k = close_here a [] y (ap (λ x. Read a [] (y ∷ x)) (close_last y us k h)) k (g m, [], e ∙ ending_here g m y (us ++ q) k ∙ ap (λ x. Read (g m) [] (x ++ q)) (close_last y us k h))
  ended a y us s g m h e false k = close_stuck a [] y us refl k (e ∙ ending_stuck g m y (us ++ q) k)

  module _ (limit : ℕ) (more : Turn Param ParamsEnd → Parser (Many Param ParamsEnd)) (b : Behind limit more) (n : ℕ) where
    abbrev pub first_side : Reply Leading → Reply (Many Expr (List Expr))
    first_side r = after r (turned (turns (Exprs.lead_turn v) n))

    -- the doomed, on the first side
    doomed_side : {B : Type 0} (y : Lexeme) (us : List Lexeme) (s : Reply B) (g : Many Param ParamsEnd → B) (m : Many Param ParamsEnd) → RunsOut (paren ∷ []) (y ∷ us) → s ≡ Ending g m (y ∷ (us ++ q)) → (c : Bool) → is_mark mark.CLOSE_PAREN y.kind ≡ c → Close q (first_side (Exprs.doomed (y ∷ us))) s
    doomed_side y us s g m h e true k =
        let none = close_last y us k h in
        close_out (ap (λ x. length (left (after (after x (λ _. bad {A = Leading})) (turned (turns (Exprs.lead_turn v) n))))) (expect_close y us k) ∙ ap length none)
        (omega (arith, ap (λ x. length (left x)) (e ∙ ending_here g m y (us ++ q) k), ap length (ap (λ x. x ++ q) none)))
    doomed_side y us s g m h e false k = close_bad [] (y ∷ us) (ap (λ x. after (after x (λ _. bad {A = Leading})) (turned (turns (Exprs.lead_turn v) n))) (expect_stuck y us k)) (e ∙ ending_stuck g m y (us ++ q) k)

    comma_turn : (c : Lexeme) (us : List Lexeme) → is_mark mark.COMMA c.kind ≡ true → Exprs.arrow_turn v (c ∷ us) ≡ Exprs.arrow_next v us
    unfolding Exprs.arrow_turn
    comma_turn c us e = ap (λ b. when b (step (Exprs.arrow_next v)) (ret (Stop Plain)) (c ∷ us)) e

    other_turn : (y : Lexeme) (us : List Lexeme) → is_mark mark.COMMA y.kind ≡ false → Exprs.arrow_turn v (y ∷ us) ≡ Read (Stop Plain) [] (y ∷ us)
    unfolding Exprs.arrow_turn
    other_turn y us e = ap (λ b. when b (step (Exprs.arrow_next v)) (ret (Stop Plain)) (y ∷ us)) e

    -- after a parameter, at a comma and at another lexeme
    again_comma : {B : Type 0} (g : Many Param ParamsEnd → B) (p : Param) (c : Lexeme) (us : List Lexeme) → is_mark mark.COMMA c.kind ≡ true → after (more (Again p) (c ∷ us)) (Ending g) ≡ after (after (Exprs.arrow_next v us) (turned (turns (Exprs.arrow_turn v) (b.steps (c ∷ us))))) (Ending (λ m. g (begun p m)))
    unfolding turns
    again_comma g p c us e =
        ap (λ x. after x (Ending g)) (b.goes p (c ∷ us))
        ∙ after_twice (turns (Exprs.arrow_turn v) (suc (b.steps (c ∷ us))) (c ∷ us)) (λ m. ret (begun p m)) (Ending g)
        ∙ ap (λ x. after (after x (turned (turns (Exprs.arrow_turn v) (b.steps (c ∷ us))))) (Ending (λ m. g (begun p m)))) (comma_turn c us e)

    again_other : {B : Type 0} (g : Many Param ParamsEnd → B) (p : Param) (y : Lexeme) (us : List Lexeme) → is_mark mark.COMMA y.kind ≡ false → after (more (Again p) (y ∷ us)) (Ending g) ≡ Ending g (begun p (stopped Plain)) (y ∷ us)
    unfolding turns
    again_other g p y us e =
        ap (λ x. after x (Ending g)) (b.goes p (y ∷ us))
        ∙ ap (λ x. after (after (after x (turned (turns (Exprs.arrow_turn v) (b.steps (y ∷ us))))) (λ m. ret (begun p m))) (Ending g)) (other_turn y us e)

    later_close : {B : Type 0} (g : Many Param ParamsEnd → B) (zs : List Lexeme) (x : Reply Leading) (y : Reply Arrowing) → ((us : List Lexeme) → length us < length zs → RunsOut (paren ∷ []) us → only_params true (paren ∷ []) (us ++ q) ≡ true → Rests n us) → length zs + length q ≤ limit → Later zs x y → Close q (first_side x) (after (after y more) (Ending g))
    later_close {B} g zs x y i z (later_again e p c us k h f s) =
        subst (λ r. Close q (after (turns (Exprs.lead_turn v) n us) (λ m. ret (begun e m))) r) (sym (again_comma g p c (us ++ q) k))
        (close_map q (turns (Exprs.lead_turn v) n us) _ (begun e) (i us s h f B (λ m. g (begun p m)) (b.steps (c ∷ (us ++ q))) (omega (arith, length-append us q, b.enough (c ∷ (us ++ q)) (omega (arith, length-append us q, s, z))))))
    later_close g zs x y i z (later_item es p c us k h) = ended (stopped es) c us _ g (begun p (stopped Plain)) h (again_other g p c (us ++ q) k) (is_mark mark.CLOSE_PAREN c.kind) refl
    later_close g zs x y i z (later_rest m c us h) = doomed_side c us _ g (stopped (Rest m)) h (ap (λ r. after r (Ending g)) (b.stops (Rest m) (c ∷ (us ++ q)))) (is_mark mark.CLOSE_PAREN c.kind) refl

    after_more : {B : Type 0} (g : Many Param ParamsEnd → B) (r : Reply Arrowing) → length (left (after (after r more) (Ending g))) ≤ length (left r)
    after_more g r = omega (arith, after_shorter more b.near r, after_shorter (Ending g) (ending_local g) (after r more))

    turn_close : {B : Type 0} (g : Many Param ParamsEnd → B) (zs : List Lexeme) (r : Reply Leading) (s : Reply Arrowing) → ((us : List Lexeme) → length us < length zs → RunsOut (paren ∷ []) us → only_params true (paren ∷ []) (us ++ q) ≡ true → Rests n us) → length zs + length q ≤ limit → TurnRace zs r s → Close q (first_side r) (after (after s more) (Ending g))
    turn_close g zs r s i w (turn_out z h) = close_out (omega (arith, z, after_shorter (turned (turns (Exprs.lead_turn v) n)) (local_turned (turns (Exprs.lead_turn v) n) (local_turns (Exprs.lead_turn v) (lead_turn_local v l) n)) r)) (omega (arith, h, after_more g s))
    turn_close g zs r s i w (turn_bad rs us e f) = close_bad rs us (ap (λ x. after x (turned (turns (Exprs.lead_turn v) n))) e) (ap (λ x. after (after x more) (Ending g)) f)
    turn_close g zs r s i w (turn_deep rs us e f) = close_deep rs us (ap (λ x. after x (turned (turns (Exprs.lead_turn v) n))) e) (ap (λ x. after (after x more) (Ending g)) f)
    turn_close g zs r s i w (turn_later rs x y e f h) =
        subst (λ a. Close q a (after (after s more) (Ending g))) (sym (ap (λ a. after a (turned (turns (Exprs.lead_turn v) n))) e ∙ after_noted rs x (turned (turns (Exprs.lead_turn v) n))))
        (subst (λ a. Close q (noted rs (after x (turned (turns (Exprs.lead_turn v) n)))) a) (sym (ap (λ a. after (after a more) (Ending g)) f ∙ ap (λ a. after a (Ending g)) (after_noted (grown_records q rs) y more) ∙ after_noted (grown_records q rs) (after y more) (Ending g)))
        (close_noted q rs (after x (turned (turns (Exprs.lead_turn v) n))) (after (after y more) (Ending g)) (later_close g zs x y i w h)))

  -- one turn of both

  module _ (m : Bodies) (d : ℕ) (s : SoundEnv m d v)
      (pair : (t u : Lexeme) (us : List Lexeme) → is_param_form t u ≡ true → Pair q (v.sub (AnAssign true) (t ∷ u ∷ us)) (v.sub AParam (t ∷ u ∷ (us ++ q)))) where
    open_all : {ps : List Piece} {w : List Lexeme} → Nested ps → FitsAll ps w → open_at_end (paren ∷ []) w ≡ Some (paren ∷ [])
    open_all {w = w} x f = x.at w end_lexeme (f.before end_lexeme) (paren ∷ [])

    rest_open : (w : List Lexeme) (n : Named) → IsRest (suc d) w n → open_at_end (paren ∷ []) w ≡ Some (paren ∷ [])
    rest_open w n h = open_all (mark_cons mark.ELLIPSIS (suc d) _ (omega arith) (name_cons _ [] refl nested_none)) h

    expr_open : (w : List Lexeme) (e : Expr) → IsExpr m true (suc d) 20 w e → open_at_end (paren ∷ []) w ≡ Some (paren ∷ [])
    expr_open w e h = open_all (nested_expr m (suc d) e h.proper) h.fits

    -- `...` and a name
    rest_case : (zs : List Lexeme) (r t : Reply Named) → ((n : Named) (rs : List Recorded) (us : List Lexeme) → r ≡ Read n rs us → RunsOut (paren ∷ []) us) → Same q r t → TurnRace zs (after r (λ _. Exprs.doomed)) (after t Exprs.rest_stop)
    rest_case zs r t k (out z h) = turn_out (omega (arith, z, after_shorter (λ _. Exprs.doomed {A = Leading}) (λ _. doomed_local v l) r)) (omega (arith, h, after_shorter Exprs.rest_stop (λ n. local_ret (Stop (Rest n))) t))
    rest_case zs (Bad rs us) t k (kept e) = turn_bad rs us refl (ap (λ x. after x Exprs.rest_stop) e)
    rest_case zs (Deep rs us) t k (kept e) = turn_deep rs us refl (ap (λ x. after x Exprs.rest_stop) e)
    rest_case zs (Read n rs []) t k (kept e) = turn_out (omega (arith, after_shorter (λ _. Exprs.doomed {A = Leading}) (λ _. doomed_local v l) (Read n rs []))) (omega (arith, ap (λ x. length (left x)) (ap (λ x. after x Exprs.rest_stop) e), ap length (left_noted (grown_records q rs) (Exprs.rest_stop n q))))
    rest_case zs (Read n rs (y ∷ us)) t k (kept e) = turn_later rs (Exprs.doomed (y ∷ us)) (Read (Stop (Rest n)) [] (y ∷ (us ++ q))) refl (ap (λ x. after x Exprs.rest_stop) e) (later_rest n y us (k n rs (y ∷ us) refl))

    -- an item of the form of a parameter

    lead_comma : (e : Expr) (y : Lexeme) (us : List Lexeme) → is_mark mark.COMMA y.kind ≡ true → Exprs.lead_end e (y ∷ us) ≡ Read (Again e) [] us
    unfolding Exprs.lead_end
    lead_comma e y us h = ap (λ b. when b (step (ret (Again e))) (ret (Stop (e ∷ []))) (y ∷ us)) h

    lead_other : (e : Expr) (y : Lexeme) (us : List Lexeme) → is_mark mark.COMMA y.kind ≡ false → Exprs.lead_end e (y ∷ us) ≡ Read (Stop (e ∷ [])) [] (y ∷ us)
    unfolding Exprs.lead_end
    lead_other e y us h = ap (λ b. when b (step (ret (Again e))) (ret (Stop (e ∷ []))) (y ∷ us)) h

    form_later : (zs : List Lexeme) (e : Expr) (p : Param) (y : Lexeme) (us : List Lexeme) → RunsOut (paren ∷ []) (y ∷ us) → only_params false (paren ∷ []) (y ∷ (us ++ q)) ≡ true → length (y ∷ us) ≤ length zs → (b : Bool) → is_mark mark.COMMA y.kind ≡ b → Later zs (Exprs.lead_end e (y ∷ us)) (Read (Again p) [] (y ∷ (us ++ q)))
    form_later zs e p y us h f k true c = subst (λ x. Later zs x (Read (Again p) [] (y ∷ (us ++ q)))) (sym (lead_comma e y us c)) (later_again e p y us c (comma_runs y us c h) (sym (comma_params y (us ++ q) (mark_known mark.COMMA y.kind c)) ∙ f) (omega (arith, k)))
    form_later zs e p y us h f k false c = subst (λ x. Later zs x (Read (Again p) [] (y ∷ (us ++ q)))) (sym (lead_other e y us c)) (later_item (e ∷ []) p y us c h)

    -- after an item
    abbrev Goes : List Lexeme → List Lexeme → Type 0
    Goes zs us = RunsOut (paren ∷ []) us × (only_params false (paren ∷ []) (us ++ q) ≡ true) × (length us ≤ length zs)

    form_case : (zs : List Lexeme) (r : Reply Expr) (t : Reply Param) → ((e : Expr) (rs : List Recorded) (us : List Lexeme) → r ≡ Read e rs us → Goes zs us) → Pair q r t → TurnRace zs (after r Exprs.lead_end) (after t (again {A = Param} {B = ParamsEnd}))
    form_case zs r t k (pair_out z h) = turn_out (omega (arith, z, after_shorter Exprs.lead_end (lead_end_local v l) r)) (omega (arith, h, after_shorter (again {A = Param} {B = ParamsEnd}) (λ p. local_ret (Again p)) t))
    form_case zs r t k (pair_bad rs us e f) = turn_bad rs us (ap (λ x. after x Exprs.lead_end) e) (ap (λ x. after x again) f)
    form_case zs r t k (pair_deep rs us e f) = turn_deep rs us (ap (λ x. after x Exprs.lead_end) e) (ap (λ x. after x again) f)
    form_case zs r t k (pair_read e p rs [] f h) = turn_out (omega (arith, after_shorter Exprs.lead_end (lead_end_local v l) r, ap (λ x. length (left x)) f)) (omega (arith, after_shorter (again {A = Param} {B = ParamsEnd}) (λ p. local_ret (Again p)) t, ap (λ x. length (left x)) h))
    form_case zs r t k (pair_read e p rs (y ∷ us) f h) =
        let c = k e rs (y ∷ us) f in
        turn_later rs (Exprs.lead_end e (y ∷ us)) (Read (Again p) [] (y ∷ (us ++ q))) (ap (λ x. after x Exprs.lead_end) f) (ap (λ x. after x again) h) (form_later zs e p y us c.0 c.1 c.2 (is_mark mark.COMMA y.kind) refl)

    expr_flat : (w : List Lexeme) (e : Expr) → IsExpr m true (suc d) 20 w e → (r : List Lexeme) → only_params false (paren ∷ []) (w ++ r) ≡ only_params false (paren ∷ []) r
    expr_flat w e h r = (flat_expr m (suc d) e h.rank_le h.proper).at w end_lexeme (h.fits.before end_lexeme) r

    form_race : (t u : Lexeme) (us : List Lexeme) → is_param_form t u ≡ true → RunsOut (paren ∷ []) (t ∷ u ∷ us) → only_params true (paren ∷ []) (t ∷ u ∷ (us ++ q)) ≡ true → TurnRace (t ∷ u ∷ us) (bind (v.sub (AnAssign true)) Exprs.lead_end (t ∷ u ∷ us)) (bind (v.sub AParam) again (t ∷ u ∷ (us ++ q)))
    form_race t u us h k g = form_case (t ∷ u ∷ us) (v.sub (AnAssign true) (t ∷ u ∷ us)) (v.sub AParam (t ∷ u ∷ (us ++ q)))
        (λ e rs xs f. (
          read_runs (paren ∷ []) (sound_inside (s.calls.assign true)) expr_open (t ∷ u ∷ us) e rs xs f k,
          sym (read_flat (sound_inside (s.calls.assign true)) expr_flat (t ∷ u ∷ us) q e rs xs f) ∙ name_params t (u ∷ (us ++ q)) (form_name t u h) (or_right (is_mark mark.ELLIPSIS t.kind) (is_param_form t u) h) ∙ g,
          omega (arith, (l.at (AnAssign true)).shorter (t ∷ u ∷ us), ap (λ x. length (left x)) f),
        ))
        (pair t u us h)

    -- a name that is the last lexeme
    single_race : (t : Lexeme) → NameEnd v t → TurnRace (t ∷ []) (bind (Exprs.items_from v) (λ es. ret (Stop es)) (t ∷ [])) (bind (v.sub AParam) again (t ∷ q))
    unfolding Exprs.items_from
    single_race t (deep_end h k) = turn_deep [] (t ∷ []) (ap (λ r. after (after r (λ e. bind (loop (Exprs.more_turn v true)) (λ n. ret (e ∷ n.items)))) (λ es. ret (Stop es))) (h [])) (ap (λ r. after r again) (k q))
    single_race t (read_end h k) =
        let more = λ (e : Expr). bind (loop (Exprs.more_turn v true)) (λ n. ret (e ∷ n.items)) in
        let more_is = λ (e : Expr). local_bind (local_loop (more_turn_local v l true) (more_turn_gains v l true)) (λ n. local_ret (e ∷ n.items)) in
        turn_out (omega (arith, h, after_shorter more more_is (v.sub (AnAssign true) (t ∷ [])), after_shorter (λ (es : List Expr). ret {A = Leading} (Stop es)) (λ es. local_ret (Stop es)) (after (v.sub (AnAssign true) (t ∷ [])) more)))
        (omega (arith, k q, after_shorter (again {A = Param} {B = ParamsEnd}) (λ p. local_ret (Again p)) (v.sub AParam (t ∷ q))))

    item_pair : (t : Lexeme) (ts : List Lexeme) → is_param_form t (head_of (ts ++ q)) ≡ true → RunsOut (paren ∷ []) (t ∷ ts) → only_params true (paren ∷ []) (t ∷ (ts ++ q)) ≡ true → TurnRace (t ∷ ts) (Exprs.lead_item v (t ∷ ts)) (bind (v.sub AParam) again (t ∷ (ts ++ q)))
    unfolding Exprs.lead_item
    item_pair t [] k h g = subst (λ b. TurnRace (t ∷ []) (when b (bind (v.sub (AnAssign true)) Exprs.lead_end) (bind (Exprs.items_from v) (λ es. ret (Stop es))) (t ∷ [])) (bind (v.sub AParam) again (t ∷ q))) (sym (no_form v l t)) (single_race t (l.name t (and_left (is_name t.kind) _ k)))
    item_pair t (u ∷ us) k h g = subst (λ b. TurnRace (t ∷ u ∷ us) (when b (bind (v.sub (AnAssign true)) Exprs.lead_end) (bind (Exprs.items_from v) (λ es. ret (Stop es))) (t ∷ u ∷ us)) (bind (v.sub AParam) again (t ∷ u ∷ (us ++ q)))) (sym k) (form_race t u us k h g)

    -- a turn that begins with no closing parenthesis
    turn_race : (t : Lexeme) (ts : List Lexeme) → is_mark mark.CLOSE_PAREN t.kind ≡ false → RunsOut (paren ∷ []) (t ∷ ts) → only_params true (paren ∷ []) (t ∷ (ts ++ q)) ≡ true → TurnRace (t ∷ ts) (Exprs.lead_turn v (t ∷ ts)) (Exprs.arrow_first v (t ∷ (ts ++ q)))
    unfolding Exprs.lead_turn Exprs.arrow_first Exprs.doomed_rest
    turn_race t ts c h g =
        subst (λ b. TurnRace (t ∷ ts) (when b Exprs.doomed (when (is_mark mark.ELLIPSIS t.kind) (bind (v.sub ARest) (λ _. Exprs.doomed)) (Exprs.lead_item v)) (t ∷ ts)) (when (is_mark mark.ELLIPSIS t.kind) (bind (v.sub ARest) Exprs.rest_stop) (bind (v.sub AParam) again) (t ∷ (ts ++ q)))) (sym c) (either (is_mark mark.ELLIPSIS t.kind) refl)
      where
        either : (b : Bool) → is_mark mark.ELLIPSIS t.kind ≡ b → TurnRace (t ∷ ts) (when b (bind (v.sub ARest) (λ _. Exprs.doomed)) (Exprs.lead_item v) (t ∷ ts)) (when b (bind (v.sub ARest) Exprs.rest_stop) (bind (v.sub AParam) again) (t ∷ (ts ++ q)))
        either true k = rest_case (t ∷ ts) (v.sub ARest (t ∷ ts)) (v.sub ARest (t ∷ (ts ++ q))) (λ n rs us e. read_runs (paren ∷ []) s.calls.rest rest_open (t ∷ ts) n rs us e h) ((l.at ARest).same (t ∷ ts) q)
        either false k = item_pair t ts (ap (λ b. b || is_param_form t (head_of (ts ++ q))) (sym k) ∙ params_start t (ts ++ q) c g) h g

    -- all items

    next_first : (t : Lexeme) (ts : List Lexeme) → is_mark mark.CLOSE_PAREN t.kind ≡ false → Exprs.arrow_next v (t ∷ ts) ≡ Exprs.arrow_first v (t ∷ ts)
    unfolding Exprs.arrow_next
    next_first t ts c = ap (λ b. when b (ret (Stop Trailing)) (Exprs.arrow_first v) (t ∷ ts)) c

    next_close : (c : Lexeme) (ts : List Lexeme) → is_mark mark.CLOSE_PAREN c.kind ≡ true → Exprs.arrow_next v (c ∷ ts) ≡ Read (Stop Trailing) [] (c ∷ ts)
    unfolding Exprs.arrow_next
    next_close c ts k = ap (λ b. when b (ret (Stop Trailing)) (Exprs.arrow_first v) (c ∷ ts)) k

    lead_close : (c : Lexeme) (ts : List Lexeme) → is_mark mark.CLOSE_PAREN c.kind ≡ true → Exprs.lead_turn v (c ∷ ts) ≡ Bad [] ts
    unfolding Exprs.lead_turn
    lead_close c ts k = ap (λ b. when b Exprs.doomed (when (is_mark mark.ELLIPSIS c.kind) (Exprs.doomed_rest v) (Exprs.lead_item v)) (c ∷ ts)) k ∙ ap (λ r. after r (λ _. bad)) (expect_close c ts k)

    turned_behind : (k : ℕ) → Behind k (turned (turns (Exprs.arrow_turn v) (suc k)))
    turned_behind k = record {
      near = local_turned (turns (Exprs.arrow_turn v) (suc k)) (local_turns (Exprs.arrow_turn v) (arrow_turn_local v l) (suc k));
      steps = λ us. k;
      enough = λ us h. h;
      goes = λ p us. refl;
      stops = λ e us. refl;
    }

    lead_left : (n : ℕ) (zs : List Lexeme) → length (left (turns (Exprs.lead_turn v) n zs)) ≤ length zs
    lead_left n zs = (local_turns (Exprs.lead_turn v) (lead_turn_local v l) n).shorter zs

    next_left : {B : Type 0} (g : Many Param ParamsEnd → B) (k : ℕ) (zs : List Lexeme) → length (left (after (after (Exprs.arrow_next v zs) (turned (turns (Exprs.arrow_turn v) k))) (Ending g))) ≤ length zs
    next_left g k zs = omega (arith, (arrow_next_local v l).shorter zs, after_shorter (turned (turns (Exprs.arrow_turn v) k)) (local_turned (turns (Exprs.arrow_turn v) k) (local_turns (Exprs.arrow_turn v) (arrow_turn_local v l) k)) (Exprs.arrow_next v zs), after_shorter (Ending g) (ending_local g) (after (Exprs.arrow_next v zs) (turned (turns (Exprs.arrow_turn v) k))))

    at_close : {B : Type 0} (g : Many Param ParamsEnd → B) (n k : ℕ) (t : Lexeme) (ts : List Lexeme) → RunsOut (paren ∷ []) (t ∷ ts) → is_mark mark.CLOSE_PAREN t.kind ≡ true → Close q (after (Exprs.lead_turn v (t ∷ ts)) (turned (turns (Exprs.lead_turn v) n))) (after (after (Exprs.arrow_next v (t ∷ (ts ++ q))) (turned (turns (Exprs.arrow_turn v) k))) (Ending g))
    at_close g n k t ts r c =
        let none = close_last t ts c r in
        close_out (ap (λ x. length (left (after x (turned (turns (Exprs.lead_turn v) n))))) (lead_close t ts c) ∙ ap length none)
        (omega (arith, ap (λ x. length (left x)) (ap (λ x. after (after x (turned (turns (Exprs.arrow_turn v) k))) (Ending g)) (next_close t (ts ++ q) c) ∙ ending_here g (stopped Trailing) t (ts ++ q) c), ap length (ap (λ x. x ++ q) none)))

    at_item : {B : Type 0} (g : Many Param ParamsEnd → B) (n k : ℕ) (t : Lexeme) (ts : List Lexeme) → RunsOut (paren ∷ []) (t ∷ ts) → is_mark mark.CLOSE_PAREN t.kind ≡ false → only_params true (paren ∷ []) (t ∷ (ts ++ q)) ≡ true → length (t ∷ ts) + length q ≤ k → ((us : List Lexeme) → length us < length (t ∷ ts) → RunsOut (paren ∷ []) us → only_params true (paren ∷ []) (us ++ q) ≡ true → Rests n us) → Close q (after (Exprs.lead_turn v (t ∷ ts)) (turned (turns (Exprs.lead_turn v) n))) (after (after (Exprs.arrow_next v (t ∷ (ts ++ q))) (turned (turns (Exprs.arrow_turn v) (suc k)))) (Ending g))
    at_item g n k t ts r c f z i =
        subst (λ x. Close q (after (Exprs.lead_turn v (t ∷ ts)) (turned (turns (Exprs.lead_turn v) n))) (after (after x (turned (turns (Exprs.arrow_turn v) (suc k)))) (Ending g))) (sym (next_first t (ts ++ q) c))
        (turn_close k (turned (turns (Exprs.arrow_turn v) (suc k))) (turned_behind k) n g (t ∷ ts) (Exprs.lead_turn v (t ∷ ts)) (Exprs.arrow_first v (t ∷ (ts ++ q))) i z (turn_race t ts c r f))

    turns_at : (n : ℕ) (zs : List Lexeme) → after (Exprs.lead_turn v zs) (turned (turns (Exprs.lead_turn v) n)) ≡ turns (Exprs.lead_turn v) (suc n) zs
    unfolding turns
    turns_at n zs = refl

    pub rests : (n : ℕ) (zs : List Lexeme) → length zs < n → RunsOut (paren ∷ []) zs → only_params true (paren ∷ []) (zs ++ q) ≡ true → Rests n zs
    rests zero zs h r f B g k s = absurd (omega (arith, h))
    rests (suc n) [] h r f B g k s = close_out (omega (arith, lead_left (suc n) [])) (next_left g k q)
    rests (suc n) (t ∷ ts) h r f B g zero s = absurd (omega (arith, s))
    rests (suc n) (t ∷ ts) h r f B g (suc k) s =
        subst (λ x. Close q x (after (after (Exprs.arrow_next v (t ∷ (ts ++ q))) (turned (turns (Exprs.arrow_turn v) (suc k)))) (Ending g))) (turns_at n (t ∷ ts))
        (elim (bool_cases (is_mark mark.CLOSE_PAREN t.kind)) [
          | inl c ↦ at_close g n (suc k) t ts r c
          | inr c ↦ at_item g n k t ts r c f (omega (arith, s, length-append ts q)) (λ us lt x y. rests n us (omega (arith, lt, h)) x y)
        ])

    -- all items from the first, and what stands around them

    led_behind : (limit : ℕ) → Behind limit (Exprs.params_led (Exprs.arrow_turn v))
    unfolding loop
    led_behind limit = record {
      near = params_led_local v l (arrow_turn_local v l) (arrow_turn_gains v l);
      steps = length;
      enough = λ us h. omega arith;
      goes = λ p us. refl;
      stops = λ e us. refl;
    }

    params_first : (t : Lexeme) (ts : List Lexeme) → is_mark mark.CLOSE_PAREN t.kind ≡ false → Exprs.arrow_params v (t ∷ ts) ≡ after (Exprs.arrow_first v (t ∷ ts)) (Exprs.params_led (Exprs.arrow_turn v))
    unfolding Exprs.arrow_params
    params_first t ts c = ap (λ b. when b (ret (stopped Plain)) (bind (Exprs.arrow_first v) (Exprs.params_led (Exprs.arrow_turn v))) (t ∷ ts)) c

    params_close : (c : Lexeme) (ts : List Lexeme) → is_mark mark.CLOSE_PAREN c.kind ≡ true → Exprs.arrow_params v (c ∷ ts) ≡ Read (stopped Plain) [] (c ∷ ts)
    unfolding Exprs.arrow_params
    params_close c ts k = ap (λ b. when b (ret (stopped Plain)) (bind (Exprs.arrow_first v) (Exprs.params_led (Exprs.arrow_turn v))) (c ∷ ts)) k

    all_close : {B : Type 0} (g : Many Param ParamsEnd → B) (us : List Lexeme) → RunsOut (paren ∷ []) us → only_params true (paren ∷ []) (us ++ q) ≡ true → Close q (loop (Exprs.lead_turn v) us) (after (Exprs.arrow_params v (us ++ q)) (Ending g))
    unfolding loop
    all_close g [] r f = close_out (omega (arith, lead_left 1 [])) (omega (arith, (arrow_params_local v l).shorter q, after_shorter (Ending g) (ending_local g) (Exprs.arrow_params v q)))
    all_close g (t ∷ ts) r f =
        subst (λ x. Close q x (after (Exprs.arrow_params v (t ∷ (ts ++ q))) (Ending g))) (turns_at (length (t ∷ ts)) (t ∷ ts))
        (elim (bool_cases (is_mark mark.CLOSE_PAREN t.kind)) [
          | inl c ↦ (let none = close_last t ts c r in
              close_out (ap (λ x. length (left (after x (turned (turns (Exprs.lead_turn v) (length (t ∷ ts))))))) (lead_close t ts c) ∙ ap length none)
              (omega (arith, ap (λ x. length (left x)) (ap (λ x. after x (Ending g)) (params_close t (ts ++ q) c) ∙ ending_here g (stopped Plain) t (ts ++ q) c), ap length (ap (λ x. x ++ q) none))))
          | inr c ↦ subst (λ x. Close q (after (Exprs.lead_turn v (t ∷ ts)) (turned (turns (Exprs.lead_turn v) (length (t ∷ ts))))) (after x (Ending g))) (sym (params_first t (ts ++ q) c))
              (turn_close (length (t ∷ ts) + length q) (Exprs.params_led (Exprs.arrow_turn v)) (led_behind (length (t ∷ ts) + length q)) (length (t ∷ ts)) g (t ∷ ts) (Exprs.lead_turn v (t ∷ ts)) (Exprs.arrow_first v (t ∷ (ts ++ q))) (λ us lt x y. rests (length (t ∷ ts)) us lt x y) (omega arith) (turn_race t ts c r f))
        ])

    -- both have the same fault up to the closing parenthesis, or both run out
    paren_close : (at : ℕ) (us : List Lexeme) → RunsOut (paren ∷ []) us → only_params true (paren ∷ []) (us ++ q) ≡ true → Close q (after (loop (Exprs.lead_turn v) us) (λ n. ret (n.items ++ n.last))) (after (Exprs.arrow_params v (us ++ q)) (Ending (Exprs.head_case at)))
    paren_close at us r f = close_map q (loop (Exprs.lead_turn v) us) (after (Exprs.arrow_params v (us ++ q)) (Ending (Exprs.head_case at))) (λ n. n.items ++ n.last) (all_close (Exprs.head_case at) us r f)

    pub paren_race : (at : ℕ) (us : List Lexeme) → RunsOut (paren ∷ []) us → only_params true (paren ∷ []) (us ++ q) ≡ true → Race q (Exprs.paren_of v true at us) (Exprs.arrow_listed v at (us ++ q))
    unfolding Exprs.paren_of Exprs.lead_items Exprs.arrow_listed
    paren_race at us r f = close_race q (after (loop (Exprs.lead_turn v) us) (λ n. ret (n.items ++ n.last))) (after (Exprs.arrow_params v (us ++ q)) (Ending (Exprs.head_case at))) (λ es. tree.Paren at (Exprs.list_case es)) (λ es. local_bind (expect_local mark.CLOSE_PAREN) (λ _. local_ret (tree.Paren at (Exprs.list_case es)))) (paren_close at us r f)

    -- and where a parenthesized expression is read, so are the parameters
    pub paren_reads : (at : ℕ) (us : List Lexeme) → RunsOut (paren ∷ []) us → only_params true (paren ∷ []) (us ++ q) ≡ true → WhereRead (Exprs.paren_of v true at us) (IsRead q (Exprs.arrow_listed v at (us ++ q)))
    unfolding Exprs.paren_of Exprs.lead_items Exprs.arrow_listed
    paren_reads at us r f = close_reads q (after (loop (Exprs.lead_turn v) us) (λ n. ret (n.items ++ n.last))) (after (Exprs.arrow_params v (us ++ q)) (Ending (Exprs.head_case at))) (λ es. tree.Paren at (Exprs.list_case es)) (paren_close at us r f)
