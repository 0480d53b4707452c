-- Lists of expressions, arguments, arrays and templates: what is read fits its places, and faults can be mended.
use Rattle.std.proofs.Common.{◌≡◌, ℕ, suc, ◌≤◌, List, [], ◌∷◌, ◌++◌, refl, sym, ap, ◌∙◌, subst, arith, append_assoc, append-nil, Bool, true, false, ◌&&◌, ◌||◌, Option, Some, None, is_none}
use Rattle.script_grammar.specs.declared.token.Kind.TheVariants as kind
use Rattle.script_grammar.specs.declared.token.mark.TheConstants as mark
use Rattle.script_grammar.specs.Lexeme.{Lexeme}
use Rattle.script_grammar.specs.Kinds.{is_mark, is_middle, is_tail}
use Rattle.script_grammar.specs.Tree.{Expr, Exprs, Items, Parts, no_exprs, more_exprs}
use Rattle.script_grammar.specs.Tree as tree
use Rattle.script_grammar.specs.TreeLists.{Args, Part, exprs_of, items_of, parts_of, maybe_expr_of}
use Rattle.script_grammar.specs.Pieces.{Bodies, Piece, mark_piece, comma_piece, template_piece, text_piece}
use Rattle.script_grammar.specs.Print.{print, print_list, print_more, print_items, print_more_items, print_maybe, print_parts, part_kind, first_kind}
use Rattle.script_grammar.specs.Proper.{rank, Proper, ProperExprs, ProperItems, ProperMaybe, ProperParts, AreItems, HasExprs, free_of_in, all_free, InIf}
use Rattle.grammar_parser_specs.specs.Parser.{ret, bind, Turn, Again, Stop, loop, Many, stopped, begun, led}
use Rattle.grammar_parser_specs.specs.Exprs
use Rattle.grammar_parser_specs.specs.Exprs.{Env, AnAssign, expect}
use Rattle.grammar_parser_laws.proofs.Friendly.{AtFront, Inside}
use Rattle.grammar_parser_laws.proofs.Fitting.{FitsAll, all_none, all_append, all_mark, all_placed, all_same, all_template, all_text, lexeme_of_kind, zero_lexeme}
use Rattle.grammar_parser_laws.proofs.Tests.{false_true, mark_known, middle_known, tail_known}
use Rattle.grammar_parser_laws.proofs.Sound.{Sound, Mended, Behind, sound_bind, sound_ret, sound_bad, sound_at, sound_peek, at_step, at_when, sound_done, sound_inside, sound_loop, sound_made}
use Rattle.grammar_parser_laws.proofs.SoundParts.{IsExpr, SoundEnv, in_both, zero_is, expect_sound}

module _ (m : Bodies) (d : ℕ) where
  -- expressions after commas

  abbrev pub MoreTurn : Bool → List Lexeme → Turn Expr (Unit {0}) → Type 0
  MoreTurn w u (Again e) = (rank e ≤ 20) × Proper m e × InIf w (free_of_in e) × FitsAll (mark_piece mark.COMMA d ∷ print m (suc d) e) u
  MoreTurn w u (Stop b) = u ≡ []

  pub record MoreMany (w : Bool) (u : List Lexeme) (n : Many Expr (Unit {0})) : Type 0 where
    pub proper : ProperExprs m (exprs_of n.items)
    pub in_if : InIf w (all_free (exprs_of n.items))
    pub fits : FitsAll (print_more m d (exprs_of n.items)) u

  pub comma_is : (w : Bool) (u v : List Lexeme) (e : Expr) (es : List Expr) → IsExpr m w (suc d) 20 u e → ProperExprs m (exprs_of es) → InIf w (all_free (exprs_of es)) → FitsAll (print_more m d (exprs_of es)) v → IsExpr m w (suc d) 21 (u ++ v) (Exprs.comma_case e es)
  comma_is w u v e [] q p i f = record { rank_le = omega (arith, q.rank_le); proper = q.proper; in_if = q.in_if; fits = all_same (append-nil (print m (suc d) e)) (all_append q.fits f) }
  comma_is w u v e (x ∷ es) q p i f = record { rank_le = omega arith; proper = (tt, (q.rank_le, q.proper, p)); in_if = in_both w (free_of_in e) (all_free (exprs_of (x ∷ es))) q.in_if i; fits = all_append q.fits f }

  -- arguments after the opening parenthesis

  abbrev pub ArgsTurn : List Lexeme → Turn Expr Bool → Type 0
  ArgsTurn u (Again e) = (rank e ≤ 20) × Proper m e × FitsAll (mark_piece mark.COMMA d ∷ print m (suc d) e) u
  ArgsTurn u (Stop b) = FitsAll (comma_piece b d) u

  pub record ArgsRest (u : List Lexeme) (n : Many Expr Bool) : Type 0 where
    pub proper : ProperExprs m (exprs_of n.items)
    pub fits : FitsAll (print_more m d (exprs_of n.items) ++ comma_piece n.last d) u

  pub record ArgsMany (u : List Lexeme) (n : Many Expr Bool) : Type 0 where
    pub proper : ProperExprs m (exprs_of n.items)
    pub has : n.last ≡ true → HasExprs (exprs_of n.items)
    pub fits : FitsAll (print_list m d (exprs_of n.items) ++ comma_piece n.last d) u

  pub record IsArgs (u : List Lexeme) (a : Args) : Type 0 where
    pub proper : ProperExprs m (exprs_of a.items)
    pub has : a.comma ≡ true → HasExprs (exprs_of a.items)
    pub fits : FitsAll (print_list m d (exprs_of a.items) ++ (comma_piece a.comma d ++ mark_piece mark.CLOSE_PAREN d ∷ [])) u

  module _ (v : Env) (s : SoundEnv m d v) where
    more_sound : (w : Bool) → Sound Inside (MoreTurn w) (Exprs.more_turn v w)
    unfolding Exprs.more_turn
    more_sound w = sound_peek (λ t. at_when (is_mark mark.COMMA t.kind) (λ e. at_step t (sound_made Again (sound_inside (s.calls.assign w)) (λ u a q. (q.rank_le, q.proper, q.in_if, all_append (all_mark mark.COMMA d t (mark_known mark.COMMA t.kind e)) q.fits)))) (λ e. sound_at t (sound_ret {a = Stop tt} refl))) (sound_ret {a = Stop tt} refl)

    pub more_loop_sound : (w : Bool) → Sound Inside (MoreMany w) (loop (Exprs.more_turn v w))
    more_loop_sound w = sound_loop (MoreTurn w) (MoreMany w) (Exprs.more_turn v w) (more_sound w)
        (λ u b q. record { proper = tt; in_if = free_none w; fits = subst (λ x. FitsAll [] x) (sym q) all_none })
        (λ u x a n q r. record { proper = (q.0, q.1, r.proper); in_if = in_both w (free_of_in a) (all_free (exprs_of n.items)) q.2 r.in_if; fits = all_append q.3 r.fits })
        (record { end = []; of = stopped tt; starts = tt; is = record { proper = tt; in_if = free_none w; fits = all_none } })
      where
        free_none : (w : Bool) → (w || true) ≡ true
        free_none true = refl
        free_none false = refl

    pub expr_sound : (w : Bool) → Sound AtFront (IsExpr m w (suc d) 21) (Exprs.expr_of v w)
    unfolding Exprs.expr_of
    expr_sound w = sound_bind (s.calls.assign w) (λ u e q. sound_bind (more_loop_sound w) (λ x n r. sound_done (Behind u (IsExpr m w (suc d) 21)) x (Exprs.comma_case e n.items) (comma_is w u x e n.items q r.proper r.in_if r.fits)))

    -- arguments

    args_next_sound : (t : Lexeme) → is_mark mark.COMMA t.kind ≡ true → Sound Inside (Behind (t ∷ []) ArgsTurn) (Exprs.args_next v)
    unfolding Exprs.args_next
    args_next_sound t e =
        let c : FitsAll (mark_piece mark.COMMA d ∷ []) (t ∷ []) = all_mark mark.COMMA d t (mark_known mark.COMMA t.kind e) in
        let item : Sound Inside (Behind (t ∷ []) ArgsTurn) (bind (v.sub (AnAssign true)) (λ a. ret (Again a))) = sound_made Again (sound_inside (s.calls.assign true)) (λ u a q. (q.rank_le, q.proper, all_append c q.fits)) in
        sound_peek (λ x. at_when (is_mark mark.CLOSE_PAREN x.kind) (λ _. sound_at x (sound_ret {a = Stop true} c)) (λ _. sound_at x item)) item

    args_turn_sound : Sound Inside ArgsTurn (Exprs.args_turn v)
    unfolding Exprs.args_turn
    args_turn_sound = sound_peek (λ t. at_when (is_mark mark.COMMA t.kind) (λ e. at_step t (args_next_sound t e)) (λ _. sound_at t (sound_ret {a = Stop false} all_none))) (sound_ret {a = Stop false} all_none)

    args_loop_sound : Sound Inside ArgsRest (loop (Exprs.args_turn v))
    args_loop_sound = sound_loop ArgsTurn ArgsRest (Exprs.args_turn v) args_turn_sound
        (λ u b q. record { proper = tt; fits = q })
        (λ u x a n q r. record { proper = (q.0, q.1, r.proper); fits = all_same (sym (append_assoc (mark_piece mark.COMMA d ∷ print m (suc d) a) (print_more m d (exprs_of n.items)) (comma_piece n.last d))) (all_append q.2 r.fits) })
        (record { end = []; of = stopped false; starts = tt; is = record { proper = tt; fits = all_none } })

    args_led_sound : Sound Inside ArgsMany (bind (v.sub (AnAssign true)) (led (Exprs.args_turn v)))
    args_led_sound = sound_bind (sound_inside (s.calls.assign true)) (λ u a q. sound_made (begun a) args_loop_sound (λ x n r. record { proper = (q.rank_le, q.proper, r.proper); has = λ _. tt; fits = all_same (sym (append_assoc (print m (suc d) a) (print_more m d (exprs_of n.items)) (comma_piece n.last d))) (all_append q.fits r.fits) }))

    more_args_sound : Sound Inside ArgsMany (Exprs.more_args v)
    unfolding Exprs.more_args
    more_args_sound = sound_peek (λ t. at_when (is_mark mark.CLOSE_PAREN t.kind) (λ _. sound_at t (sound_ret {a = stopped false} (record { proper = tt; has = λ e. absurd (false_true e); fits = all_none }))) (λ _. sound_at t args_led_sound)) args_led_sound

    pub args_sound : Sound Inside IsArgs (Exprs.args_of v)
    unfolding Exprs.args_of
    args_sound = sound_bind more_args_sound (λ u n r. sound_made (λ _. record { items = n.items; comma = n.last }) (expect_sound mark.CLOSE_PAREN d) (λ x _ c. record { proper = r.proper; has = r.has; fits = all_same (append_assoc (print_list m d (exprs_of n.items)) (comma_piece n.last d) (mark_piece mark.CLOSE_PAREN d ∷ [])) (all_append r.fits c) }))

-- The items of an array: each but the last with a comma after it.

module _ (m : Bodies) (d : ℕ) where
  abbrev pub print_last : Option Expr → List Piece
  print_last o = print_maybe m (suc d) (maybe_expr_of o)

  abbrev pub item_pieces : List (Option Expr) → Option Expr → List Piece
  item_pieces [] last = print_last last
  item_pieces (i ∷ is) last = print_last i ++ (mark_piece mark.COMMA d ∷ item_pieces is last)

  more_items_print : (is : List (Option Expr)) (last : Option Expr) → print_more_items m d (items_of (is ++ Exprs.some_last last)) ++ comma_piece (is_none last && true) d ≡ mark_piece mark.COMMA d ∷ item_pieces is last
  more_items_print [] None = refl
  more_items_print [] (Some e) = ap (λ x. mark_piece mark.COMMA d ∷ x) (append-nil (print m (suc d) e ++ []) ∙ append-nil (print m (suc d) e))
  more_items_print (i ∷ is) last = ap (λ x. mark_piece mark.COMMA d ∷ x) (append_assoc (print_last i) (print_more_items m d (items_of (is ++ Exprs.some_last last))) (comma_piece (is_none last && true) d) ∙ ap (λ x. print_last i ++ x) (more_items_print is last))

  pub items_print : (is : List (Option Expr)) (last : Option Expr) → print_items m d (items_of (is ++ Exprs.some_last last)) ++ comma_piece (is_none last && Exprs.has_items is) d ≡ item_pieces is last
  items_print [] None = refl
  items_print [] (Some e) = append-nil (print m (suc d) e ++ []) ∙ append-nil (print m (suc d) e)
  items_print (i ∷ is) last = append_assoc (print_last i) (print_more_items m d (items_of (is ++ Exprs.some_last last))) (comma_piece (is_none last && true) d) ∙ ap (λ x. print_last i ++ x) (more_items_print is last)

  are_items : (is : List (Option Expr)) (last : Option Expr) → AreItems (items_of (is ++ Exprs.some_last last)) (is_none last && Exprs.has_items is)
  are_items [] None = refl
  are_items [] (Some e) = λ h. absurd (false_true h)
  are_items (i ∷ []) None = λ h. refl
  are_items (i ∷ []) (Some e) = λ h. absurd (false_true h)
  are_items (i ∷ j ∷ is) None = are_items (j ∷ is) None
  are_items (i ∷ j ∷ is) (Some e) = are_items (j ∷ is) (Some e)

  abbrev pub ItemTurn : List Lexeme → Turn (Option Expr) (Option Expr) → Type 0
  ItemTurn u (Again i) = ProperMaybe m (maybe_expr_of i) × FitsAll (print_last i ++ mark_piece mark.COMMA d ∷ []) u
  ItemTurn u (Stop o) = ProperMaybe m (maybe_expr_of o) × FitsAll (print_last o) u

  pub record ItemMany (u : List Lexeme) (n : Many (Option Expr) (Option Expr)) : Type 0 where
    pub proper : ProperItems m (items_of (n.items ++ Exprs.some_last n.last))
    pub fits : FitsAll (item_pieces n.items n.last) u

  last_proper : (o : Option Expr) → ProperMaybe m (maybe_expr_of o) → ProperItems m (items_of (Exprs.some_last o))
  last_proper None h = tt
  last_proper (Some e) h = (h, tt)

  pub array_fits : (is : List (Option Expr)) (last : Option Expr) (u : List Lexeme) → FitsAll (item_pieces is last ++ mark_piece mark.CLOSE_BRACKET d ∷ []) u → FitsAll (print_items m d (items_of (is ++ Exprs.some_last last)) ++ (comma_piece (is_none last && Exprs.has_items is) d ++ mark_piece mark.CLOSE_BRACKET d ∷ [])) u
  array_fits is last u h = all_same (ap (λ x. x ++ mark_piece mark.CLOSE_BRACKET d ∷ []) (sym (items_print is last)) ∙ append_assoc (print_items m d (items_of (is ++ Exprs.some_last last))) (comma_piece (is_none last && Exprs.has_items is) d) (mark_piece mark.CLOSE_BRACKET d ∷ [])) h

  -- templates

  abbrev pub PartTurn : List Lexeme → Turn Part Part → Type 0
  PartTurn u (Again p) = Proper m p.value × FitsAll (print m (suc d) p.value ++ template_piece kind.TemplateMiddle p.behind d ∷ []) u
  PartTurn u (Stop p) = Proper m p.value × FitsAll (print m (suc d) p.value ++ template_piece kind.TemplateTail p.behind d ∷ []) u

  pub record PartMany (u : List Lexeme) (n : Many Part Part) : Type 0 where
    pub proper : ProperParts m (parts_of (n.items ++ n.last ∷ []))
    pub fits : FitsAll (print_parts m d (parts_of (n.items ++ n.last ∷ []))) u

  pub middle_kind : (ps : List Part) (p : Part) → part_kind (parts_of (ps ++ p ∷ [])) ≡ kind.TemplateMiddle
  middle_kind [] p = refl
  middle_kind (q ∷ ps) p = refl

  pub head_kind : (ps : List Part) (p : Part) → first_kind (parts_of (ps ++ p ∷ [])) ≡ kind.TemplateHead
  head_kind [] p = refl
  head_kind (q ∷ ps) p = refl

  part_go : (u x : List Lexeme) (p : Part) (n : Many Part Part) → PartTurn u (Again p) → PartMany x n → PartMany (u ++ x) (begun p n)
  part_go u x p n q r = record {
    proper = (q.0, r.proper);
    fits = subst (λ k. FitsAll (print m (suc d) p.value ++ (template_piece k p.behind d ∷ print_parts m d (parts_of (n.items ++ n.last ∷ [])))) (u ++ x)) (sym (middle_kind n.items n.last))
        (all_same (append_assoc (print m (suc d) p.value) (template_piece kind.TemplateMiddle p.behind d ∷ []) (print_parts m d (parts_of (n.items ++ n.last ∷ [])))) (all_append q.1 r.fits));
  }

  module _ (v : Env) (s : SoundEnv m d v) where
    item_end_sound : (u : List Lexeme) (e : Expr) → IsExpr m true (suc d) 20 u e → Sound Inside (Behind u ItemTurn) (Exprs.item_end e)
    unfolding Exprs.item_end
    item_end_sound u e q =
        let stop : Sound Inside (Behind u ItemTurn) (ret (Stop (Some e))) = sound_done ItemTurn u (Stop (Some e)) ((q.rank_le, q.proper), q.fits) in
        sound_peek (λ t. at_when (is_mark mark.COMMA t.kind) (λ h. at_step t (sound_ret {a = Again (Some e)} ((q.rank_le, q.proper), all_append q.fits (all_mark mark.COMMA d t (mark_known mark.COMMA t.kind h))))) (λ _. sound_at t stop)) stop

    item_turn_sound : Sound Inside ItemTurn (Exprs.item_turn v)
    unfolding Exprs.item_turn
    item_turn_sound =
        let item : Sound Inside ItemTurn (bind (v.sub (AnAssign true)) Exprs.item_end) = sound_bind (sound_inside (s.calls.assign true)) item_end_sound in
        sound_peek (λ t.
        at_when (is_mark mark.CLOSE_BRACKET t.kind) (λ _. sound_at t (sound_ret {a = Stop None} (tt, all_none))) (λ _.
        at_when (is_mark mark.COMMA t.kind) (λ h. at_step t (sound_ret {a = Again None} (tt, all_mark mark.COMMA d t (mark_known mark.COMMA t.kind h)))) (λ _. sound_at t item))) item

    items_sound : Sound Inside ItemMany (loop (Exprs.item_turn v))
    items_sound = sound_loop ItemTurn ItemMany (Exprs.item_turn v) item_turn_sound
        (λ u b q. record { proper = last_proper b q.0; fits = q.1 })
        (λ u x a n q r. record { proper = (q.0, r.proper); fits = all_same (append_assoc (print_last a) (mark_piece mark.COMMA d ∷ []) (item_pieces n.items n.last)) (all_append q.1 r.fits) })
        (record { end = []; of = stopped None; starts = tt; is = record { proper = tt; fits = all_none } })

    pub array_sound : (t : Lexeme) → t.kind ≡ kind.Mark mark.OPEN_BRACKET → Sound Inside (Behind (t ∷ []) (IsExpr m false d 0)) (Exprs.array_of v t.start)
    unfolding Exprs.array_of
    array_sound t e = sound_bind items_sound (λ u n r. sound_made (λ _. Exprs.array_case t.start n.items n.last) (expect_sound mark.CLOSE_BRACKET d) (λ x _ c. record {
      rank_le = omega arith;
      proper = (are_items n.items n.last, r.proper);
      in_if = refl;
      fits = all_append (all_placed (kind.Mark mark.OPEN_BRACKET) d t e) (array_fits n.items n.last (u ++ x) (all_append r.fits c));
    }))

    part_end_sound : (u : List Lexeme) (e : Expr) → IsExpr m true (suc d) 21 u e → Sound Inside (Behind u PartTurn) (Exprs.part_end e)
    unfolding Exprs.part_end
    part_end_sound u e q =
        let tail : Lexeme = lexeme_of_kind kind.TemplateTail in
        let some : Mended Inside (Behind u PartTurn) = record { end = tail ∷ []; of = Stop (Exprs.part e tail); starts = tt; is = (q.proper, all_append q.fits (all_template kind.TemplateTail d tail refl)) } in
        sound_peek (λ t.
        at_when (is_middle t.kind) (λ h. at_step t (sound_ret {a = Again (Exprs.part e t)} (q.proper, all_append q.fits (all_template kind.TemplateMiddle d t (middle_known t.kind h))))) (λ _.
        at_when (is_tail t.kind) (λ h. at_step t (sound_ret {a = Stop (Exprs.part e t)} (q.proper, all_append q.fits (all_template kind.TemplateTail d t (tail_known t.kind h))))) (λ _. sound_at t (sound_bad some)))) (sound_bad some)

    part_turn_sound : Sound Inside PartTurn (Exprs.part_turn v)
    unfolding Exprs.part_turn
    part_turn_sound = sound_bind (sound_inside (expr_sound m d v s true)) part_end_sound

    parts_sound : Sound Inside PartMany (loop (Exprs.part_turn v))
    parts_sound = sound_loop PartTurn PartMany (Exprs.part_turn v) part_turn_sound
        (λ u b q. record { proper = (q.0, tt); fits = q.1 })
        part_go
        (record { end = zero_lexeme ∷ lexeme_of_kind kind.TemplateTail ∷ []; of = stopped (Exprs.part (tree.Number 0 0) (lexeme_of_kind kind.TemplateTail)); starts = tt; is = record { proper = (tt, tt); fits = all_append (zero_is m true (suc d) 0).fits (all_template kind.TemplateTail d (lexeme_of_kind kind.TemplateTail) refl) } })

    pub template_sound : (t : Lexeme) → t.kind ≡ kind.TemplateHead → Sound Inside (Behind (t ∷ []) (IsExpr m false d 0)) (Exprs.template_of v t.start t.text)
    unfolding Exprs.template_of
    template_sound t e = sound_made (λ n. tree.Template t.start t.text (parts_of (n.items ++ n.last ∷ []))) parts_sound (λ u n r. record {
      rank_le = omega arith;
      proper = r.proper;
      in_if = refl;
      fits = subst (λ k. FitsAll (text_piece k t.text t.start d ∷ print_parts m d (parts_of (n.items ++ n.last ∷ []))) (t ∷ u)) (sym (head_kind n.items n.last)) (all_append (all_text kind.TemplateHead d t e) r.fits);
    })
