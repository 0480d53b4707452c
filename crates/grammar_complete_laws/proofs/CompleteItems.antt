-- Completeness of arrays and templates: at their lexemes they are read.
use Rattle.std.proofs.Common.{◌≡◌, ℕ, suc, ◌≤◌, ◌<◌, List, [], ◌∷◌, ◌++◌, length, refl, sym, ap, ◌∙◌, subst, arith, append_assoc, append-nil, Bool, true, false, Option, Some, None}
use Rattle.script_grammar.specs.declared.token.Kind.{Kind}
use Rattle.script_grammar.specs.declared.token.Kind.TheVariants as kind
use Rattle.script_grammar.specs.declared.token.mark.TheConstants as mark
use Rattle.script_grammar.specs.Lexeme.{Lexeme}
use Rattle.script_grammar.specs.Kinds.{is_mark}
use Rattle.script_grammar.specs.Tree.{Expr, MaybeExpr, no_expr, some_expr, Items, no_items, more_items, Parts, no_parts, more_parts}
use Rattle.script_grammar.specs.Tree as tree
use Rattle.script_grammar.specs.TreeLists.{Part, items_of, parts_of, maybe_expr_of}
use Rattle.script_grammar.specs.Pieces.{Ending, BracedArrow, Postfix, Operand, BareBinding, Keyword, DoWhile, Piece, mark_piece, comma_piece, template_piece}
use Rattle.script_grammar.specs.Endings.{ending}
use Rattle.script_grammar.specs.Print.{print, print_maybe, print_items, print_parts}
use Rattle.script_grammar.specs.Proper.{rank, AreItems, is_hole, assign_rank}
use Rattle.grammar_parser_specs.specs.Parser.{Read, head_of, ret, bind, step, when, Turn, Again, Stop, loop}
use Rattle.grammar_parser_specs.specs.Exprs as parser
use Rattle.grammar_parser_specs.specs.Exprs.{Env, AnAssign, expect, begins_assign}
use Rattle.grammar_parser_specs.specs.Follow.{continues_assign, continues_expr}
use Rattle.grammar_parser_laws.proofs.Tests.{false_true, true_false}
use Rattle.grammar_parser_laws.proofs.Stands.{Marked, lexemes, Stands}
use Rattle.grammar_parser_laws.proofs.Complete.{bare, AllK, flat}
use Rattle.grammar_complete_laws.proofs.Completes.{Completes, Leads, Any, of_kind, at_kind, lead_none, lead_at, lead_any, lead_map, c_ret, c_bind, c_made, c_at, c_front, c_look, c_weaken, c_pieces, c_mark}
use Rattle.grammar_complete_laws.proofs.CompleteLoops.{c_loop, LastLeads}
use Rattle.grammar_complete_laws.proofs.CompleteStmts.{c_value}
use Rattle.grammar_complete_laws.proofs.CompleteBinds.{not_mark, option_of}
use Rattle.grammar_complete_laws.proofs.Stops.{stop_comma}
use Rattle.grammar_complete_laws.proofs.ExprFronts.{opens_append, opens_first, opens_some, expr_opens}
use Rattle.grammar_complete_laws.proofs.CompleteParts.{CompleteEnv, expr_complete}
use Rattle.grammar_parser_laws.proofs.ProperIn.{Mode, Proper, ProperItems, ProperMaybe, ProperParts}

-- the items of an array, with and without their last
abbrev pub items_list : Items → List (Option Expr)
items_list no_items = []
items_list (more_items i is) = option_of i ∷ items_list is

of_maybe : (i : MaybeExpr) → maybe_expr_of (option_of i) ≡ i
of_maybe no_expr = refl
of_maybe (some_expr e) = refl

pub of_items : (is : Items) → items_of (items_list is) ≡ is
of_items no_items = refl
of_items (more_items i is) = ap (λ x. more_items x (items_of (items_list is))) (of_maybe i) ∙ ap (more_items i) (of_items is)

abbrev front_of : MaybeExpr → Items → List (Option Expr)
front_of i no_items = []
front_of i (more_items j is) = option_of i ∷ front_of j is

abbrev last_of : MaybeExpr → Items → MaybeExpr
last_of i no_items = i
last_of i (more_items j is) = last_of j is

module _ (limit : ℕ) (m : Mode) (d : ℕ) (low : d ≤ limit) (v : Env) (c : CompleteEnv limit m d v) where
  pub stop_bracket : (w : Bool) (e : Expr) (t : Lexeme) → t.kind ≡ kind.Mark mark.CLOSE_BRACKET → continues_assign w (ending e) t ≡ false
  stop_bracket w e t h = at_kind (λ u. continues_assign w (ending e) u ≡ false) (kind.Mark mark.CLOSE_BRACKET) t h (by (ending e))
    where
      by : (x : Ending) → continues_assign w x (of_kind (kind.Mark mark.CLOSE_BRACKET) t) ≡ false
      by BracedArrow = refl
      by Postfix = refl
      by Operand = refl
      by BareBinding = refl
      by Keyword = refl
      by DoWhile = refl

  -- a hole and a value, each with the comma after it

  hole_here : (t : Lexeme) (ts : List Lexeme) → t.kind ≡ kind.Mark mark.COMMA → parser.item_turn v (t ∷ ts) ≡ Read (Again None) [] ts
  unfolding parser.item_turn
  hole_here t ts e = at_kind (λ u. parser.item_turn v (u ∷ ts) ≡ Read (Again None) [] ts) (kind.Mark mark.COMMA) t e refl

  turn_by : (x y : Bool) (t : Lexeme) (ts : List Lexeme) → x ≡ false → y ≡ false → when x (ret (Stop None)) (when y (step (ret (Again None))) (bind (v.sub (AnAssign true)) parser.item_end)) (t ∷ ts) ≡ bind (v.sub (AnAssign true)) parser.item_end (t ∷ ts)
  turn_by true y t ts h k = absurd (true_false h)
  turn_by false true t ts h k = absurd (true_false k)
  turn_by false false t ts h k = refl

  item_here : (t : Lexeme) (ts : List Lexeme) → begins_assign t.kind ≡ true → parser.item_turn v (t ∷ ts) ≡ bind (v.sub (AnAssign true)) parser.item_end (t ∷ ts)
  unfolding parser.item_turn
  item_here t ts h = turn_by (is_mark mark.CLOSE_BRACKET t.kind) (is_mark mark.COMMA t.kind) t ts (not_mark mark.CLOSE_BRACKET refl t.kind h) (not_mark mark.COMMA refl t.kind h)

  end_comma : (e : Expr) (t : Lexeme) (ts : List Lexeme) → t.kind ≡ kind.Mark mark.COMMA → parser.item_end e (t ∷ ts) ≡ Read (Again (Some e)) [] ts
  unfolding parser.item_end
  end_comma e t ts h = at_kind (λ u. parser.item_end e (u ∷ ts) ≡ Read (Again (Some e)) [] ts) (kind.Mark mark.COMMA) t h refl

  abbrev Closes : Lexeme → Type 0
  Closes t = t.kind ≡ kind.Mark mark.CLOSE_BRACKET

  end_last : (e : Expr) (rest : List Lexeme) → Closes (head_of rest) → bare (parser.item_end e rest) ≡ Read (Stop (Some e)) [] rest
  unfolding parser.item_end
  end_last e rest h = ap (λ k. bare (when (is_mark mark.COMMA k) (step (ret (Again (Some e)))) (ret (Stop (Some e))) rest)) h

  turn_stops : (rest : List Lexeme) → Closes (head_of rest) → bare (parser.item_turn v rest) ≡ Read (Stop None) [] rest
  unfolding parser.item_turn
  turn_stops rest h = ap (λ k. bare (when (is_mark mark.CLOSE_BRACKET k) (ret (Stop None)) (when (is_mark mark.COMMA k) (step (ret (Again None))) (bind (v.sub (AnAssign true)) parser.item_end)) rest)) h

  abbrev Item : Option Expr → Type 0
  Item i = ProperMaybe m (maybe_expr_of i)

  abbrev item_pieces : Option Expr → List Piece
  item_pieces i = print_maybe m.look (suc d) (maybe_expr_of i) ++ mark_piece mark.COMMA d ∷ []

  valued : {F : Lexeme → Type 0} (e : Expr) (qs : List Piece) (a : Turn (Option Expr) (Option Expr)) → rank e ≤ assign_rank → Proper m e → Leads qs F (λ t. continues_assign true (ending e) t ≡ false) → Completes limit qs F (parser.item_end e) a → Completes limit (print m.look (suc d) e ++ qs) F (parser.item_turn v) a
  valued e qs a r h l k = c_front limit (bind (v.sub (AnAssign true)) parser.item_end)
      (λ x w rest q g. item_here x.lexeme (lexemes w ++ rest) (opens_first begins_assign (print m.look (suc d) e ++ qs) x w (head_of rest) (opens_append begins_assign (print m.look (suc d) e) qs (expr_opens m (suc d) e h)) q))
      (λ w n q. opens_some begins_assign (print m.look (suc d) e ++ qs) w n (opens_append begins_assign (print m.look (suc d) e) qs (expr_opens m (suc d) e h)) q)
      (c_bind limit parser.item_end (c.calls.assign true e r h refl) l k)

  item_complete : (i : Option Expr) → Item i → Completes limit (item_pieces i) Any (parser.item_turn v) (Again i)
  item_complete None h = c_at limit (λ t. ret (Again None)) low (λ t ts s. hole_here t ts s.kind) (λ t s. c_ret limit (Again None))
  item_complete (Some e) h = valued e (mark_piece mark.COMMA d ∷ []) (Again (Some e)) h.0 h.1 (lead_at (λ t s. stop_comma true (ending e) t s.kind)) (c_at limit (λ t. ret (Again (Some e))) low (λ t ts s. end_comma e t ts s.kind) (λ t s. c_ret limit (Again (Some e))))

  item_some : (i : Option Expr) → Item i → (w : List Marked) (n : Lexeme) → Stands (item_pieces i) w n → 0 < length (lexemes w)
  item_some None h [] n k = absurd k
  item_some None h (x ∷ w) n k = omega arith
  item_some (Some e) h w n k = opens_some begins_assign (item_pieces (Some e)) w n (opens_append begins_assign (print m.look (suc d) e) (mark_piece mark.COMMA d ∷ []) (expr_opens m (suc d) e h.1)) k

  last_pieces : MaybeExpr → List Piece
  last_pieces i = print_maybe m.look (suc d) i

  stop_none : Completes limit [] Closes (parser.item_turn v) (Stop None)
  stop_none = c_look limit turn_stops

  stop_some : (e : Expr) → rank e ≤ assign_rank → Proper m e → Completes limit (print m.look (suc d) e) Closes (parser.item_turn v) (Stop (Some e))
  stop_some e r h = c_pieces limit (append-nil (print m.look (suc d) e)) (valued e [] (Stop (Some e)) r h (lead_map (λ t k. stop_bracket true e t k) lead_none) (c_look limit (end_last e)))

  any_last : (qs : List Piece) (o : Option Expr) (stop : Completes limit qs Closes (parser.item_turn v) (Stop o)) (xs : List (Option Expr)) → LastLeads limit Item item_pieces (λ i. Any) qs Closes o (parser.item_turn v) item_complete item_some (λ x y kx ky w n h. tt) stop xs
  any_last qs o stop [] = tt
  any_last qs o stop (x ∷ []) = lead_any
  any_last qs o stop (x ∷ y ∷ xs) = any_last qs o stop (y ∷ xs)

  loop_complete : (qs : List Piece) (o : Option Expr) → Completes limit qs Closes (parser.item_turn v) (Stop o) → (xs : List (Option Expr)) → AllK Item xs → Completes limit (flat item_pieces xs ++ qs) Closes (loop (parser.item_turn v)) (record { items = xs; last = o })
  loop_complete qs o stop xs k = c_loop limit Item item_pieces (λ i. Any) qs Closes o (parser.item_turn v) item_complete item_some (λ x y kx ky w n h. tt) stop xs k (any_last qs o stop xs)

  all_items : (is : Items) → ProperItems m is → AllK Item (items_list is)
  all_items no_items h = tt
  all_items (more_items i is) h = (subst (ProperMaybe m) (sym (of_maybe i)) h.0, all_items is h.1)

  front_items : (i : MaybeExpr) (is : Items) → ProperItems m (more_items i is) → AllK Item (front_of i is)
  front_items i no_items h = tt
  front_items i (more_items j is) h = (subst (ProperMaybe m) (sym (of_maybe i)) h.0, front_items j is h.1)

  -- all items have a comma after them
  flat_all : (i : MaybeExpr) (is : Items) → flat item_pieces (items_list (more_items i is)) ++ [] ≡ print_items m.look d (more_items i is) ++ mark_piece mark.COMMA d ∷ []
  flat_all i no_items =
      append-nil (item_pieces (option_of i) ++ []) ∙ append-nil (item_pieces (option_of i))
      ∙ ap (λ x. print_maybe m.look (suc d) x ++ mark_piece mark.COMMA d ∷ []) (of_maybe i)
      ∙ ap (λ x. x ++ mark_piece mark.COMMA d ∷ []) (sym (append-nil (print_maybe m.look (suc d) i)))
  flat_all i (more_items j is) =
      append_assoc (item_pieces (option_of i)) (flat item_pieces (items_list (more_items j is))) []
      ∙ ap (λ x. item_pieces (option_of i) ++ x) (flat_all j is)
      ∙ ap (λ x. (print_maybe m.look (suc d) x ++ mark_piece mark.COMMA d ∷ []) ++ (print_items m.look d (more_items j is) ++ mark_piece mark.COMMA d ∷ [])) (of_maybe i)
      ∙ append_assoc (print_maybe m.look (suc d) i) (mark_piece mark.COMMA d ∷ []) (print_items m.look d (more_items j is) ++ mark_piece mark.COMMA d ∷ [])
      ∙ sym (append_assoc (print_maybe m.look (suc d) i) (mark_piece mark.COMMA d ∷ print_items m.look d (more_items j is)) (mark_piece mark.COMMA d ∷ []))

  -- or all but the last
  flat_front : (i : MaybeExpr) (is : Items) → flat item_pieces (front_of i is) ++ print_maybe m.look (suc d) (last_of i is) ≡ print_items m.look d (more_items i is)
  flat_front i no_items = sym (append-nil (print_maybe m.look (suc d) i))
  flat_front i (more_items j is) =
      append_assoc (item_pieces (option_of i)) (flat item_pieces (front_of j is)) (print_maybe m.look (suc d) (last_of j is))
      ∙ ap (λ x. item_pieces (option_of i) ++ x) (flat_front j is)
      ∙ ap (λ x. (print_maybe m.look (suc d) x ++ mark_piece mark.COMMA d ∷ []) ++ print_items m.look d (more_items j is)) (of_maybe i)
      ∙ append_assoc (print_maybe m.look (suc d) i) (mark_piece mark.COMMA d ∷ []) (print_items m.look d (more_items j is))

  last_proper : (i : MaybeExpr) (is : Items) → ProperItems m (more_items i is) → ProperMaybe m (last_of i is)
  last_proper i no_items h = h.0
  last_proper i (more_items j is) h = last_proper j is h.1

  last_some : (i : MaybeExpr) (is : Items) → AreItems (more_items i is) false → is_hole (last_of i is) ≡ true → ⊥
  last_some i no_items h k = false_true (h k)
  last_some i (more_items j is) h k = last_some j is h k

  with_last : (i : MaybeExpr) (is : Items) → front_of i is ++ option_of (last_of i is) ∷ [] ≡ items_list (more_items i is)
  with_last i no_items = refl
  with_last i (more_items j is) = ap (λ x. option_of i ∷ x) (with_last j is)

  array_with : (at : ℕ) (i : MaybeExpr) (is : Items) (o : MaybeExpr) → (is_hole o ≡ true → ⊥) → front_of i is ++ option_of o ∷ [] ≡ items_list (more_items i is) → parser.array_case at (front_of i is) (option_of o) ≡ tree.Array at (more_items i is) false
  array_with at i is no_expr n e = absurd (n refl)
  array_with at i is (some_expr x) n e = ap (λ y. tree.Array at (items_of y) false) e ∙ ap (λ y. tree.Array at y false) (of_items (more_items i is))

  closing : {F : Lexeme → Type 0} (at : ℕ) (xs : List (Option Expr)) (o : Option Expr) (ps : List Piece) (a : Expr) → parser.array_case at xs o ≡ a → Completes limit ps Closes (loop (parser.item_turn v)) (record { items = xs; last = o }) → Completes limit (ps ++ mark_piece mark.CLOSE_BRACKET d ∷ []) F (parser.array_of v at) a
  unfolding parser.array_of
  closing at xs o ps a e k = c_value e (c_bind limit (λ n. bind (expect mark.CLOSE_BRACKET) (λ _. ret (parser.array_case at n.items n.last))) k (lead_at (λ t s. s.kind)) (c_made limit (λ _. parser.array_case at xs o) (c_mark limit mark.CLOSE_BRACKET d low refl)))

  some_stop : (o : MaybeExpr) → (is_hole o ≡ true → ⊥) → ProperMaybe m o → Completes limit (print_maybe m.look (suc d) o) Closes (parser.item_turn v) (Stop (option_of o))
  some_stop no_expr n h = absurd (n refl)
  some_stop (some_expr e) n h = stop_some e h.0 h.1

  -- after the opening bracket
  pub array_complete : {F : Lexeme → Type 0} (at : ℕ) (is : Items) (comma : Bool) → AreItems is comma → ProperItems m is → Completes limit (print_items m.look d is ++ (comma_piece comma d ++ mark_piece mark.CLOSE_BRACKET d ∷ [])) F (parser.array_of v at) (tree.Array at is comma)
  array_complete at no_items true h p = absurd (true_false h)
  array_complete at no_items false h p = closing at [] None [] (tree.Array at no_items false) refl (loop_complete [] None stop_none [] tt)
  array_complete at (more_items i is) true h p = c_pieces limit (append_assoc (print_items m.look d (more_items i is)) (mark_piece mark.COMMA d ∷ []) (mark_piece mark.CLOSE_BRACKET d ∷ []))
      (closing at (items_list (more_items i is)) None (print_items m.look d (more_items i is) ++ mark_piece mark.COMMA d ∷ []) (tree.Array at (more_items i is) true) (ap (λ x. tree.Array at (items_of x) true) (append-nil (items_list (more_items i is))) ∙ ap (λ x. tree.Array at x true) (of_items (more_items i is)))
      (c_pieces limit (flat_all i is) (loop_complete [] None stop_none (items_list (more_items i is)) (all_items (more_items i is) p))))
  array_complete at (more_items i is) false h p =
      closing at (front_of i is) (option_of (last_of i is)) (print_items m.look d (more_items i is)) (tree.Array at (more_items i is) false) (array_with at i is (last_of i is) (last_some i is h) (with_last i is))
      (c_pieces limit (flat_front i is) (loop_complete (print_maybe m.look (suc d) (last_of i is)) (option_of (last_of i is)) (some_stop (last_of i is) (last_some i is h) (last_proper i is p)) (front_of i is) (front_items i is p)))

  -- templates, after the head

  abbrev pub parts_list : Parts → List Part
  parts_list no_parts = []
  parts_list (more_parts value behind rest) = record { value = value; behind = behind } ∷ parts_list rest

  part_of : (e : Expr) (t : Lexeme) (w : List ℕ) → t.text ≡ w → parser.part e t ≡ record { value = e; behind = w }
  part_of e t w h = ap (λ x. record { value = e; behind = x }) h

  middle_here : (e : Expr) (t : Lexeme) (ts : List Lexeme) → t.kind ≡ kind.TemplateMiddle → parser.part_end e (t ∷ ts) ≡ Read (Again (parser.part e t)) [] ts
  unfolding parser.part_end
  middle_here e t ts h = at_kind (λ u. parser.part_end e (u ∷ ts) ≡ Read (Again (parser.part e u)) [] ts) kind.TemplateMiddle t h refl

  tail_here : (e : Expr) (t : Lexeme) (ts : List Lexeme) → t.kind ≡ kind.TemplateTail → parser.part_end e (t ∷ ts) ≡ Read (Stop (parser.part e t)) [] ts
  unfolding parser.part_end
  tail_here e t ts h = at_kind (λ u. parser.part_end e (u ∷ ts) ≡ Read (Stop (parser.part e u)) [] ts) kind.TemplateTail t h refl

  stop_template : (w : Bool) (e : Ending) (t : Lexeme) (k : Kind) → t.kind ≡ k → ((x : Ending) → continues_expr w x (of_kind k t) ≡ false) → continues_expr w e t ≡ false
  stop_template w e t k h f = at_kind (λ u. continues_expr w e u ≡ false) k t h (f e)

  at_middle : (w : Bool) (t : Lexeme) (x : Ending) → continues_expr w x (of_kind kind.TemplateMiddle t) ≡ false
  at_middle w t BracedArrow = refl
  at_middle w t Postfix = refl
  at_middle w t Operand = refl
  at_middle w t BareBinding = refl
  at_middle w t Keyword = refl
  at_middle w t DoWhile = refl

  at_tail : (w : Bool) (t : Lexeme) (x : Ending) → continues_expr w x (of_kind kind.TemplateTail t) ≡ false
  at_tail w t BracedArrow = refl
  at_tail w t Postfix = refl
  at_tail w t Operand = refl
  at_tail w t BareBinding = refl
  at_tail w t Keyword = refl
  at_tail w t DoWhile = refl

  abbrev part_pieces : Part → List Piece
  part_pieces x = print m.look (suc d) x.value ++ template_piece kind.TemplateMiddle x.behind d ∷ []

  abbrev IsPart : Part → Type 0
  IsPart x = Proper m x.value

  middle_complete : (x : Part) → IsPart x → Completes limit (part_pieces x) Any (parser.part_turn v) (Again x)
  unfolding parser.part_turn
  middle_complete x h = c_bind limit parser.part_end (expr_complete limit m d low v c true x.value h refl) (lead_at (λ t s. stop_template true (ending x.value) t kind.TemplateMiddle s.kind (at_middle true t)))
      (c_at limit (λ t. ret (Again (parser.part x.value t))) low (λ t ts s. middle_here x.value t ts s.kind) (λ t s. c_value (ap Again (part_of x.value t x.behind s.content)) (c_ret limit (Again (parser.part x.value t)))))

  tail_complete : (e : Expr) (w : List ℕ) → Proper m e → Completes limit (print m.look (suc d) e ++ template_piece kind.TemplateTail w d ∷ []) Any (parser.part_turn v) (Stop (record { value = e; behind = w }))
  unfolding parser.part_turn
  tail_complete e w h = c_bind limit parser.part_end (expr_complete limit m d low v c true e h refl) (lead_at (λ t s. stop_template true (ending e) t kind.TemplateTail s.kind (at_tail true t)))
      (c_at limit (λ t. ret (Stop (parser.part e t))) low (λ t ts s. tail_here e t ts s.kind) (λ t s. c_value (ap Stop (part_of e t w s.content)) (c_ret limit (Stop (parser.part e t)))))

  part_some : (x : Part) → IsPart x → (w : List Marked) (n : Lexeme) → Stands (part_pieces x) w n → 0 < length (lexemes w)
  part_some x h w n k = opens_some begins_assign (part_pieces x) w n (opens_append begins_assign (print m.look (suc d) x.value) (template_piece kind.TemplateMiddle x.behind d ∷ []) (expr_opens m (suc d) x.value h)) k

  any_parts : (e : Expr) (w : List ℕ) (h : Proper m e) (xs : List Part) → LastLeads limit IsPart part_pieces (λ x. Any) (print m.look (suc d) e ++ template_piece kind.TemplateTail w d ∷ []) Any (record { value = e; behind = w }) (parser.part_turn v) middle_complete part_some (λ x y kx ky u n k. tt) (tail_complete e w h) xs
  any_parts e w h [] = tt
  any_parts e w h (x ∷ []) = lead_any
  any_parts e w h (x ∷ y ∷ xs) = any_parts e w h (y ∷ xs)

  -- all parts but the last, and the last
  abbrev front_parts : Expr → List ℕ → Parts → List Part
  front_parts e w no_parts = []
  front_parts e w (more_parts f u ps) = record { value = e; behind = w } ∷ front_parts f u ps

  abbrev last_part : Expr → List ℕ → Parts → Part
  last_part e w no_parts = record { value = e; behind = w }
  last_part e w (more_parts f u ps) = last_part f u ps

  parts_all : (e : Expr) (w : List ℕ) (ps : Parts) → parts_of (front_parts e w ps ++ last_part e w ps ∷ []) ≡ more_parts e w ps
  parts_all e w no_parts = refl
  parts_all e w (more_parts f u ps) = ap (more_parts e w) (parts_all f u ps)

  flat_parts : (e : Expr) (w : List ℕ) (ps : Parts) → flat part_pieces (front_parts e w ps) ++ (print m.look (suc d) (last_part e w ps).value ++ template_piece kind.TemplateTail (last_part e w ps).behind d ∷ []) ≡ print_parts m.look d (more_parts e w ps)
  flat_parts e w no_parts = refl
  flat_parts e w (more_parts f u ps) =
      append_assoc (print m.look (suc d) e ++ template_piece kind.TemplateMiddle w d ∷ []) (flat part_pieces (front_parts f u ps)) _
      ∙ ap (λ x. (print m.look (suc d) e ++ template_piece kind.TemplateMiddle w d ∷ []) ++ x) (flat_parts f u ps)
      ∙ append_assoc (print m.look (suc d) e) (template_piece kind.TemplateMiddle w d ∷ []) (print_parts m.look d (more_parts f u ps))

  front_proper : (e : Expr) (w : List ℕ) (ps : Parts) → ProperParts m (more_parts e w ps) → AllK IsPart (front_parts e w ps)
  front_proper e w no_parts h = tt
  front_proper e w (more_parts f u ps) h = (h.0, front_proper f u ps h.1)

  part_proper : (e : Expr) (w : List ℕ) (ps : Parts) → ProperParts m (more_parts e w ps) → Proper m (last_part e w ps).value
  part_proper e w no_parts h = h.0
  part_proper e w (more_parts f u ps) h = part_proper f u ps h.1

  -- after the head of a template with values
  pub template_complete : {F : Lexeme → Type 0} (at : ℕ) (first : List ℕ) (e : Expr) (w : List ℕ) (ps : Parts) → ProperParts m (more_parts e w ps) → Completes limit (print_parts m.look d (more_parts e w ps)) F (parser.template_of v at first) (tree.Template at first (more_parts e w ps))
  unfolding parser.template_of
  template_complete at first e w ps h =
      let last : Part = last_part e w ps in
      c_value (ap (tree.Template at first) (parts_all e w ps)) (c_weaken limit (λ t g. tt) (c_made limit (λ n. tree.Template at first (parts_of (n.items ++ n.last ∷ [])))
      (c_pieces limit (flat_parts e w ps) (c_loop limit IsPart part_pieces (λ x. Any) (print m.look (suc d) last.value ++ template_piece kind.TemplateTail last.behind d ∷ []) Any last (parser.part_turn v) middle_complete part_some (λ x y kx ky u n k. tt) (tail_complete last.value last.behind (part_proper e w ps h)) (front_parts e w ps) (front_proper e w ps h) (any_parts last.value last.behind (part_proper e w ps h) (front_parts e w ps))))))
