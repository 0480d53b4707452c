-- Completeness of parenthesized expressions, also where an arrow's parameters might stand.
use Rattle.std.proofs.Common.{◌≡◌, ℕ, zero, suc, ◌≤◌, ◌<◌, List, [], ◌∷◌, ◌++◌, length, refl, sym, ap, ◌∙◌, subst, arith, append_assoc, append-nil, length-append, Bool, true, false, inl, inr, ◌⊎◌}
use Rattle.script_grammar.specs.declared.token.Kind.TheVariants as kind
use Rattle.script_grammar.specs.declared.token.mark.TheConstants as mark
use Rattle.script_grammar.specs.Lexeme.{Lexeme}
use Rattle.script_grammar.specs.Kinds.{is_mark}
use Rattle.script_grammar.specs.Tree.{Expr, Exprs, no_exprs, more_exprs}
use Rattle.script_grammar.specs.Tree as tree
use Rattle.script_grammar.specs.Pieces.{Piece, mark_piece}
use Rattle.script_grammar.specs.Endings.{ending, last_ending}
use Rattle.script_grammar.specs.Print.{print, print_list, print_more}
use Rattle.script_grammar.specs.Proper.{rank, assign_rank}
use Rattle.grammar_parser_specs.specs.Parser.{Read, head_of, rest_of, ret, bind, step, when, Turn, Again, Stop, loop, turns, turned, Many, begun}
use Rattle.grammar_parser_specs.specs.Exprs as parser
use Rattle.grammar_parser_specs.specs.Exprs.{Env, AnAssign, expect, begins_assign, is_param_form}
use Rattle.grammar_parser_laws.proofs.Fitting.{head_first}
use Rattle.grammar_parser_laws.proofs.Tests.{true_false}
use Rattle.grammar_parser_laws.proofs.Stands.{Marked, lexemes, Stands, stands_split}
use Rattle.grammar_parser_laws.proofs.Complete.{Parses, bare, parses_bind, parses_map, joined}
use Rattle.grammar_complete_laws.proofs.Completes.{Completes, Any, lead_none, lead_at, lead_map, c_ret, c_bind, c_made, c_at, c_look, c_weaken, c_pieces, c_mark}
use Rattle.grammar_complete_laws.proofs.CompleteStmts.{c_value}
use Rattle.grammar_complete_laws.proofs.CompleteBinds.{not_mark}
use Rattle.grammar_complete_laws.proofs.Stops.{stop_close, stop_comma, stop_assign}
use Rattle.grammar_complete_laws.proofs.ExprFronts.{opens_append, opens_first, opens_some, expr_opens}
use Rattle.grammar_complete_laws.proofs.CompleteParts.{CompleteEnv, IsComma, rank_low, list_of, of_list, ListEnd, more_complete, more_leads}
use Rattle.grammar_parser_laws.proofs.ProperIn.{Mode, Proper, ProperExprs}

-- an Expression as a list
pub record Listed (m : Mode) (d : ℕ) (inner : Expr) : Type 0 where
  pub first : Expr
  pub others : Exprs
  pub pieces : print_list m.look d (more_exprs first others) ≡ print m.look (suc d) inner
  pub same : parser.list_case (first ∷ list_of others) ≡ inner
  pub proper : ProperExprs m (more_exprs first others)

one_listed : (m : Mode) (d : ℕ) (e : Expr) → rank e ≤ 20 → Proper m e → Listed m d e
one_listed m d e r h = record { first = e; others = no_exprs; pieces = append-nil (print m.look (suc d) e); same = refl; proper = (r, h, tt) }

pub listed : (m : Mode) (d : ℕ) (e : Expr) → Proper m e → Listed m d e
listed m d e h = by e h (rank_low m e h)
  where
    by : (e : Expr) → Proper m e → IsComma e ⊎ (rank e ≤ 20) → Listed m d e
    by e h (inr r) = one_listed m d e r h
    by (tree.Comma (more_exprs e (more_exprs f es))) h (inl k) = record { first = e; others = more_exprs f es; pieces = refl; same = ap (λ x. tree.Comma (more_exprs e (more_exprs f x))) (of_list es); proper = h.1 }
    by (tree.Comma no_exprs) h (inl k) = absurd h.0
    by (tree.Comma (more_exprs e no_exprs)) h (inl k) = absurd h.0
    by (tree.This at) h (inl k) = absurd k
    by (tree.Name name) h (inl k) = absurd k
    by (tree.Null at) h (inl k) = absurd k
    by (tree.True at) h (inl k) = absurd k
    by (tree.False at) h (inl k) = absurd k
    by (tree.Number at value) h (inl k) = absurd k
    by (tree.Str at end x) h (inl k) = absurd k
    by (tree.Template at first parts) h (inl k) = absurd k
    by (tree.Array at is comma) h (inl k) = absurd k
    by (tree.Object at ps comma) h (inl k) = absurd k
    by (tree.Func at f) h (inl k) = absurd k
    by (tree.Paren at inner) h (inl k) = absurd k
    by (tree.Chain head tails) h (inl k) = absurd k
    by (tree.New at callee args) h (inl k) = absurd k
    by (tree.Unary at op of is_word) h (inl k) = absurd k
    by (tree.Update at op prefix of) h (inl k) = absurd k
    by (tree.Binary first rest) h (inl k) = absurd k
    by (tree.Cond test a b) h (inl k) = absurd k
    by (tree.Assign op target value) h (inl k) = absurd k

module _ (limit : ℕ) (m : Mode) (d : ℕ) (low : d ≤ limit) (v : Env) (c : CompleteEnv limit m d v) where
  abbrev Closes : Lexeme → Type 0
  Closes t = t.kind ≡ kind.Mark mark.CLOSE_PAREN

  pub items_complete : (e : Expr) (es : Exprs) → ProperExprs m (more_exprs e es) → Completes limit (print_list m.look d (more_exprs e es)) (ListEnd limit m d low v c true (last_ending (ending e) es)) (parser.items_from v) (e ∷ list_of es)
  unfolding parser.items_from
  items_complete e es h = c_bind limit (λ x. bind (loop (parser.more_turn v true)) (λ n. ret (x ∷ n.items))) (c.calls.assign true e h.0 h.1 refl) (more_leads limit m d low v c true e es) (c_made limit (λ n. e ∷ n.items) (more_complete limit m d low v c true e es h.2 refl))

  closing : (e : Expr) (es : Exprs) (t : Lexeme) → Closes t → ListEnd limit m d low v c true (last_ending (ending e) es) t
  closing e es t h = stop_close true (last_ending (ending e) es) t h

  -- where an arrow's parameters might stand

  leads_here : (b p : Bool) (t : Lexeme) (ts : List Lexeme) → b ≡ false → p ≡ false → when b parser.doomed (when p (parser.doomed_rest v) (parser.lead_item v)) (t ∷ ts) ≡ parser.lead_item v (t ∷ ts)
  leads_here true p t ts h k = absurd (true_false h)
  leads_here false true t ts h k = absurd (true_false k)
  leads_here false false t ts h k = refl

  lead_here : (t : Lexeme) (ts : List Lexeme) → begins_assign t.kind ≡ true → parser.lead_turn v (t ∷ ts) ≡ parser.lead_item v (t ∷ ts)
  unfolding parser.lead_turn
  lead_here t ts h = leads_here (is_mark mark.CLOSE_PAREN t.kind) (is_mark mark.ELLIPSIS t.kind) t ts (not_mark mark.CLOSE_PAREN refl t.kind h) (not_mark mark.ELLIPSIS refl t.kind h)

  abbrev by_form : List Lexeme → Bool
  by_form ts = is_param_form (head_of ts) (head_of (rest_of ts))

  item_case : (b : Bool) (ts : List Lexeme) → by_form ts ≡ b → parser.lead_item v ts ≡ when b (bind (v.sub (AnAssign true)) parser.lead_end) (bind (parser.items_from v) (λ es. ret (Stop es))) ts
  unfolding parser.lead_item
  item_case b ts h = ap (λ x. when x (bind (v.sub (AnAssign true)) parser.lead_end) (bind (parser.items_from v) (λ es. ret (Stop es))) ts) h

  end_comma : (e : Expr) (t : Lexeme) (ts : List Lexeme) → t.kind ≡ kind.Mark mark.COMMA → parser.lead_end e (t ∷ ts) ≡ Read (Again e) [] ts
  unfolding parser.lead_end
  end_comma e t ts h = ap (λ k. when (is_mark mark.COMMA k) (step (ret (Again e))) (ret (Stop (e ∷ []))) (t ∷ ts)) h

  end_last : (e : Expr) (rest : List Lexeme) → Closes (head_of rest) → bare (parser.lead_end e rest) ≡ Read (Stop (e ∷ [])) [] rest
  unfolding parser.lead_end
  end_last e rest h = ap (λ k. bare (when (is_mark mark.COMMA k) (step (ret (Again e))) (ret (Stop (e ∷ []))) rest)) h

  again_complete : (e : Expr) → rank e ≤ assign_rank → Proper m e → Completes limit (print m.look (suc d) e ++ mark_piece mark.COMMA d ∷ []) Any (bind (v.sub (AnAssign true)) parser.lead_end) (Again e)
  again_complete e r h = c_bind limit parser.lead_end (c.calls.assign true e r h refl) (lead_at (λ t s. stop_comma true (ending e) t s.kind)) (c_at limit (λ t. ret (Again e)) low (λ t ts s. end_comma e t ts s.kind) (λ t s. c_ret limit (Again e)))

  stop_complete : (e : Expr) → rank e ≤ assign_rank → Proper m e → Completes limit (print m.look (suc d) e) Closes (bind (v.sub (AnAssign true)) parser.lead_end) (Stop (e ∷ []))
  stop_complete e r h = c_pieces limit (append-nil (print m.look (suc d) e)) (c_bind limit parser.lead_end (c.calls.assign true e r h refl) (lead_map (λ t g. stop_assign true (ending e) t (stop_close true (ending e) t g)) lead_none) (c_look limit (end_last e)))

  -- a turn, by the form of its first lexemes
  turn_as : (b : Bool) {x : Turn Expr (List Expr)} (w : List Marked) (rest : List Lexeme) → by_form (lexemes w ++ rest) ≡ b → ((y : Marked) (u : List Marked) → w ≡ y ∷ u → begins_assign y.lexeme.kind ≡ true) → (w ≡ [] → ⊥) → Parses limit (when b (bind (v.sub (AnAssign true)) parser.lead_end) (bind (parser.items_from v) (λ es. ret (Stop es)))) w rest x → Parses limit (parser.lead_turn v) w rest x
  turn_as b [] rest h f n p = absurd (n refl)
  turn_as b (y ∷ u) rest h f n p = record { by = ap bare (lead_here y.lexeme (lexemes u ++ rest) (f y u refl) ∙ item_case b (lexemes (y ∷ u) ++ rest) h) ∙ p.by }

  -- all items
  record LeadsTo (w : List Marked) (rest : List Lexeme) (n : ℕ) (xs : List Expr) : Type 0 where
    many : Many Expr (List Expr)
    same : many.items ++ many.last ≡ xs
    parses : Parses limit (turns (parser.lead_turn v) n) w rest many

  fronts : (ps : List Piece) (e : Expr) → Proper m e → (w : List Marked) (n : Lexeme) → Stands (print m.look (suc d) e ++ ps) w n → (y : Marked) (u : List Marked) → w ≡ y ∷ u → begins_assign y.lexeme.kind ≡ true
  fronts ps e h w n k y u q = opens_first begins_assign (print m.look (suc d) e ++ ps) y u n (opens_append begins_assign (print m.look (suc d) e) ps (expr_opens m (suc d) e h)) (subst (λ x. Stands (print m.look (suc d) e ++ ps) x n) q k)

  longs : (ps : List Piece) (e : Expr) → Proper m e → (w : List Marked) (n : Lexeme) → Stands (print m.look (suc d) e ++ ps) w n → 0 < length (lexemes w)
  longs ps e h w n k = opens_some begins_assign (print m.look (suc d) e ++ ps) w n (opens_append begins_assign (print m.look (suc d) e) ps (expr_opens m (suc d) e h)) k

  not_none : (w : List Marked) → 0 < length (lexemes w) → w ≡ [] → ⊥
  not_none w h e = absurd (omega (arith, h, ap (λ x. length (lexemes x)) e))

  all_items : (e : Expr) (es : Exprs) → ProperExprs m (more_exprs e es) → (w : List Marked) (rest : List Lexeme) → Stands (print_list m.look d (more_exprs e es)) w (head_of rest) → Closes (head_of rest) → (n : ℕ) → by_form (lexemes w ++ rest) ≡ false → LeadsTo w rest (suc n) (e ∷ list_of es)
  unfolding turns
  all_items e es h w rest k g n f = record {
    many = record { items = []; last = e ∷ list_of es };
    same = refl;
    parses = parses_map limit (turned (turns (parser.lead_turn v) n)) {a = Stop (e ∷ list_of es)} (turn_as false w rest f (fronts (print_more m.look d es) e h.1 w (head_of rest) k) (not_none w (longs (print_more m.look d es) e h.1 w (head_of rest) k)) (parses_map limit (λ x. ret (Stop x)) ((items_complete e es h).at w rest k (closing e es (head_of rest) g)) refl)) refl;
  }

  lead_items : (e : Expr) (es : Exprs) → ProperExprs m (more_exprs e es) → (w : List Marked) (rest : List Lexeme) → Stands (print_list m.look d (more_exprs e es)) w (head_of rest) → Closes (head_of rest) → (n : ℕ) → length (lexemes w ++ rest) < n → (b : Bool) → by_form (lexemes w ++ rest) ≡ b → LeadsTo w rest n (e ∷ list_of es)
  unfolding turns
  lead_items e es h w rest k g zero l b f = absurd (omega (arith, l))
  lead_items e es h w rest k g (suc n) l false f = all_items e es h w rest k g n f
  lead_items e no_exprs h w rest k g (suc n) l true f =
      let here : Stands (print m.look (suc d) e) w (head_of rest) = subst (λ x. Stands x w (head_of rest)) (append-nil (print m.look (suc d) e)) k in
      record {
        many = record { items = []; last = e ∷ [] };
        same = refl;
        parses = parses_map limit (turned (turns (parser.lead_turn v) n)) {a = Stop (e ∷ [])} (turn_as true w rest f (fronts [] e h.1 w (head_of rest) k) (not_none w (longs [] e h.1 w (head_of rest) k)) ((stop_complete e h.0 h.1).at w rest here g)) refl;
      }
  lead_items e (more_exprs x xs) h w rest k g (suc n) l true f =
      let q = stands_split (print m.look (suc d) e ++ mark_piece mark.COMMA d ∷ []) (print_list m.look d (more_exprs x xs)) w (head_of rest) (subst (λ y. Stands y w (head_of rest)) (sym (append_assoc (print m.look (suc d) e) (mark_piece mark.COMMA d ∷ []) (print_list m.look d (more_exprs x xs)))) k) in
      let same : lexemes w ++ rest ≡ lexemes q.front ++ (lexemes q.back ++ rest) = ap (λ y. lexemes y ++ rest) q.split ∙ joined q.front q.back rest in
      let here : Stands (print m.look (suc d) e ++ mark_piece mark.COMMA d ∷ []) q.front (head_of (lexemes q.back ++ rest)) = subst (λ y. Stands (print m.look (suc d) e ++ mark_piece mark.COMMA d ∷ []) q.front y) (sym (head_first (lexemes q.back) rest)) q.first in
      let long : 0 < length (lexemes q.front) = longs (mark_piece mark.COMMA d ∷ []) e h.1 q.front (head_of (lexemes q.back ++ rest)) here in
      let short : length (lexemes q.back ++ rest) < n = omega (arith, l, long, ap length same, length-append (lexemes q.front) (lexemes q.back ++ rest)) in
      let again = lead_items x xs h.2 q.back rest q.second g n short (by_form (lexemes q.back ++ rest)) refl in
      let first = turn_as true q.front (lexemes q.back ++ rest) (ap by_form (sym same) ∙ f) (fronts (mark_piece mark.COMMA d ∷ []) e h.1 q.front (head_of (lexemes q.back ++ rest)) here) (not_none q.front long) ((again_complete e h.0 h.1).at q.front (lexemes q.back ++ rest) here tt) in
      record {
        many = begun e again.many;
        same = ap (λ y. e ∷ y) again.same;
        parses = subst (λ y. Parses limit (turns (parser.lead_turn v) (suc n)) y rest (begun e again.many)) (sym q.split) (parses_bind limit (turned (turns (parser.lead_turn v) n)) {v = q.back} {b = begun e again.many} first (parses_map limit (λ y. ret (begun e y)) again.parses refl));
      }

  heads_complete : (e : Expr) (es : Exprs) → ProperExprs m (more_exprs e es) → Completes limit (print_list m.look d (more_exprs e es)) Closes (parser.lead_items v) (e ∷ list_of es)
  unfolding parser.lead_items loop
  heads_complete e es h = record { at = read }
    where
      read : (w : List Marked) (rest : List Lexeme) → Stands (print_list m.look d (more_exprs e es)) w (head_of rest) → Closes (head_of rest) → Parses limit (bind (loop (parser.lead_turn v)) (λ n. ret (n.items ++ n.last))) w rest (e ∷ list_of es)
      read w rest k g =
          let all = lead_items e es h w rest k g (suc (length (lexemes w ++ rest))) (omega arith) (by_form (lexemes w ++ rest)) refl in
          subst (Parses limit (bind (loop (parser.lead_turn v)) (λ n. ret (n.items ++ n.last))) w rest) all.same (parses_map limit {m = loop (parser.lead_turn v)} (λ n. ret (n.items ++ n.last)) {a = all.many} (record { by = all.parses.by }) refl)

  either_complete : (heads : Bool) (e : Expr) (es : Exprs) → ProperExprs m (more_exprs e es) → Completes limit (print_list m.look d (more_exprs e es)) Closes (when heads (parser.lead_items v) (parser.items_from v)) (e ∷ list_of es)
  either_complete true e es h = heads_complete e es h
  either_complete false e es h = c_weaken limit (λ t g. closing e es t g) (items_complete e es h)

  -- after the parenthesis
  pub paren_complete : {F : Lexeme → Type 0} (heads : Bool) (at : ℕ) (inner : Expr) → Proper m inner → Completes limit (print m.look (suc d) inner ++ mark_piece mark.CLOSE_PAREN d ∷ []) F (parser.paren_of v heads at) (tree.Paren at inner)
  unfolding parser.paren_of
  paren_complete heads at inner h =
      let l = listed m d inner h in
      c_value (ap (tree.Paren at) l.same) (c_pieces limit (ap (λ x. x ++ mark_piece mark.CLOSE_PAREN d ∷ []) l.pieces) (c_bind limit (λ es. bind (expect mark.CLOSE_PAREN) (λ _. ret (tree.Paren at (parser.list_case es)))) (either_complete heads l.first l.others l.proper) (lead_at (λ t s. s.kind)) (c_made limit (λ _. tree.Paren at (parser.list_case (l.first ∷ list_of l.others))) (c_mark limit mark.CLOSE_PAREN d low refl))))
