-- Completeness of statements: at the lexemes of a statement of the grammar its parser reads this statement, or finds the
-- first of them that is too deep.
use Rattle.std.proofs.Common.{◌≡◌, ℕ, suc, ◌≤◌, ◌<◌, List, [], ◌∷◌, ◌++◌, length, refl, sym, ap, ◌∙◌, subst, arith, append_assoc, Bool, true, false, not, ◌||◌, Some}
use Rattle.script_grammar.specs.declared.token.Kind.{Kind}
use Rattle.script_grammar.specs.declared.token.Kind.TheVariants as kind
use Rattle.script_grammar.specs.declared.token.mark.TheConstants as mark
use Rattle.script_grammar.specs.declared.token.word.TheConstants as word
use Rattle.script_grammar.specs.declared.token.FuncForm.TheVariants as form
use Rattle.script_grammar.specs.Lexeme.{Lexeme}
use Rattle.script_grammar.specs.Kinds.{is_mark, is_word, is_end}
use Rattle.script_grammar.specs.Tree.{Named, Expr, Stmt, Stmts, no_stmts, more_stmts, Function}
use Rattle.script_grammar.specs.TreeLists.{stmts_of}
use Rattle.script_grammar.specs.Pieces.{Piece, Ending, may_omit, mark_piece, name_piece, semi_piece}
use Rattle.script_grammar.specs.Endings.{ending}
use Rattle.script_grammar.specs.Print.{print, print_stmt, print_stmts, print_function}
use Rattle.script_grammar.specs.Proper.{rank, is_statement, takes_else, free_of_in, InIf, assign_rank}
use Rattle.script_grammar.specs.Script.{IsOf}
use Rattle.grammar_parser_specs.specs.Parser.{Read, Parser, head_of, ret, bad, bind, step, when, Again, Stop}
use Rattle.grammar_parser_specs.specs.Exprs.{Env, AnAssign, expect, expr_of, name_of, named, function_of}
use Rattle.grammar_parser_specs.specs.Stmts as parser
use Rattle.grammar_parser_specs.specs.Stmts.{Place, AnItem, AStmt, StmtCalls, Block, is_item, is_inside, bound, ends_items}
use Rattle.grammar_parser_specs.specs.Follow.{continues_assign, continues_expr}
use Rattle.grammar_parser_laws.proofs.Friendly.{first_of}
use Rattle.grammar_parser_laws.proofs.Tests.{false_true, true_false, and_left, or_cases, not_true, neither_left, neither_right, mark_known, word_known, end_known}
use Rattle.grammar_parser_laws.proofs.Stands.{Marked, lexemes, Stands}
use Rattle.grammar_parser_laws.proofs.Complete.{bare, AllK, flat}
use Rattle.grammar_complete_laws.proofs.Completes.{Completes, Leads, Any, at_kind, lead_none, lead_at, lead_any, lead_map, c_ret, c_bind, c_made, c_at, c_front, c_look, c_pieces, c_gap, c_mark}
use Rattle.grammar_complete_laws.proofs.CompleteLoops.{c_loop, LastLeads}
use Rattle.grammar_complete_laws.proofs.Stops.{stop_semi, omit_stops, ends_expr}
use Rattle.grammar_complete_laws.proofs.ExprFronts.{opens_first, opens_some}
use Rattle.grammar_complete_laws.proofs.StmtFronts.{starts, stmt_opens}
use Rattle.grammar_parser_laws.proofs.ProperIn.{Mode, Proper, ProperFunction, ProperStmt, ProperStmts}

-- What may follow a statement: no `else` that it would take, and no colon.
pub record Follows (s : Stmt) (t : Lexeme) : Type 0 where
  pub no_else : takes_else s ≡ true → is_word word.ELSE t.kind ≡ false
  pub no_colon : is_mark mark.COLON t.kind ≡ false

-- What may follow a list of statements.
abbrev pub EndsList : Lexeme → Type 0
EndsList t = ends_items t.kind ≡ true

pub record CompleteUses (limit : ℕ) (m : Mode) (d : ℕ) (v : Env) : Type 0 where
  pub expr : (w : Bool) (e : Expr) → Proper m e → InIf w (free_of_in e) → Completes limit (print m.look (suc d) e) (λ t. continues_expr w (ending e) t ≡ false) (expr_of v w) e
  pub assign : (w : Bool) (e : Expr) → rank e ≤ assign_rank → Proper m e → InIf w (free_of_in e) → Completes limit (print m.look (suc d) e) (λ t. continues_assign w (ending e) t ≡ false) (v.sub (AnAssign w)) e
  pub function : (n : Named) (g : Function) → IsOf form.Function (Some n) g → ProperFunction m g → Completes limit (print_function m.look d g) Any (function_of v form.Function (Some n)) g

pub record CompleteStmts (limit : ℕ) (m : Mode) (d : ℕ) (stmt : StmtCalls) : Type 0 where
  pub at : (p : Place) (s : Stmt) → ProperStmt m (is_inside p) s → (is_item p ≡ false → is_statement s ≡ true) → Completes limit (print_stmt m.look (suc d) s) (Follows s) (stmt p) s

pub record CompleteBlock (limit : ℕ) (m : Mode) (d : ℕ) (b : Block) : Type 0 where
  pub uses : CompleteUses limit m d b.exprs
  pub stmts : CompleteStmts limit m d b.stmt
  pub label : (n : Named) → Completes limit (name_piece n (suc d) ∷ []) Any b.label n

-- values

pub c_value : {limit : ℕ} {A : Type 0} {ps : List Piece} {F : Lexeme → Type 0} {f : Parser A} {a x : A} → a ≡ x → Completes limit ps F f a → Completes limit ps F f x
c_value {limit = limit} {ps = ps} {F = F} {f = f} e c = subst (λ y. Completes limit ps F f y) e c

pub follows_as : {s r : Stmt} → takes_else r ≡ takes_else s → (t : Lexeme) → Follows s t → Follows r t
follows_as e t g = record { no_else = λ h. g.no_else (sym e ∙ h); no_colon = g.no_colon }

pub colon_word : (i : ℕ) (t : Lexeme) → t.kind ≡ kind.Word i → is_mark mark.COLON t.kind ≡ false
colon_word i t e = ap (is_mark mark.COLON) e

pub named_is : (n : Named) (d : ℕ) (t : Lexeme) → t.text ≡ n.text → t.start ≡ n.at → named t ≡ n
named_is n d t e h = ap (λ x. record { text = x; at = t.start }) e ∙ ap (λ x. record { text = n.text; at = x }) h

abbrev pub list_of : Stmts → List Stmt
list_of no_stmts = []
list_of (more_stmts s ss) = s ∷ list_of ss

pub of_list : (ss : Stmts) → stmts_of (list_of ss) ≡ ss
of_list no_stmts = refl
of_list (more_stmts s ss) = ap (more_stmts s) (of_list ss)

module _ (limit : ℕ) (m : Mode) (d : ℕ) (low : d ≤ limit) where
  -- a semicolon

  semi_here : (e : Ending) (t : Lexeme) (ts : List Lexeme) → t.kind ≡ kind.Mark mark.SEMICOLON → parser.semi_of e (t ∷ ts) ≡ Read true [] ts
  unfolding parser.semi_of
  semi_here e t ts h = at_kind (λ u. parser.semi_of e (u ∷ ts) ≡ Read true [] ts) (kind.Mark mark.SEMICOLON) t h refl

  semi_by : (s o : Bool) (rest : List Lexeme) → s ≡ false → o ≡ true → bare (when s (step (ret true)) (when o (ret false) bad) rest) ≡ Read false [] rest
  semi_by true o rest e h = absurd (true_false e)
  semi_by false true rest e h = refl
  semi_by false false rest e h = absurd (false_true h)

  semi_gap : (e : Ending) (rest : List Lexeme) → may_omit e (head_of rest) ≡ true → bare (parser.semi_of e rest) ≡ Read false [] rest
  unfolding parser.semi_of
  semi_gap e rest h = semi_by (is_mark mark.SEMICOLON (head_of rest).kind) (may_omit e (head_of rest)) rest (not_true (is_mark mark.SEMICOLON (head_of rest).kind) (and_left (not (is_mark mark.SEMICOLON (head_of rest).kind)) _ h)) h

  pub semi_complete : {F : Lexeme → Type 0} (e : Ending) (semi : Bool) → Completes limit (semi_piece e semi d) F (parser.semi_of e) semi
  semi_complete e true = c_at limit (λ t. ret true) low (λ t ts s. semi_here e t ts s.kind) (λ t s. c_ret limit true)
  semi_complete e false = c_gap limit (λ rest h g. semi_gap e rest h)

  pub semi_leads : {G F : Lexeme → Type 0} (e : Ending) (semi : Bool) → ((t : Lexeme) → t.kind ≡ kind.Mark mark.SEMICOLON → F t) → ((t : Lexeme) → may_omit e t ≡ true → F t) → Leads (semi_piece e semi d) G F
  semi_leads e true f g = lead_at (λ t s. f t s.kind)
  semi_leads e false f g = record { by = λ v n h k. g (first_of (lexemes v) n) h.0 }

  -- after an expression
  pub expr_semi : {G : Lexeme → Type 0} (e : Expr) (semi : Bool) → Leads (semi_piece (ending e) semi d) G (λ t. continues_expr true (ending e) t ≡ false)
  expr_semi e semi = semi_leads (ending e) semi (λ t k. stop_semi true (ending e) t k) (λ t k. omit_stops (ending e) (ends_expr e) t k)

  -- a name
  name_here : (t : Lexeme) (ts : List Lexeme) → t.kind ≡ kind.Name → name_of (t ∷ ts) ≡ Read (named t) [] ts
  unfolding name_of
  name_here t ts e = at_kind (λ u. name_of (u ∷ ts) ≡ Read (named u) [] ts) kind.Name t e refl

  pub name_complete : {F : Lexeme → Type 0} (n : Named) → Completes limit (name_piece n d ∷ []) F name_of n
  name_complete n = c_at limit (λ t. ret (named t)) low (λ t ts s. name_here t ts s.kind) (λ t s. c_value (named_is n d t s.content s.starts.0) (c_ret limit (named t)))

  -- lists of statements

  flat_stmts : (ss : Stmts) → flat (λ s. print_stmt m.look (suc d) s) (list_of ss) ++ [] ≡ print_stmts m.look d ss
  flat_stmts no_stmts = refl
  flat_stmts (more_stmts s ss) = append_assoc (print_stmt m.look (suc d) s) (flat (λ s. print_stmt m.look (suc d) s) (list_of ss)) [] ∙ ap (λ x. print_stmt m.look (suc d) s ++ x) (flat_stmts ss)

  all_stmts : (i : Bool) (ss : Stmts) → ProperStmts m i ss → AllK (λ s. ProperStmt m i s) (list_of ss)
  all_stmts i no_stmts h = tt
  all_stmts i (more_stmts s ss) h = (h.0, all_stmts i ss h.1)

  starts_follows : (s : Stmt) (t : Lexeme) → starts t.kind ≡ true → Follows s t
  starts_follows s t h =
      let n = not_true (is_word word.ELSE t.kind || ends_items t.kind || is_mark mark.COLON t.kind) h in
      record { no_else = λ _. neither_left (is_word word.ELSE t.kind) (ends_items t.kind) (neither_left (is_word word.ELSE t.kind || ends_items t.kind) (is_mark mark.COLON t.kind) n); no_colon = neither_right (is_word word.ELSE t.kind || ends_items t.kind) (is_mark mark.COLON t.kind) n }

  starts_goes : (k : Kind) → starts k ≡ true → ends_items k ≡ false
  starts_goes k h =
      let n = not_true (is_word word.ELSE k || ends_items k || is_mark mark.COLON k) h in
      neither_right (is_word word.ELSE k) (ends_items k) (neither_left (is_word word.ELSE k || ends_items k) (is_mark mark.COLON k) n)

  ends_follows : (s : Stmt) (t : Lexeme) → EndsList t → Follows s t
  ends_follows s t h =
      or_cases (is_mark mark.CLOSE_BRACE t.kind || is_end t.kind || is_word word.CASE t.kind) (is_word word.DEFAULT t.kind) h
      (λ h. or_cases (is_mark mark.CLOSE_BRACE t.kind || is_end t.kind) (is_word word.CASE t.kind) h
      (λ h. or_cases (is_mark mark.CLOSE_BRACE t.kind) (is_end t.kind) h
      (λ h. by (kind.Mark mark.CLOSE_BRACE) (mark_known mark.CLOSE_BRACE t.kind h) refl refl)
      (λ h. by kind.End (end_known t.kind h) refl refl))
      (λ h. by (kind.Word word.CASE) (word_known word.CASE t.kind h) refl refl))
      (λ h. by (kind.Word word.DEFAULT) (word_known word.DEFAULT t.kind h) refl refl)
    where
      by : (k : Kind) → t.kind ≡ k → is_word word.ELSE k ≡ false → is_mark mark.COLON k ≡ false → Follows s t
      by k e a c = record { no_else = λ _. ap (is_word word.ELSE) e ∙ a; no_colon = ap (is_mark mark.COLON) e ∙ c }

  stmt_some : (i : Bool) (s : Stmt) → ProperStmt m i s → (w : List Marked) (n : Lexeme) → Stands (print_stmt m.look (suc d) s) w n → 0 < length (lexemes w)
  stmt_some i s k w n h = opens_some starts (print_stmt m.look (suc d) s) w n (stmt_opens m (suc d) i s k) h

  stmt_first : (i : Bool) (s : Stmt) → ProperStmt m i s → (w : List Marked) (n : Lexeme) → Stands (print_stmt m.look (suc d) s) w n → starts (first_of (lexemes w) n).kind ≡ true
  stmt_first i s k [] n h = absurd (omega (arith, stmt_some i s k [] n h))
  stmt_first i s k (x ∷ w) n h = opens_first starts (print_stmt m.look (suc d) s) x w n (stmt_opens m (suc d) i s k) h

  module _ (stmt : StmtCalls) (c : CompleteStmts limit m d stmt) where
    item_at : (i : Bool) (t : Lexeme) (ts : List Lexeme) → ends_items t.kind ≡ false → parser.stmt_turn stmt i (t ∷ ts) ≡ bind (stmt (AnItem i)) (λ s. ret (Again s)) (t ∷ ts)
    unfolding parser.stmt_turn
    item_at i t ts h = ap (λ b. when b (ret (Stop tt)) (bind (stmt (AnItem i)) (λ s. ret (Again s))) (t ∷ ts)) h

    list_ends : (i : Bool) (rest : List Lexeme) → EndsList (head_of rest) → bare (parser.stmt_turn stmt i rest) ≡ Read (Stop tt) [] rest
    unfolding parser.stmt_turn
    list_ends i rest h = ap (λ b. bare (when b (ret (Stop tt)) (bind (stmt (AnItem i)) (λ s. ret (Again s))) rest)) h

    item_complete : (i : Bool) (s : Stmt) → ProperStmt m i s → Completes limit (print_stmt m.look (suc d) s) (Follows s) (parser.stmt_turn stmt i) (Again s)
    item_complete i s k = c_front limit (bind (stmt (AnItem i)) (λ s. ret (Again s))) (λ x w rest h g. item_at i x.lexeme (lexemes w ++ rest) (starts_goes x.lexeme.kind (opens_first starts (print_stmt m.look (suc d) s) x w (head_of rest) (stmt_opens m (suc d) i s k) h))) (stmt_some i s k) (c_made limit Again (c.at (AnItem i) s k (λ e. absurd (true_false e))))

    last_leads : (i : Bool) (xs : List Stmt) → LastLeads limit (λ s. ProperStmt m i s) (λ s. print_stmt m.look (suc d) s) Follows [] EndsList tt (parser.stmt_turn stmt i) (item_complete i) (stmt_some i) (λ x y kx ky w n h. starts_follows x (first_of (lexemes w) n) (stmt_first i y ky w n h)) (c_look limit (list_ends i)) xs
    last_leads i [] = tt
    last_leads i (x ∷ []) = lead_map (λ t h. ends_follows x t h) lead_none
    last_leads i (x ∷ y ∷ xs) = last_leads i (y ∷ xs)

    pub stmts_complete : (i : Bool) (ss : Stmts) → ProperStmts m i ss → Completes limit (print_stmts m.look d ss) EndsList (parser.stmts_from stmt i) (list_of ss)
    unfolding parser.stmts_from
    stmts_complete i ss h = c_made limit (λ x. x.items) (c_pieces limit (flat_stmts ss) (c_loop limit (λ s. ProperStmt m i s) (λ s. print_stmt m.look (suc d) s) Follows [] EndsList tt (parser.stmt_turn stmt i) (item_complete i) (stmt_some i) (λ x y kx ky w n h. starts_follows x (first_of (lexemes w) n) (stmt_first i y ky w n h)) (c_look limit (list_ends i)) (list_of ss) (all_stmts i ss h) (last_leads i (list_of ss))))

    closing : {G : Lexeme → Type 0} → Leads (mark_piece mark.CLOSE_BRACE d ∷ []) G EndsList
    closing = lead_at (λ t s. at_kind EndsList (kind.Mark mark.CLOSE_BRACE) t s.kind refl)

    -- after the first brace
    pub braced_from_complete : {F : Lexeme → Type 0} (i : Bool) (ss : Stmts) → ProperStmts m i ss → Completes limit (print_stmts m.look d ss ++ mark_piece mark.CLOSE_BRACE d ∷ []) F (parser.braced_from stmt i) ss
    unfolding parser.braced_from
    braced_from_complete i ss h = c_value (of_list ss) (c_bind limit (λ xs. bind (expect mark.CLOSE_BRACE) (λ _. ret (stmts_of xs))) (stmts_complete i ss h) closing (c_made limit (λ _. stmts_of (list_of ss)) (c_mark limit mark.CLOSE_BRACE d low refl)))

    pub braced_complete : {F : Lexeme → Type 0} (i : Bool) (ss : Stmts) → ProperStmts m i ss → Completes limit (mark_piece mark.OPEN_BRACE d ∷ (print_stmts m.look d ss ++ mark_piece mark.CLOSE_BRACE d ∷ [])) F (parser.braced_of stmt i) ss
    unfolding parser.braced_of
    braced_complete i ss h = c_bind limit (λ _. parser.braced_from stmt i) (c_mark limit mark.OPEN_BRACE d low refl) lead_any (braced_from_complete i ss h)
