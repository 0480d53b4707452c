-- Completeness of statements that hold no list of clauses: at their lexemes they are read.
use Rattle.std.proofs.Common.{◌≡◌, ℕ, suc, ◌≤◌, ◌<◌, List, [], ◌∷◌, ◌++◌, length, refl, sym, ap, ◌∙◌, append_assoc, Bool, true, false, not, ◌&&◌, ◌||◌, Option, Some, None}
use Rattle.script_grammar.specs.declared.token.Kind.{Kind}
use Rattle.script_grammar.specs.declared.token.Kind.TheVariants as kind
use Rattle.script_grammar.specs.declared.token.mark.TheConstants as mark
use Rattle.script_grammar.specs.declared.token.word.TheConstants as word
use Rattle.script_grammar.specs.Lexeme.{Lexeme}
use Rattle.script_grammar.specs.Kinds.{is_mark, is_word, is_name, is_end}
use Rattle.script_grammar.specs.Tree.{Named, Expr, Stmt, Stmts, no_stmts, more_stmts, MaybeStmt, no_stmt, some_stmt, MaybeExpr, no_expr, some_expr, Binds, no_binds, more_binds, Function, function}
use Rattle.script_grammar.specs.Tree as tree
use Rattle.script_grammar.specs.TreeLists.{maybe_expr_of, maybe_stmt_of}
use Rattle.script_grammar.specs.Pieces.{Piece, At, Gap, Pass, Keyword, DoWhile, may_omit, mark_piece, word_piece, semi_piece, glue}
use Rattle.script_grammar.specs.Endings.{ending, return_ending}
use Rattle.script_grammar.specs.Print.{print, print_stmt, print_stmts, print_else, print_label, print_maybe}
use Rattle.script_grammar.specs.Proper.{is_statement, takes_else}
use Rattle.grammar_parser_specs.specs.Parser.{Read, Parser, head_of, ret, bad, bind, step, when}
use Rattle.grammar_parser_specs.specs.Exprs.{expect, expr_of, named, begins_assign}
use Rattle.grammar_parser_specs.specs.Stmts as parser
use Rattle.grammar_parser_specs.specs.Stmts.{Place, AnItem, AStmt, StmtCalls, Block, is_item, is_inside, bound, ends_items}
use Rattle.grammar_parser_laws.proofs.Tests.{false_true, true_false, or_left, or_right, mark_known, end_known}
use Rattle.grammar_parser_laws.proofs.Stands.{Marked, lexemes, Stands}
use Rattle.grammar_parser_laws.proofs.Complete.{bare}
use Rattle.grammar_complete_laws.proofs.Completes.{Completes, of_kind, at_kind, lead_none, lead_at, lead_any, lead_map, c_ret, c_bind, c_made, c_at, c_front, c_look, c_weaken, c_pieces, c_mark, c_word}
use Rattle.grammar_complete_laws.proofs.Stops.{omit_cases, stop_close}
use Rattle.grammar_complete_laws.proofs.ExprFronts.{mark_elim, Opens, opens_first, opens_some, expr_opens}
use Rattle.grammar_complete_laws.proofs.CompleteStmts.{Follows, CompleteBlock, c_value, follows_as, colon_word, semi_complete, semi_leads, expr_semi, braced_from_complete}
use Rattle.grammar_parser_laws.proofs.ProperIn.{Mode, Proper, ProperOption, ProperStmt, ProperStmts}

module _ (limit : ℕ) (m : Mode) (d : ℕ) (low : d ≤ limit) (b : Block) (c : CompleteBlock limit m d b) (i : Bool) where
  -- an Expression in parentheses, and what is after it
  pub parens_complete : {F : Lexeme → Type 0} (e : Expr) → Proper m e → Completes limit (mark_piece mark.OPEN_PAREN d ∷ (print m.look (suc d) e ++ mark_piece mark.CLOSE_PAREN d ∷ [])) F (parser.parens_of b.exprs) e
  unfolding parser.parens_of
  parens_complete e h = c_bind limit (λ _. bind (expr_of b.exprs true) (λ x. bind (expect mark.CLOSE_PAREN) (λ _. ret x))) (c_mark limit mark.OPEN_PAREN d low refl) lead_any
      (c_bind limit (λ x. bind (expect mark.CLOSE_PAREN) (λ _. ret x)) (c.uses.expr true e h refl) (lead_at (λ t s. stop_close true (ending e) t s.kind)) (c_made limit (λ _. e) (c_mark limit mark.CLOSE_PAREN d low refl)))

  pub parens_then : {A : Type 0} {F : Lexeme → Type 0} (e : Expr) (qs : List Piece) (f : Expr → Parser A) (a : A) → Proper m e → Completes limit qs F (f e) a → Completes limit (mark_piece mark.OPEN_PAREN d ∷ (print m.look (suc d) e ++ (mark_piece mark.CLOSE_PAREN d ∷ qs))) F (bind (parser.parens_of b.exprs) f) a
  parens_then e qs f a h k = c_pieces limit (ap (λ x. mark_piece mark.OPEN_PAREN d ∷ x) (append_assoc (print m.look (suc d) e) (mark_piece mark.CLOSE_PAREN d ∷ []) qs)) (c_bind limit f (parens_complete e h) lead_any k)

  stmt : (s : Stmt) → ProperStmt m i s → is_statement s ≡ true → Completes limit (print_stmt m.look (suc d) s) (Follows s) (b.stmt (AStmt i)) s
  stmt s h k = c.stmts.at (AStmt i) s h (λ _. k)

  pub while_complete : (e : Expr) (s : Stmt) → ProperStmt m i (tree.While e s) → Completes limit (mark_piece mark.OPEN_PAREN d ∷ (print m.look (suc d) e ++ (mark_piece mark.CLOSE_PAREN d ∷ print_stmt m.look (suc d) s))) (Follows (tree.While e s)) (parser.while_of b i) (tree.While e s)
  unfolding parser.while_of
  while_complete e s h = parens_then e (print_stmt m.look (suc d) s) (λ x. bind (b.stmt (AStmt i)) (λ y. ret (tree.While x y))) (tree.While e s) h.0 (c_made limit (tree.While e) (c_weaken limit (λ t g. follows_as refl t g) (stmt s h.2 h.1)))

  -- `else`

  else_here : (t : Lexeme) (ts : List Lexeme) → t.kind ≡ kind.Word word.ELSE → parser.else_of b i (t ∷ ts) ≡ bind (b.stmt (AStmt i)) (λ s. ret (Some s)) ts
  unfolding parser.else_of
  else_here t ts e = at_kind (λ u. parser.else_of b i (u ∷ ts) ≡ bind (b.stmt (AStmt i)) (λ s. ret (Some s)) ts) (kind.Word word.ELSE) t e refl

  no_else_here : (rest : List Lexeme) → is_word word.ELSE (head_of rest).kind ≡ false → bare (parser.else_of b i rest) ≡ Read None [] rest
  unfolding parser.else_of
  no_else_here rest h = ap (λ x. bare (when x (step (bind (b.stmt (AStmt i)) (λ s. ret (Some s)))) (ret None) rest)) h

  else_none : (x : Bool) (rest : List Lexeme) → is_word word.ELSE (head_of rest).kind ≡ false → bare (when x (ret None) (parser.else_of b i) rest) ≡ Read None [] rest
  else_none true rest h = refl
  else_none false rest h = no_else_here rest h

  else_some : {F : Lexeme → Type 0} (x : Bool) (qs : List Piece) (o : Option Stmt) → x ≡ false → Completes limit qs F (parser.else_of b i) o → Completes limit qs F (when x (ret None) (parser.else_of b i)) o
  else_some true qs o h k = absurd (true_false h)
  else_some false qs o h k = k

  pub if_complete : (e : Expr) (s : Stmt) (o : MaybeStmt) → ProperStmt m i (tree.If e s o) → Completes limit (mark_piece mark.OPEN_PAREN d ∷ (print m.look (suc d) e ++ (mark_piece mark.CLOSE_PAREN d ∷ (print_stmt m.look (suc d) s ++ print_else m.look d o)))) (Follows (tree.If e s o)) (parser.if_of b i) (tree.If e s o)
  unfolding parser.if_of
  if_complete e s no_stmt h = parens_then e (print_stmt m.look (suc d) s ++ []) (λ x. bind (b.stmt (AStmt i)) (λ y. bind (parser.else_behind b i y) (λ z. ret (tree.If x y (maybe_stmt_of z))))) (tree.If e s no_stmt) h.0
      (c_bind limit (λ y. bind (parser.else_behind b i y) (λ z. ret (tree.If e y (maybe_stmt_of z)))) (stmt s h.2 h.1)
      (lead_map (λ t g. record { no_else = λ _. g.no_else refl; no_colon = g.no_colon }) lead_none)
      (c_made limit (λ z. tree.If e s (maybe_stmt_of z)) (c_look limit (λ rest g. else_none (takes_else s) rest (g.no_else refl)))))
  if_complete e s (some_stmt x) h = parens_then e (print_stmt m.look (suc d) s ++ (word_piece word.ELSE d ∷ print_stmt m.look (suc d) x)) (λ x. bind (b.stmt (AStmt i)) (λ y. bind (parser.else_behind b i y) (λ z. ret (tree.If x y (maybe_stmt_of z))))) (tree.If e s (some_stmt x)) h.0
      (c_bind limit (λ y. bind (parser.else_behind b i y) (λ z. ret (tree.If e y (maybe_stmt_of z)))) (stmt s h.2 h.1)
      (lead_at (λ t q. record { no_else = λ y. absurd (true_false (sym y ∙ h.3)); no_colon = colon_word word.ELSE t q.kind }))
      (c_made limit (λ z. tree.If e s (maybe_stmt_of z)) (else_some (takes_else s) (word_piece word.ELSE d ∷ print_stmt m.look (suc d) x) (Some x) h.3
      (c_at limit (λ t. bind (b.stmt (AStmt i)) (λ y. ret (Some y))) low (λ t ts q. else_here t ts q.kind) (λ t q. c_made limit Some (c_weaken limit (λ t g. follows_as refl t g) (stmt x h.4.1 h.4.0)))))))

  pub do_complete : (s : Stmt) (e : Expr) (semi : Bool) → ProperStmt m i (tree.Do s e semi) → Completes limit (print_stmt m.look (suc d) s ++ (word_piece word.WHILE d ∷ mark_piece mark.OPEN_PAREN d ∷ (print m.look (suc d) e ++ (mark_piece mark.CLOSE_PAREN d ∷ semi_piece DoWhile semi d)))) (Follows (tree.Do s e semi)) (parser.do_of b i) (tree.Do s e semi)
  unfolding parser.do_of
  do_complete s e semi h = c_bind limit (λ y. bind (parser.expect_word word.WHILE) (λ _. bind (parser.parens_of b.exprs) (λ x. bind (parser.semi_of DoWhile) (λ z. ret (tree.Do y x z))))) (stmt s h.1 h.0)
      (lead_at (λ t q. record { no_else = λ _. ap (is_word word.ELSE) q.kind; no_colon = colon_word word.WHILE t q.kind }))
      (c_bind limit (λ _. bind (parser.parens_of b.exprs) (λ x. bind (parser.semi_of DoWhile) (λ z. ret (tree.Do s x z)))) (c_word limit word.WHILE d low refl) lead_any
      (parens_then e (semi_piece DoWhile semi d) (λ x. bind (parser.semi_of DoWhile) (λ z. ret (tree.Do s x z))) (tree.Do s e semi) h.2 (c_made limit (tree.Do s e) (semi_complete limit m d low DoWhile semi))))

  pub block_complete : {F : Lexeme → Type 0} (ss : Stmts) → ProperStmts m i ss → Completes limit (print_stmts m.look d ss ++ mark_piece mark.CLOSE_BRACE d ∷ []) F (parser.block_stmt b i) (tree.Block ss)
  unfolding parser.block_stmt
  block_complete ss h = c_made limit tree.Block (braced_from_complete limit m d low b.stmt c.stmts i ss h)

  pub debugger_complete : {F : Lexeme → Type 0} (semi : Bool) → Completes limit (semi_piece Keyword semi d) F parser.debugger_of (tree.Debugger semi)
  unfolding parser.debugger_of
  debugger_complete semi = c_made limit tree.Debugger (semi_complete limit m d low Keyword semi)

  -- jumps

  -- after a jump's word a label may stand, or the semicolon
  NoLabel : Lexeme → Type 0
  NoLabel t = (is_name t.kind && not t.after_line) ≡ false

  label_here : (t : Lexeme) (ts : List Lexeme) → t.kind ≡ kind.Name → t.after_line ≡ false → parser.label_name (t ∷ ts) ≡ Read (Some (named t)) [] ts
  unfolding parser.label_name
  label_here t ts e l = at_kind (λ u. u.after_line ≡ false → parser.label_name (u ∷ ts) ≡ Read (Some (named u)) [] ts) kind.Name t e (λ h. ap (λ x. when (not x) (step (ret (Some (named t)))) (ret None) (of_kind kind.Name t ∷ ts)) h) l

  no_label_here : (rest : List Lexeme) → NoLabel (head_of rest) → bare (parser.label_name rest) ≡ Read None [] rest
  unfolding parser.label_name NoLabel
  no_label_here rest h = ap (λ x. bare (when x (step (ret (Some (named (head_of rest))))) (ret None) rest)) h

  label_complete : {F : Lexeme → Type 0} (o : Option Named) → ((t : Lexeme) → F t → NoLabel t) → Completes limit (print_label o d) F parser.label_name o
  label_complete None f = c_look limit (λ rest g. no_label_here rest (f (head_of rest) g))
  label_complete (Some n) f = c_at limit (λ t. ret (Some (named t))) low (λ t ts s. label_here t ts s.kind (s.line refl)) (λ t s. c_value (ap Some (named_is n t s.content s.starts.0)) (c_ret limit (Some (named t))))
    where
      named_is : (n : Named) (t : Lexeme) → t.text ≡ n.text → t.start ≡ n.at → named t ≡ n
      named_is n t e h = ap (λ x. record { text = x; at = t.start }) e ∙ ap (λ x. record { text = n.text; at = x }) h

  semi_no_label : (t : Lexeme) → t.kind ≡ kind.Mark mark.SEMICOLON → NoLabel t
  unfolding NoLabel
  semi_no_label t e = ap (λ k. is_name k && not t.after_line) e

  line_no_label : (n l : Bool) → l ≡ true → (n && not l) ≡ false
  line_no_label true true h = refl
  line_no_label false true h = refl
  line_no_label n false h = absurd (false_true h)

  gap_no_label : (t : Lexeme) → may_omit Keyword t ≡ true → NoLabel t
  unfolding NoLabel
  gap_no_label t h = omit_cases Keyword t h
      (λ k. ap (λ x. is_name x && not t.after_line) (mark_known mark.CLOSE_BRACE t.kind k))
      (λ k. ap (λ x. is_name x && not t.after_line) (end_known t.kind k))
      (λ k. absurd (false_true k))
      (λ l k. line_no_label (is_name t.kind) t.after_line l)

  jump_complete : {F : Lexeme → Type 0} (g : Option Named → Bool → Stmt) (o : Option Named) (semi : Bool) → Completes limit (print_label o d ++ semi_piece Keyword semi d) F (bind parser.label_name (λ l. bind (parser.semi_of Keyword) (λ z. ret (g l z)))) (g o semi)
  jump_complete g o semi = c_bind limit (λ l. bind (parser.semi_of Keyword) (λ z. ret (g l z))) (label_complete {F = NoLabel} o (λ t h. h)) (semi_leads limit m d low Keyword semi semi_no_label gap_no_label) (c_made limit (g o) (semi_complete limit m d low Keyword semi))

  pub continue_complete : {F : Lexeme → Type 0} (at : ℕ) (o : Option Named) (semi : Bool) → Completes limit (print_label o d ++ semi_piece Keyword semi d) F (parser.continue_of at) (tree.Continue at o semi)
  unfolding parser.continue_of
  continue_complete at o semi = jump_complete (λ l z. tree.Continue at l z) o semi

  pub break_complete : {F : Lexeme → Type 0} (at : ℕ) (o : Option Named) (semi : Bool) → Completes limit (print_label o d ++ semi_piece Keyword semi d) F (parser.break_of at) (tree.Break at o semi)
  unfolding parser.break_of
  break_complete at o semi = jump_complete (λ l z. tree.Break at l z) o semi

  -- what stands on the line of its word

  glue_stands : (ps : List Piece) (w : List Marked) (n : Lexeme) → Stands (glue ps) w n → Stands ps w n
  glue_stands [] w n h = h
  glue_stands (At s ∷ ps) [] n h = absurd h
  glue_stands (At s ∷ ps) (x ∷ w) n h = (record { kind = h.0.kind; content = h.0.content; starts = h.0.starts; ends = h.0.ends; line = λ _. h.0.line refl }, h.1, h.2)
  glue_stands (Gap e ∷ ps) w n h = h
  glue_stands (Pass ∷ ps) w n h = h

  glue_line : (f : Kind → Bool) (ps : List Piece) (x : Marked) (w : List Marked) (n : Lexeme) → Opens f ps → Stands (glue ps) (x ∷ w) n → x.lexeme.after_line ≡ false
  glue_line f [] x w n o h = absurd h
  glue_line f (At s ∷ ps) x w n o h = h.0.line refl
  glue_line f (Gap e ∷ ps) x w n o h = absurd o
  glue_line f (Pass ∷ ps) x w n o h = absurd o

  glue_some : (f : Kind → Bool) (ps : List Piece) (w : List Marked) (n : Lexeme) → Opens f ps → Stands (glue ps) w n → 0 < length (lexemes w)
  glue_some f ps w n o h = opens_some f ps w n o (glue_stands ps w n h)

  c_glue : {A : Type 0} {F : Lexeme → Type 0} (ps : List Piece) (f : Parser A) (a : A) → Completes limit ps F f a → Completes limit (glue ps) F f a
  c_glue ps f a k = record { at = λ w rest h g. k.at w rest (glue_stands ps w (head_of rest) h) g }

  thrown_here : (t : Lexeme) (ts : List Lexeme) → t.after_line ≡ false → parser.thrown_of b.exprs (t ∷ ts) ≡ expr_of b.exprs true (t ∷ ts)
  unfolding parser.thrown_of
  thrown_here t ts l = ap (λ x. when x bad (expr_of b.exprs true) (t ∷ ts)) l

  pub throw_complete : {F : Lexeme → Type 0} (e : Expr) (semi : Bool) → Proper m e → Completes limit (glue (print m.look (suc d) e) ++ semi_piece (ending e) semi d) F (parser.throw_of b.exprs) (tree.Throw e semi)
  unfolding parser.throw_of
  throw_complete e semi h = c_bind limit (λ x. bind (parser.semi_of (ending x)) (λ z. ret (tree.Throw x z)))
      (c_front limit (expr_of b.exprs true) (λ x w rest k g. thrown_here x.lexeme (lexemes w ++ rest) (glue_line begins_assign (print m.look (suc d) e) x w (head_of rest) (expr_opens m (suc d) e h) k)) (λ w n k. glue_some begins_assign (print m.look (suc d) e) w n (expr_opens m (suc d) e h) k) (c_glue (print m.look (suc d) e) (expr_of b.exprs true) e (c.uses.expr true e h refl)))
      (expr_semi limit m d low e semi)
      (c_made limit (tree.Throw e) (semi_complete limit m d low (ending e) semi))

  returned_none : (rest : List Lexeme) → parser.ends_return (head_of rest) ≡ true → bare (parser.returned_of b.exprs rest) ≡ Read None [] rest
  unfolding parser.returned_of
  returned_none rest h = ap (λ x. bare (when x (ret None) (bind (expr_of b.exprs true) (λ e. ret (Some e))) rest)) h

  returned_here : (t : Lexeme) (ts : List Lexeme) → parser.ends_return t ≡ false → parser.returned_of b.exprs (t ∷ ts) ≡ bind (expr_of b.exprs true) (λ e. ret (Some e)) (t ∷ ts)
  unfolding parser.returned_of
  returned_here t ts h = ap (λ x. when x (ret None) (bind (expr_of b.exprs true) (λ e. ret (Some e))) (t ∷ ts)) h

  goes_value : (k : Kind) → begins_assign k ≡ true → (is_mark mark.SEMICOLON k || is_mark mark.CLOSE_BRACE k || is_end k) ≡ false
  goes_value kind.Name h = refl
  goes_value kind.Number h = refl
  goes_value kind.Str h = refl
  goes_value kind.TemplateWhole h = refl
  goes_value kind.TemplateHead h = refl
  goes_value (kind.Word j) h = refl
  goes_value (kind.Mark j) h = mark_elim (λ x. (is_mark mark.SEMICOLON (kind.Mark x) || is_mark mark.CLOSE_BRACE (kind.Mark x) || is_end (kind.Mark x)) ≡ false) refl refl refl refl refl refl refl refl refl j h
  goes_value kind.TemplateMiddle h = refl
  goes_value kind.TemplateTail h = refl
  goes_value kind.Bad h = refl
  goes_value kind.End h = absurd (false_true h)

  none_of : (l x y z : Bool) → l ≡ false → (x || y || z) ≡ false → (l || x || y || z) ≡ false
  none_of true x y z h k = absurd (true_false h)
  none_of false x y z h k = k

  gap_returns : (t : Lexeme) → may_omit Keyword t ≡ true → parser.ends_return t ≡ true
  gap_returns t h = omit_cases Keyword t h
      (λ k. or_left (t.after_line || is_mark mark.SEMICOLON t.kind || is_mark mark.CLOSE_BRACE t.kind) (is_end t.kind) (or_right (t.after_line || is_mark mark.SEMICOLON t.kind) (is_mark mark.CLOSE_BRACE t.kind) k))
      (λ k. or_right (t.after_line || is_mark mark.SEMICOLON t.kind || is_mark mark.CLOSE_BRACE t.kind) (is_end t.kind) k)
      (λ k. absurd (false_true k))
      (λ l k. or_left (t.after_line || is_mark mark.SEMICOLON t.kind || is_mark mark.CLOSE_BRACE t.kind) (is_end t.kind) (or_left (t.after_line || is_mark mark.SEMICOLON t.kind) (is_mark mark.CLOSE_BRACE t.kind) (or_left t.after_line (is_mark mark.SEMICOLON t.kind) l)))

  semi_returns : (t : Lexeme) → t.kind ≡ kind.Mark mark.SEMICOLON → parser.ends_return t ≡ true
  semi_returns t e = or_left (t.after_line || is_mark mark.SEMICOLON t.kind || is_mark mark.CLOSE_BRACE t.kind) (is_end t.kind) (or_left (t.after_line || is_mark mark.SEMICOLON t.kind) (is_mark mark.CLOSE_BRACE t.kind) (or_right t.after_line (is_mark mark.SEMICOLON t.kind) (ap (is_mark mark.SEMICOLON) e)))

  pub return_complete : {F : Lexeme → Type 0} (o : MaybeExpr) (semi : Bool) → ProperOption m o → Completes limit (glue (print_maybe m.look (suc d) o) ++ semi_piece (return_ending o) semi d) F (parser.return_of b.exprs) (tree.Return o semi)
  unfolding parser.return_of
  return_complete no_expr semi h = c_bind limit (λ x. bind (parser.semi_of (return_ending (maybe_expr_of x))) (λ z. ret (tree.Return (maybe_expr_of x) z)))
      (c_look limit {F = λ t. parser.ends_return t ≡ true} returned_none)
      (semi_leads limit m d low Keyword semi semi_returns gap_returns)
      (c_made limit (tree.Return no_expr) (semi_complete limit m d low Keyword semi))
  return_complete (some_expr e) semi h = c_bind limit (λ x. bind (parser.semi_of (return_ending (maybe_expr_of x))) (λ z. ret (tree.Return (maybe_expr_of x) z)))
      (c_front limit (bind (expr_of b.exprs true) (λ x. ret (Some x)))
      (λ x w rest k g. returned_here x.lexeme (lexemes w ++ rest) (none_of x.lexeme.after_line (is_mark mark.SEMICOLON x.lexeme.kind) (is_mark mark.CLOSE_BRACE x.lexeme.kind) (is_end x.lexeme.kind) (glue_line begins_assign (print m.look (suc d) e) x w (head_of rest) (expr_opens m (suc d) e h) k) (goes_value x.lexeme.kind (opens_first begins_assign (print m.look (suc d) e) x w (head_of rest) (expr_opens m (suc d) e h) (glue_stands (print m.look (suc d) e) (x ∷ w) (head_of rest) k)))))
      (λ w n k. glue_some begins_assign (print m.look (suc d) e) w n (expr_opens m (suc d) e h) k)
      (c_glue (print m.look (suc d) e) (bind (expr_of b.exprs true) (λ x. ret (Some x))) (Some e) (c_made limit Some (c.uses.expr true e h refl))))
      (expr_semi limit m d low e semi)
      (c_made limit (tree.Return (some_expr e)) (semi_complete limit m d low (ending e) semi))
