-- Completeness of every statement: at its lexemes it is read, or the first of them that is too deep is found.
use Rattle.std.proofs.Common.{◌≡◌, ℕ, suc, ◌≤◌, ◌<◌, List, [], ◌∷◌, ◌++◌, length, refl, sym, ap, ◌∙◌, subst, arith, Bool, true, false, Some, None}
use Rattle.script_grammar.specs.declared.token.Kind.{Kind}
use Rattle.script_grammar.specs.declared.token.mark.TheConstants as mark
use Rattle.script_grammar.specs.declared.token.word.TheConstants as word
use Rattle.script_grammar.specs.declared.token.FuncForm.TheVariants as form
use Rattle.script_grammar.specs.declared.token.Decl.{Decl}
use Rattle.script_grammar.specs.declared.token.Decl.TheVariants as decl
use Rattle.script_grammar.specs.Lexeme.{Lexeme}
use Rattle.script_grammar.specs.Kinds.{is_mark, is_word, is_name, is_var}
use Rattle.script_grammar.specs.Tree.{Named, Expr, Stmt, Stmts, no_stmts, more_stmts, MaybeStmt, no_stmt, some_stmt, MaybeExpr, no_expr, some_expr, Binds, no_binds, more_binds, Function, function}
use Rattle.script_grammar.specs.Tree as tree
use Rattle.script_grammar.specs.Pieces.{whole, Wanted, Exactly, AnyWord, IsWanted, is_wanted, begins_with, Piece, At, Gap, Pass, mark_piece, name_piece, semi_piece}
use Rattle.script_grammar.specs.Endings.{ending}
use Rattle.script_grammar.specs.Print.{print, print_stmt}
use Rattle.script_grammar.specs.Proper.{HasBinds, IsDeclaration, is_statement}
use Rattle.grammar_parser_specs.specs.Parser.{head_of, ret, bind}
use Rattle.grammar_parser_specs.specs.Exprs.{expect, function_of, begins_assign}
use Rattle.grammar_parser_specs.specs.Stmts as parser
use Rattle.grammar_parser_specs.specs.Stmts.{Place, AnItem, AStmt, StmtCalls, Block, is_item, is_inside, bound, ends_items}
use Rattle.grammar_parser_laws.proofs.Friendly.{first_of}
use Rattle.grammar_parser_laws.proofs.Tests.{false_true}
use Rattle.grammar_parser_laws.proofs.Stands.{Marked, lexemes, Stands, Split, stands_split, first_marked}
use Rattle.grammar_parser_laws.proofs.Fitting.{head_first}
use Rattle.grammar_parser_laws.proofs.Complete.{bare}
use Rattle.grammar_complete_laws.proofs.Completes.{Completes, Leads, lead_at, lead_any, c_ret, c_bind, c_made, c_at, c_front, c_weaken, c_mark}
use Rattle.grammar_complete_laws.proofs.ExprFronts.{Opens, OfKind, Second, opens_append, opens_first, opens_some, expr_opens, expr_second, second_first}
use Rattle.grammar_complete_laws.proofs.StmtFronts.{block_at, empty_at, debugger_at, var_at, let_at, const_at, function_at, if_at, while_at, do_at, for_at, switch_at, try_at, continue_at, break_at, return_at, throw_at, label_at, value_at}
use Rattle.grammar_parser_laws.proofs.Begins.{begins_same}
use Rattle.grammar_parser_specs.specs.Stmts.{All, env_of, block_of, all_case}
use Rattle.grammar_complete_laws.proofs.CompleteStmts.{Follows, CompleteBlock, c_value, follows_as, semi_complete, expr_semi, name_complete}
use Rattle.grammar_complete_laws.proofs.CompleteSimple.{while_complete, if_complete, do_complete, block_complete, debugger_complete, continue_complete, break_complete, throw_complete, return_complete}
use Rattle.grammar_complete_laws.proofs.CompleteBinds.{binding_complete, for_complete, for_in_complete}
use Rattle.grammar_complete_laws.proofs.CompleteSwitch.{switch_complete, try_complete}
use Rattle.grammar_parser_laws.proofs.ProperIn.{Mode, Proper, ProperBinds, ProperFunction, ProperStmt}

module _ (limit : ℕ) (m : Mode) (d : ℕ) (low : d ≤ limit) (b : Block) (c : CompleteBlock limit m d b) (p : Place) where
  abbrev Reads : Stmt → Type 0
  Reads s = Completes limit (print_stmt m.look d s) (Follows s) (parser.stmt_of b p) s

  binding_reads : (k : Decl) (bs : Binds) (semi : Bool) → HasBinds bs × ProperBinds m bs → (is_item p ≡ false → is_var k ≡ true) → Reads (tree.Binding k bs semi)
  binding_reads decl.Var bs semi h i = c_at limit (λ t. parser.binding_of b.exprs decl.Var) low (λ t ts q. var_at b p t ts q.kind) (λ t q. binding_complete limit m d low b.exprs c.uses decl.Var bs semi h.0 h.1)
  binding_reads decl.Let bs semi h i = c_at limit (λ t. parser.binding_of b.exprs decl.Let) low (λ t ts q. let_at b p (item (is_item p) i) t ts q.kind) (λ t q. binding_complete limit m d low b.exprs c.uses decl.Let bs semi h.0 h.1)
    where
      item : (x : Bool) → (x ≡ false → false ≡ true) → x ≡ true
      item true k = refl
      item false k = absurd (false_true (k refl))
  binding_reads decl.Const bs semi h i = c_at limit (λ t. parser.binding_of b.exprs decl.Const) low (λ t ts q. const_at b p (item (is_item p) i) t ts q.kind) (λ t q. binding_complete limit m d low b.exprs c.uses decl.Const bs semi h.0 h.1)
    where
      item : (x : Bool) → (x ≡ false → false ≡ true) → x ≡ true
      item true k = refl
      item false k = absurd (false_true (k refl))

  item_of : (x : Bool) → (x ≡ false → false ≡ true) → x ≡ true
  item_of true k = refl
  item_of false k = absurd (false_true (k refl))

  declared_reads : (f : Function) → IsDeclaration f × ProperFunction m f → (is_item p ≡ false → false ≡ true) → Reads (tree.Declared f)
  unfolding parser.declared_of
  declared_reads (function form.Function start end (Some n) ps comma bare body) h i = c_at limit (λ t. parser.declared_of b.exprs) low (λ t ts q. function_at b p (item_of (is_item p) i) t ts q.kind)
      (λ t q. c_bind limit (λ x. bind (function_of b.exprs form.Function (Some x)) (λ f. ret (tree.Declared f))) (name_complete limit m d low n) lead_any
      (c_weaken limit (λ t g. tt) (c_made limit tree.Declared (c.uses.function n (function form.Function start end (Some n) ps comma bare body) (refl, refl) h.1))))
  declared_reads (function form.Function start end None ps comma bare body) h i = absurd h.0
  declared_reads (function form.Script start end name ps comma bare body) h i = absurd h.0
  declared_reads (function form.Arrow start end name ps comma bare body) h i = absurd h.0
  declared_reads (function form.Method start end name ps comma bare body) h i = absurd h.0
  declared_reads (function form.Getter start end name ps comma bare body) h i = absurd h.0
  declared_reads (function form.Setter start end name ps comma bare body) h i = absurd h.0

  -- an expression statement

  semi_colon : (e : Expr) (semi : Bool) → Leads (semi_piece (ending e) semi d) (Follows (tree.Value e semi)) (λ t. is_mark mark.COLON t.kind ≡ false)
  semi_colon e true = lead_at (λ t s. ap (is_mark mark.COLON) s.kind)
  semi_colon e false = record { by = λ v n h g. none v n h g.no_colon }
    where
      none : (v : List Marked) (n : Lexeme) → Stands (Gap (ending e) ∷ []) v n → is_mark mark.COLON n.kind ≡ false → is_mark mark.COLON (first_of (lexemes v) n).kind ≡ false
      none [] n h g = g
      none (x ∷ v) n h g = absurd h.1

  value_complete : (e : Expr) (semi : Bool) → Proper m e → Completes limit (print m.look (suc d) e ++ semi_piece (ending e) semi d) (Follows (tree.Value e semi)) (parser.value_stmt b.exprs) (tree.Value e semi)
  unfolding parser.value_stmt
  value_complete e semi h = c_bind limit (λ x. bind (parser.semi_of (ending x)) (λ z. ret (tree.Value x z))) (c.uses.expr true e h refl) (expr_semi limit m d low e semi) (c_made limit (tree.Value e) (semi_complete limit m d low (ending e) semi))

  -- the places of an expression statement are those of the expression first
  value_first : (e : Expr) (semi : Bool) → Proper m e → (x : Marked) (w : List Marked) (rest : List Lexeme) → Stands (print m.look (suc d) e ++ semi_piece (ending e) semi d) (x ∷ w) (head_of rest) → Follows (tree.Value e semi) (head_of rest) → is_name x.lexeme.kind ≡ true → is_mark mark.COLON (head_of (lexemes w ++ rest)).kind ≡ false
  value_first e semi h x w rest q g n = subst (λ y. is_mark mark.COLON y.kind ≡ false) (sym (head_first (lexemes w) rest)) (by (print m.look (suc d) e) (expr_opens m (suc d) e h) (expr_second m (suc d) e h) (stands_split (print m.look (suc d) e) (semi_piece (ending e) semi d) (x ∷ w) (head_of rest) q))
    where
      by : (ps : List Piece) → Opens begins_assign ps → Second ps → Split ps (semi_piece (ending e) semi d) (x ∷ w) (head_of rest) → is_mark mark.COLON (first_of (lexemes w) (head_of rest)).kind ≡ false
      by ps o k s = of_front s.front s.back s.split s.first s.second
        where
          of_front : (u v : List Marked) → x ∷ w ≡ u ++ v → Stands ps u (first_of (lexemes v) (head_of rest)) → Stands (semi_piece (ending e) semi d) v (head_of rest) → is_mark mark.COLON (first_of (lexemes w) (head_of rest)).kind ≡ false
          of_front [] v z a y = absurd (omega (arith, opens_some begins_assign ps [] (first_of (lexemes v) (head_of rest)) o a))
          of_front (r ∷ u) v z a y =
              let tail : w ≡ u ++ v = cc in
              let same : r ≡ x = cc in
              subst (λ j. is_mark mark.COLON j.kind ≡ false) (sym (ap (λ j. first_of (lexemes j) (head_of rest)) tail ∙ first_marked u v (head_of rest)))
              (second_first ps r u (first_of (lexemes v) (head_of rest)) o k a (ap (λ j. is_name j.lexeme.kind) same ∙ n) ((semi_colon e semi).by v (head_of rest) y g))

  not_begun : (f : Kind → Bool) (e : Expr) → begins_with f (print m.look (suc d) e) ≡ false → (qs : List Piece) (x : Marked) (w : List Marked) (n : Lexeme) → Opens begins_assign (print m.look (suc d) e) → Stands (print m.look (suc d) e ++ qs) (x ∷ w) n → f x.lexeme.kind ≡ false
  not_begun f e h qs x w n o q = by (print m.look (suc d) e) h o q
    where
      of_wanted : (w : Wanted) (k : Kind) → is_wanted f w ≡ false → OfKind begins_assign w → IsWanted w k → f k ≡ false
      of_wanted (Exactly j) k h o e = ap f e ∙ h
      of_wanted AnyWord k h o e = absurd o

      by : (ps : List Piece) → begins_with f ps ≡ false → Opens begins_assign ps → Stands (ps ++ qs) (x ∷ w) n → f x.lexeme.kind ≡ false
      by [] h o q = absurd o
      by (At s ∷ ps) h o q = of_wanted s.kind x.lexeme.kind h o q.0.kind
      by (Gap g ∷ ps) h o q = absurd o
      by (Pass ∷ ps) h o q = absurd o

  value_reads : (e : Expr) (semi : Bool) → ProperStmt m (is_inside p) (tree.Value e semi) → Reads (tree.Value e semi)
  value_reads e semi h = c_front limit (parser.value_stmt b.exprs)
      (λ x w rest q g. value_at b p x.lexeme (lexemes w ++ rest)
      (opens_first begins_assign (print m.look (suc d) e ++ semi_piece (ending e) semi d) x w (head_of rest) (opens_append begins_assign (print m.look (suc d) e) (semi_piece (ending e) semi d) (expr_opens m (suc d) e h.2)) q)
      (not_begun (is_word word.FUNCTION) e (begins_same (is_word word.FUNCTION) m.look whole (suc d) 1 e ∙ h.1) (semi_piece (ending e) semi d) x w (head_of rest) (expr_opens m (suc d) e h.2) q)
      (not_begun (is_mark mark.OPEN_BRACE) e (begins_same (is_mark mark.OPEN_BRACE) m.look whole (suc d) 1 e ∙ h.0) (semi_piece (ending e) semi d) x w (head_of rest) (expr_opens m (suc d) e h.2) q)
      (value_first e semi h.2 x w rest q g))
      (λ w n q. opens_some begins_assign (print m.look (suc d) e ++ semi_piece (ending e) semi d) w n (opens_append begins_assign (print m.look (suc d) e) (semi_piece (ending e) semi d) (expr_opens m (suc d) e h.2)) q)
      (value_complete e semi h.2)

  -- labels

  label_complete : (n : Named) (s : Stmt) → ProperStmt m (is_inside p) (tree.Label n s) → Completes limit (name_piece n (suc d) ∷ mark_piece mark.COLON d ∷ print_stmt m.look (suc d) s) (Follows (tree.Label n s)) (parser.labelled_of b (is_inside p)) (tree.Label n s)
  unfolding parser.labelled_of
  label_complete n s h = c_bind limit (λ x. bind (expect mark.COLON) (λ _. bind (b.stmt (AStmt (is_inside p))) (λ y. ret (tree.Label x y)))) (c.label n) lead_any
      (c_bind limit (λ _. bind (b.stmt (AStmt (is_inside p))) (λ y. ret (tree.Label n y))) (c_mark limit mark.COLON d low refl) lead_any
      (c_made limit (tree.Label n) (c_weaken limit (λ t g. follows_as refl t g) (c.stmts.at (AStmt (is_inside p)) s h.1 (λ _. h.0)))))

  label_second : (n : Named) (ps : List Piece) (x : Marked) (w : List Marked) (rest : List Lexeme) → Stands (name_piece n (suc d) ∷ mark_piece mark.COLON d ∷ ps) (x ∷ w) (head_of rest) → is_mark mark.COLON (head_of (lexemes w ++ rest)).kind ≡ true
  label_second n ps x [] rest h = absurd h.2
  label_second n ps x (y ∷ w) rest h = ap (is_mark mark.COLON) h.2.0.kind

  label_some : (n : Named) (ps : List Piece) (w : List Marked) (q : Lexeme) → Stands (name_piece n (suc d) ∷ ps) w q → 0 < length (lexemes w)
  label_some n ps [] q h = absurd h
  label_some n ps (x ∷ w) q h = omega arith

  pub stmt_complete : (s : Stmt) → ProperStmt m (is_inside p) s → (is_item p ≡ false → is_statement s ≡ true) → Reads s
  stmt_complete (tree.Block items) h i = c_at limit (λ t. parser.block_stmt b (is_inside p)) low (λ t ts q. block_at b p t ts q.kind) (λ t q. block_complete limit m d low b c (is_inside p) items h)
  stmt_complete tree.Empty h i = c_at limit (λ t. ret tree.Empty) low (λ t ts q. empty_at b p t ts q.kind) (λ t q. c_ret limit tree.Empty)
  stmt_complete (tree.Debugger semi) h i = c_at limit (λ t. parser.debugger_of) low (λ t ts q. debugger_at b p t ts q.kind) (λ t q. debugger_complete limit m d low b c (is_inside p) semi)
  stmt_complete (tree.Binding k bs semi) h i = binding_reads k bs semi h i
  stmt_complete (tree.Value e semi) h i = value_reads e semi h
  stmt_complete (tree.If test then_stmt else_stmt) h i = c_at limit (λ t. parser.if_of b (is_inside p)) low (λ t ts q. if_at b p t ts q.kind) (λ t q. if_complete limit m d low b c (is_inside p) test then_stmt else_stmt h)
  stmt_complete (tree.Do body test semi) h i = c_at limit (λ t. parser.do_of b (is_inside p)) low (λ t ts q. do_at b p t ts q.kind) (λ t q. do_complete limit m d low b c (is_inside p) body test semi h)
  stmt_complete (tree.While test body) h i = c_at limit (λ t. parser.while_of b (is_inside p)) low (λ t ts q. while_at b p t ts q.kind) (λ t q. while_complete limit m d low b c (is_inside p) test body h)
  stmt_complete (tree.For init test update body) h i = c_at limit (λ t. parser.for_of b (is_inside p)) low (λ t ts q. for_at b p t ts q.kind) (λ t q. for_complete limit m d low b c (is_inside p) init test update body h)
  stmt_complete (tree.ForIn each over body) h i = c_at limit (λ t. parser.for_of b (is_inside p)) low (λ t ts q. for_at b p t ts q.kind) (λ t q. for_in_complete limit m d low b c (is_inside p) each over body h)
  stmt_complete (tree.Continue at label semi) h i = c_at limit (λ t. parser.continue_of t.start) low (λ t ts q. continue_at b p t ts q.kind) (λ t q. c_value (ap (λ x. tree.Continue x label semi) q.starts.0) (continue_complete limit m d low b c (is_inside p) t.start label semi))
  stmt_complete (tree.Break at label semi) h i = c_at limit (λ t. parser.break_of t.start) low (λ t ts q. break_at b p t ts q.kind) (λ t q. c_value (ap (λ x. tree.Break x label semi) q.starts.0) (break_complete limit m d low b c (is_inside p) t.start label semi))
  stmt_complete (tree.Return value semi) h i = c_at limit (λ t. parser.return_of b.exprs) low (λ t ts q. return_at b p h.0 t ts q.kind) (λ t q. return_complete limit m d low b c (is_inside p) value semi h.1)
  stmt_complete (tree.Throw value semi) h i = c_at limit (λ t. parser.throw_of b.exprs) low (λ t ts q. throw_at b p t ts q.kind) (λ t q. throw_complete limit m d low b c (is_inside p) value semi h)
  stmt_complete (tree.Switch of clauses) h i = c_at limit (λ t. parser.switch_of b (is_inside p)) low (λ t ts q. switch_at b p t ts q.kind) (λ t q. switch_complete limit m d low b c (is_inside p) of clauses h)
  stmt_complete (tree.Label name body) h i = c_front limit (parser.labelled_of b (is_inside p)) (λ x w rest q g. label_at b p x.lexeme (lexemes w ++ rest) q.0.kind (label_second name (print_stmt m.look (suc d) body) x w rest q)) (label_some name (mark_piece mark.COLON d ∷ print_stmt m.look (suc d) body)) (label_complete name body h)
  stmt_complete (tree.Try body param handler) h i = c_at limit (λ t. parser.try_of b (is_inside p)) low (λ t ts q. try_at b p t ts q.kind) (λ t q. try_complete limit m d low b c (is_inside p) body param handler h)
  stmt_complete (tree.Declared f) h i = declared_reads f h i
