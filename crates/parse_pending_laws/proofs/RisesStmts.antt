-- What parsers of statements record stands one after another, over calls of which that holds.
use Rattle.std.proofs.Common.{ℕ, List, [], ◌∷◌, ◌++◌, Bool, true, false, ◌&&◌, ◌||◌, not, nat_le, Option, Some, None}
use Rattle.script_grammar.specs.declared.token.mark.TheConstants as mark
use Rattle.script_grammar.specs.declared.token.word.TheConstants as word
use Rattle.script_grammar.specs.declared.token.FuncForm.{FuncForm}
use Rattle.script_grammar.specs.declared.token.FuncForm.TheVariants as form
use Rattle.script_grammar.specs.declared.token.Decl.{Decl}
use Rattle.script_grammar.specs.declared.token.Decl.TheVariants as decl
use Rattle.script_grammar.specs.Kinds.{is_mark, is_word, is_name, is_end}
use Rattle.script_grammar.specs.Pieces.{Ending, BareBinding, Keyword, DoWhile, may_omit}
use Rattle.script_grammar.specs.Endings.{ending, return_ending, binds_ending}
use Rattle.script_grammar.specs.Proper.{rank, left_rank, takes_else}
use Rattle.script_grammar.specs.Tree.{Named, Expr, Init, Each, Stmt, Stmts}
use Rattle.script_grammar.specs.Tree as tree
use Rattle.script_grammar.specs.TreeLists.{Bind, Clause, maybe_expr_of, maybe_stmt_of, binds_of, stmts_of, clauses_of}
use Rattle.grammar_parser_specs.specs.Parser.{ret, bind, Turn, Again, Stop}
use Rattle.grammar_parser_specs.specs.Exprs.{Env, AnAssign, expect, named, again}
use Rattle.grammar_parser_specs.specs.Stmts as parser
use Rattle.grammar_parser_specs.specs.Stmts.{Place, AnItem, AStmt, StmtCalls, Block, is_item, is_inside}
use Rattle.parse_pending_laws.proofs.Rises.{Rises, rises_ret, rises_bad, rises_bind, rises_peek, rises_two, rises_when, rises_step, rises_loop, rises_led}
use Rattle.parse_pending_laws.proofs.RisesExprs.{RisesEnv, expect_rises, name_of_rises, expr_rises, function_rises}

pub rises_expect_word : (i : ℕ) → Rises (parser.expect_word i)
unfolding parser.expect_word
rises_expect_word i = rises_peek (λ t. rises_when (is_word i t.kind) (rises_step (rises_ret tt)) rises_bad)

pub rises_semi : (e : Ending) → Rises (parser.semi_of e)
unfolding parser.semi_of
rises_semi e = rises_peek (λ t. rises_when (is_mark mark.SEMICOLON t.kind) (rises_step (rises_ret true)) (rises_when (may_omit e t) (rises_ret false) rises_bad))

pub rises_end : {A : Type 0} (a : A) → Rises (parser.end_of a)
unfolding parser.end_of
rises_end a = rises_peek (λ t. rises_when (is_end t.kind) (rises_ret a) rises_bad)

pub record RisesBlock (b : Block) : Type 0 where
  pub exprs : RisesEnv b.exprs
  pub stmt : (p : Place) → Rises (b.stmt p)
  pub label : Rises b.label

module _ (stmt : StmtCalls) (s : (p : Place) → Rises (stmt p)) where
  stmt_turn_rises : (i : Bool) → Rises (parser.stmt_turn stmt i)
  unfolding parser.stmt_turn
  stmt_turn_rises i = rises_peek (λ t. rises_when (parser.ends_items t.kind) (rises_ret (Stop tt)) (rises_bind (s (AnItem i)) (λ x. rises_ret (Again x))))

  pub rises_stmts : (i : Bool) → Rises (parser.stmts_from stmt i)
  unfolding parser.stmts_from
  rises_stmts i = rises_bind (rises_loop (stmt_turn_rises i)) (λ m. rises_ret m.items)

  pub rises_braced_from : (i : Bool) → Rises (parser.braced_from stmt i)
  unfolding parser.braced_from
  rises_braced_from i = rises_bind (rises_stmts i) (λ ss. rises_bind (expect_rises mark.CLOSE_BRACE) (λ _. rises_ret (stmts_of ss)))

  pub rises_braced : (i : Bool) → Rises (parser.braced_of stmt i)
  unfolding parser.braced_of
  rises_braced i = rises_bind (expect_rises mark.OPEN_BRACE) (λ _. rises_braced_from i)

  pub rises_close_body : (ss : List Stmt) → Rises (parser.close_body ss)
  unfolding parser.close_body
  rises_close_body ss = rises_peek (λ t. rises_when (is_mark mark.CLOSE_BRACE t.kind) (rises_step (rises_ret (record { body = tree.BracedBody (stmts_of ss); end = t.end }))) rises_bad)

  pub rises_reading : (f : FuncForm) (start : ℕ) (simple : Bool) → Rises (parser.reading stmt f start simple)
  unfolding parser.reading
  rises_reading f start simple = rises_bind (expect_rises mark.OPEN_BRACE) (λ _. rises_bind (rises_stmts true) rises_close_body)

  pub rises_script : Rises (parser.script_of stmt)
  unfolding parser.script_of
  rises_script = rises_bind (rises_stmts false) (λ ss. rises_end (stmts_of ss))

module _ (v : Env) (u : RisesEnv v) where
  pub rises_parens : Rises (parser.parens_of v)
  unfolding parser.parens_of
  rises_parens = rises_bind (expect_rises mark.OPEN_PAREN) (λ _. rises_bind (expr_rises v u true) (λ e. rises_bind (expect_rises mark.CLOSE_PAREN) (λ _. rises_ret e)))

  rises_value_of : (w : Bool) → Rises (parser.value_of v w)
  unfolding parser.value_of
  rises_value_of w = rises_peek (λ t. rises_when (is_mark mark.ASSIGN t.kind) (rises_step (rises_bind (u.at (AnAssign w)) (λ e. rises_ret (Some e)))) (rises_ret None))

  rises_bind_from : (w : Bool) (n : Named) → Rises (parser.bind_from v w n)
  unfolding parser.bind_from
  rises_bind_from w n = rises_bind (rises_value_of w) (λ o. rises_ret (parser.bound n o))

  rises_bind_of : (w : Bool) → Rises (parser.bind_of v w)
  unfolding parser.bind_of
  rises_bind_of w = rises_bind name_of_rises (rises_bind_from w)

  behind_comma : (w : Bool) → Rises (bind (parser.bind_of v w) (again {A = Bind} {B = Unit {0}}))
  behind_comma w = rises_bind (rises_bind_of w) (λ x. rises_ret (Again x))

  bind_turn_rises : (w : Bool) → Rises (parser.bind_turn v w)
  unfolding parser.bind_turn
  bind_turn_rises w = rises_peek (λ t. rises_when (is_mark mark.COMMA t.kind) (rises_step (behind_comma w)) (rises_ret (Stop tt)))

  pub rises_binds : (w : Bool) (n : Named) → Rises (parser.binds_from v w n)
  unfolding parser.binds_from
  rises_binds w n = rises_bind (rises_bind_from w n) (rises_led (bind_turn_rises w))

  pub rises_binding : (d : Decl) → Rises (parser.binding_of v d)
  unfolding parser.binding_of
  rises_binding d = rises_bind name_of_rises (λ n. rises_bind (rises_binds true n) (λ m. rises_bind (rises_semi (binds_ending BareBinding (binds_of m.items))) (λ b. rises_ret (tree.Binding d (binds_of m.items) b))))

  pub rises_declared : Rises (parser.declared_of v)
  unfolding parser.declared_of
  rises_declared = rises_bind name_of_rises (λ n. rises_bind (function_rises v u form.Function (Some n)) (λ f. rises_ret (tree.Declared f)))

  pub rises_debugger : Rises parser.debugger_of
  unfolding parser.debugger_of
  rises_debugger = rises_bind (rises_semi Keyword) (λ b. rises_ret (tree.Debugger b))

  value_rest : (e : Expr) → Rises (bind (parser.semi_of (ending e)) (λ b. ret (tree.Value e b)))
  value_rest e = rises_bind (rises_semi (ending e)) (λ b. rises_ret (tree.Value e b))

  pub rises_value : Rises (parser.value_stmt v)
  unfolding parser.value_stmt
  rises_value = rises_bind (expr_rises v u true) value_rest

  rises_option : (i : ℕ) → Rises (parser.option_of v i)
  unfolding parser.option_of
  rises_option i = rises_peek (λ t. rises_when (is_mark i t.kind) (rises_ret None) (rises_bind (expr_rises v u true) (λ e. rises_ret (Some e))))

  rises_label : Rises parser.label_name
  unfolding parser.label_name
  rises_label = rises_peek (λ t. rises_when (is_name t.kind && not t.after_line) (rises_step (rises_ret (Some (named t)))) (rises_ret None))

  pub rises_continue : (at : ℕ) → Rises (parser.continue_of at)
  unfolding parser.continue_of
  rises_continue at = rises_bind rises_label (λ l. rises_bind (rises_semi Keyword) (λ b. rises_ret (tree.Continue at l b)))

  pub rises_break : (at : ℕ) → Rises (parser.break_of at)
  unfolding parser.break_of
  rises_break at = rises_bind rises_label (λ l. rises_bind (rises_semi Keyword) (λ b. rises_ret (tree.Break at l b)))

  rises_returned : Rises (parser.returned_of v)
  unfolding parser.returned_of
  rises_returned = rises_peek (λ t. rises_when (parser.ends_return t) (rises_ret None) (rises_bind (expr_rises v u true) (λ e. rises_ret (Some e))))

  pub rises_return : Rises (parser.return_of v)
  unfolding parser.return_of
  rises_return = rises_bind rises_returned (λ o. rises_bind (rises_semi (return_ending (maybe_expr_of o))) (λ b. rises_ret (tree.Return (maybe_expr_of o) b)))

  rises_thrown : Rises (parser.thrown_of v)
  unfolding parser.thrown_of
  rises_thrown = rises_peek (λ t. rises_when t.after_line rises_bad (expr_rises v u true))

  pub rises_throw : Rises (parser.throw_of v)
  unfolding parser.throw_of
  rises_throw = rises_bind rises_thrown (λ e. rises_bind (rises_semi (ending e)) (λ b. rises_ret (tree.Throw e b)))

module _ (b : Block) (l : RisesBlock b) (i : Bool) where
  stmt : Rises (b.stmt (AStmt i))
  stmt = l.stmt (AStmt i)

  rises_else : Rises (parser.else_of b i)
  unfolding parser.else_of
  rises_else = rises_peek (λ t. rises_when (is_word word.ELSE t.kind) (rises_step (rises_bind stmt (λ s. rises_ret (Some s)))) (rises_ret None))

  pub rises_if : Rises (parser.if_of b i)
  unfolding parser.if_of
  rises_if = rises_bind (rises_parens b.exprs l.exprs) (λ e. rises_bind stmt (λ s. rises_bind (rises_when (takes_else s) (rises_ret None) rises_else) (λ o. rises_ret (tree.If e s (maybe_stmt_of o)))))

  pub rises_while : Rises (parser.while_of b i)
  unfolding parser.while_of
  rises_while = rises_bind (rises_parens b.exprs l.exprs) (λ e. rises_bind stmt (λ s. rises_ret (tree.While e s)))

  pub rises_do : Rises (parser.do_of b i)
  unfolding parser.do_of
  rises_do = rises_bind stmt (λ s. rises_bind (rises_expect_word word.WHILE) (λ _. rises_bind (rises_parens b.exprs l.exprs) (λ e. rises_bind (rises_semi DoWhile) (λ x. rises_ret (tree.Do s e x)))))

  rises_for_from : (n : Init) → Rises (parser.for_from b i n)
  unfolding parser.for_from
  rises_for_from n =
      rises_bind (expect_rises mark.SEMICOLON) (λ _. rises_bind (rises_option b.exprs l.exprs mark.SEMICOLON) (λ x.
      rises_bind (expect_rises mark.SEMICOLON) (λ _. rises_bind (rises_option b.exprs l.exprs mark.CLOSE_PAREN) (λ y.
      rises_bind (expect_rises mark.CLOSE_PAREN) (λ _. rises_bind stmt (λ s. rises_ret (tree.For n (maybe_expr_of x) (maybe_expr_of y) s)))))))

  rises_for_in : (n : Each) → Rises (parser.for_in_from b i n)
  unfolding parser.for_in_from
  rises_for_in n = rises_bind (expr_rises b.exprs l.exprs true) (λ e. rises_bind (expect_rises mark.CLOSE_PAREN) (λ _. rises_bind stmt (λ s. rises_ret (tree.ForIn n e s))))

  rises_for_named : (d : Decl) (n : Named) → Rises (parser.for_named b i d n)
  unfolding parser.for_named
  rises_for_named d n = rises_peek (λ t. rises_when (is_word word.IN t.kind) (rises_step (rises_for_in (tree.BindEach d n))) (rises_bind (rises_binds b.exprs l.exprs false n) (λ m. rises_for_from (tree.BindsInit d (binds_of m.items)))))

  rises_for_decl : (d : Decl) → Rises (parser.for_decl b i d)
  unfolding parser.for_decl
  rises_for_decl d = rises_bind name_of_rises (rises_for_named d)

  rises_for_valued : (e : Expr) → Rises (parser.for_valued b i e)
  unfolding parser.for_valued
  rises_for_valued e = rises_peek (λ t. rises_when (is_word word.IN t.kind && nat_le (rank e) left_rank) (rises_step (rises_for_in (tree.TargetEach e))) (rises_for_from (tree.ValueInit e)))

  rises_for_head : Rises (parser.for_head b i)
  unfolding parser.for_head
  rises_for_head = rises_peek (λ t.
      rises_when (is_mark mark.SEMICOLON t.kind) (rises_for_from tree.NoInit)
      (rises_when (is_word word.VAR t.kind) (rises_step (rises_for_decl decl.Var))
      (rises_when (is_word word.LET t.kind) (rises_step (rises_for_decl decl.Let))
      (rises_when (is_word word.CONST t.kind) (rises_step (rises_for_decl decl.Const))
      (rises_bind (expr_rises b.exprs l.exprs false) rises_for_valued)))))

  pub rises_for : Rises (parser.for_of b i)
  unfolding parser.for_of
  rises_for = rises_bind (expect_rises mark.OPEN_PAREN) (λ _. rises_for_head)

  rises_case : Rises (parser.case_of b i)
  unfolding parser.case_of
  rises_case = rises_bind (expr_rises b.exprs l.exprs true) (λ e. rises_bind (expect_rises mark.COLON) (λ _. rises_bind (rises_stmts b.stmt l.stmt i) (λ ss. rises_ret (parser.clause (Some e) ss))))

  rises_default : Rises (parser.default_of b i)
  unfolding parser.default_of
  rises_default = rises_bind (expect_rises mark.COLON) (λ _. rises_bind (rises_stmts b.stmt l.stmt i) (λ ss. rises_ret (parser.clause None ss)))

  behind_case : {B : Type 0} → Rises (bind (parser.case_of b i) (again {A = Clause} {B = B}))
  behind_case = rises_bind rises_case (λ c. rises_ret (Again c))

  behind_default : Rises (bind (parser.default_of b i) (λ c. ret {A = Turn Clause (Option Clause)} (Stop (Some c))))
  behind_default = rises_bind rises_default (λ c. rises_ret (Stop (Some c)))

  case_turn_rises : Rises (parser.case_turn b i)
  unfolding parser.case_turn
  case_turn_rises = rises_peek (λ t. rises_when (is_word word.CASE t.kind) (rises_step behind_case) (rises_ret (Stop tt)))

  clause_turn_rises : Rises (parser.clause_turn b i)
  unfolding parser.clause_turn
  clause_turn_rises = rises_peek (λ t. rises_when (is_word word.CASE t.kind) (rises_step behind_case) (rises_when (is_word word.DEFAULT t.kind) (rises_step behind_default) (rises_ret (Stop None))))

  rises_more_clauses : (o : Option Clause) → Rises (parser.more_clauses b i o)
  unfolding parser.more_clauses
  rises_more_clauses None = rises_ret []
  rises_more_clauses (Some c) = rises_bind (rises_loop case_turn_rises) (λ m. rises_ret (c ∷ m.items))

  rises_clauses : Rises (parser.clauses_from b i)
  unfolding parser.clauses_from
  rises_clauses = rises_bind (rises_loop clause_turn_rises) (λ m. rises_bind (rises_more_clauses m.last) (λ cs. rises_ret (m.items ++ cs)))

  pub rises_switch : Rises (parser.switch_of b i)
  unfolding parser.switch_of
  rises_switch = rises_bind (rises_parens b.exprs l.exprs) (λ e. rises_bind (expect_rises mark.OPEN_BRACE) (λ _. rises_bind rises_clauses (λ cs. rises_bind (expect_rises mark.CLOSE_BRACE) (λ _. rises_ret (tree.Switch e (clauses_of cs))))))

  rises_catch_name : Rises parser.catch_name
  unfolding parser.catch_name
  rises_catch_name = rises_bind name_of_rises (λ n. rises_bind (expect_rises mark.CLOSE_PAREN) (λ _. rises_ret n))

  rises_catch : Rises parser.catch_param
  unfolding parser.catch_param
  rises_catch = rises_peek (λ t. rises_when (is_mark mark.OPEN_PAREN t.kind) (rises_step (rises_bind rises_catch_name (λ n. rises_ret (Some n)))) (rises_ret None))

  pub rises_try : Rises (parser.try_of b i)
  unfolding parser.try_of
  rises_try = rises_bind (rises_braced b.stmt l.stmt i) (λ ss. rises_bind (rises_expect_word word.CATCH) (λ _. rises_bind rises_catch (λ p. rises_bind (rises_braced b.stmt l.stmt i) (λ hs. rises_ret (tree.Try ss p hs)))))

  label_rest : (n : Named) → Rises (bind (expect mark.COLON) (λ _. bind (b.stmt (AStmt i)) (λ s. ret (tree.Label n s))))
  label_rest n = rises_bind (expect_rises mark.COLON) (λ _. rises_bind stmt (λ s. rises_ret (tree.Label n s)))

  rises_labelled : Rises (parser.labelled_of b i)
  unfolding parser.labelled_of
  rises_labelled = rises_bind l.label label_rest

  pub rises_block : Rises (parser.block_stmt b i)
  unfolding parser.block_stmt
  rises_block = rises_bind (rises_braced_from b.stmt l.stmt i) (λ ss. rises_ret (tree.Block ss))

module _ (b : Block) (l : RisesBlock b) where
  rises_plain : (i : Bool) → Rises (parser.plain_stmt b i)
  unfolding parser.plain_stmt
  rises_plain i = rises_two (λ t u. rises_when (parser.is_label t u) (rises_labelled b l i) (rises_when (is_word word.FUNCTION t.kind || is_mark mark.OPEN_BRACE t.kind) rises_bad (rises_value b.exprs l.exprs)))

  rises_jump : (p : Place) → Rises (parser.jump_stmt b p)
  unfolding parser.jump_stmt
  rises_jump p = rises_peek (λ t.
      rises_when (is_word word.CONTINUE t.kind) (rises_step (rises_continue b.exprs l.exprs t.start))
      (rises_when (is_word word.BREAK t.kind) (rises_step (rises_break b.exprs l.exprs t.start))
      (rises_when (is_word word.RETURN t.kind && is_inside p) (rises_step (rises_return b.exprs l.exprs))
      (rises_when (is_word word.THROW t.kind) (rises_step (rises_throw b.exprs l.exprs))
      (rises_plain (is_inside p))))))

  rises_nested : (p : Place) → Rises (parser.nested_stmt b p)
  unfolding parser.nested_stmt
  rises_nested p = rises_peek (λ t.
      rises_when (is_word word.IF t.kind) (rises_step (rises_if b l (is_inside p)))
      (rises_when (is_word word.WHILE t.kind) (rises_step (rises_while b l (is_inside p)))
      (rises_when (is_word word.DO t.kind) (rises_step (rises_do b l (is_inside p)))
      (rises_when (is_word word.FOR t.kind) (rises_step (rises_for b l (is_inside p)))
      (rises_when (is_word word.SWITCH t.kind) (rises_step (rises_switch b l (is_inside p)))
      (rises_when (is_word word.TRY t.kind) (rises_step (rises_try b l (is_inside p)))
      (rises_jump p)))))))

  rises_declaration : (p : Place) → Rises (parser.declaration_stmt b p)
  unfolding parser.declaration_stmt
  rises_declaration p = rises_peek (λ t.
      rises_when (is_word word.VAR t.kind) (rises_step (rises_binding b.exprs l.exprs decl.Var))
      (rises_when (is_word word.LET t.kind && is_item p) (rises_step (rises_binding b.exprs l.exprs decl.Let))
      (rises_when (is_word word.CONST t.kind && is_item p) (rises_step (rises_binding b.exprs l.exprs decl.Const))
      (rises_when (is_word word.FUNCTION t.kind && is_item p) (rises_step (rises_declared b.exprs l.exprs))
      (rises_nested p)))))

  pub rises_stmt : (p : Place) → Rises (parser.stmt_of b p)
  unfolding parser.stmt_of
  rises_stmt p = rises_peek (λ t.
      rises_when (is_mark mark.OPEN_BRACE t.kind) (rises_step (rises_block b l (is_inside p)))
      (rises_when (is_mark mark.SEMICOLON t.kind) (rises_step (rises_ret tree.Empty))
      (rises_when (is_word word.DEBUGGER t.kind) (rises_step (rises_debugger b.exprs l.exprs))
      (rises_declaration p))))
