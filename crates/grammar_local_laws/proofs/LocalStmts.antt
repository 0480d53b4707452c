-- The parser of statements looks at no lexeme after the place where it stops, and each statement reads one at least.
use Rattle.std.proofs.Common.{◌≡◌, ℕ, suc, List, [], ◌∷◌, ◌++◌, length, refl, sym, ap, subst, arith, Bool, true, false, ◌&&◌, ◌||◌, not, nat_le, Option, Some, None}
use Rattle.script_grammar.specs.declared.token.mark.TheConstants as mark
use Rattle.script_grammar.specs.declared.token.word.TheConstants as word
use Rattle.script_grammar.specs.declared.token.FuncForm.{FuncForm}
use Rattle.script_grammar.specs.declared.token.FuncForm.TheVariants as form
use Rattle.script_grammar.specs.declared.token.Decl.{Decl}
use Rattle.script_grammar.specs.declared.token.Decl.TheVariants as decl
use Rattle.script_grammar.specs.Lexeme.{Lexeme}
use Rattle.script_grammar.specs.Kinds.{is_mark, is_word, is_name, is_end}
use Rattle.script_grammar.specs.Pieces.{Ending, BareBinding, Keyword, DoWhile, may_omit}
use Rattle.script_grammar.specs.Endings.{ending, return_ending, binds_ending}
use Rattle.script_grammar.specs.Proper.{rank, left_rank, takes_else}
use Rattle.script_grammar.specs.Tree.{Named, Expr, Init, Each, Stmt, Stmts}
use Rattle.script_grammar.specs.Tree as tree
use Rattle.script_grammar.specs.TreeLists.{Bind, Clause, maybe_expr_of, maybe_stmt_of, binds_of, stmts_of, clauses_of}
use Rattle.grammar_parser_laws.proofs.Tests.{name_known}
use Rattle.grammar_parser_specs.specs.Parser.{Parser, head_of, rest_of, ret, bad, bind, step, when, Turn, Again, Stop}
use Rattle.grammar_parser_specs.specs.Exprs.{Env, AnAssign, expect, name_of, named, peek_two, expr_of, function_of, again}
use Rattle.grammar_parser_specs.specs.Stmts as parser
use Rattle.grammar_parser_specs.specs.Stmts.{Place, AnItem, AStmt, StmtCalls, Block, is_item, is_inside}
use Rattle.grammar_parser_laws.proofs.Local.{Local, Same, out, local_ret, local_bad, local_bind, local_peek, local_when, local_step, local_loop, local_led, Gains, Eats, Ate, eats_peek, eats_bind, ate_step, ate_when, ate_each, gains_peek, gains_step, moves_when, moves_eats}

pub local_expect : (i : ℕ) → Local (expect i)
unfolding expect
local_expect i = local_peek (λ t. local_when (is_mark i t.kind) (local_step (local_ret tt)) local_bad)

pub local_expect_word : (i : ℕ) → Local (parser.expect_word i)
unfolding parser.expect_word
local_expect_word i = local_peek (λ t. local_when (is_word i t.kind) (local_step (local_ret tt)) local_bad)

pub local_name : Local name_of
unfolding name_of
local_name = local_peek (λ t. local_when (is_name t.kind) (local_step (local_ret (named t))) local_bad)

pub local_semi : (e : Ending) → Local (parser.semi_of e)
unfolding parser.semi_of
local_semi e = local_peek (λ t. local_when (is_mark mark.SEMICOLON t.kind) (local_step (local_ret true)) (local_when (may_omit e t) (local_ret false) local_bad))

pub local_end : {A : Type 0} (a : A) → Local (parser.end_of a)
unfolding parser.end_of
local_end a = local_peek (λ t. local_when (is_end t.kind) (local_ret a) local_bad)

-- what statements use of expressions
pub record LocalUses (v : Env) : Type 0 where
  pub assign : (w : Bool) → Local (v.sub (AnAssign w))
  pub expr : (w : Bool) → Local (expr_of v w)
  pub expr_eats : (w : Bool) → Eats (expr_of v w)
  pub function : (f : FuncForm) (n : Option Named) → Local (function_of v f n)

pub record LocalStmts (stmt : StmtCalls) : Type 0 where
  pub at : (p : Place) → Local (stmt p)
  pub eats : (p : Place) → Eats (stmt p)

pub record LocalBlock (b : Block) : Type 0 where
  pub uses : LocalUses b.exprs
  pub stmts : LocalStmts b.stmt
  pub label : Local b.label
  pub label_eats : Eats b.label
  -- a name that no lexeme follows is read as an expression, as a label it is read as far
  pub lone : (t : Lexeme) (q : List Lexeme) → is_name t.kind ≡ true → (f : Named → Parser Stmt) → ((n : Named) → Local (f n)) → Same q (parser.value_stmt b.exprs (t ∷ [])) (bind b.label f (t ∷ q))

module _ (stmt : StmtCalls) (s : LocalStmts stmt) where
  stmt_turn_eats : (i : Bool) → Gains (parser.stmt_turn stmt i)
  unfolding parser.stmt_turn
  stmt_turn_eats i = gains_peek (λ t. when (parser.ends_items t.kind) (ret (Stop tt)) (bind (stmt (AnItem i)) (λ x. ret (Again x)))) tt
      (λ t ts. moves_when (ret (Stop tt)) (bind (stmt (AnItem i)) (λ x. ret (Again x))) (parser.ends_items t.kind) t ts tt (moves_eats (bind (stmt (AnItem i)) (λ x. ret (Again x))) (eats_bind (s.eats (AnItem i)) (λ x. local_ret (Again x))) (t ∷ ts)))

  stmt_turn_local : (i : Bool) → Local (parser.stmt_turn stmt i)
  unfolding parser.stmt_turn
  stmt_turn_local i = local_peek (λ t. local_when (parser.ends_items t.kind) (local_ret (Stop tt)) (local_bind (s.at (AnItem i)) (λ x. local_ret (Again x))))

  pub local_stmts : (i : Bool) → Local (parser.stmts_from stmt i)
  unfolding parser.stmts_from
  local_stmts i = local_bind (local_loop (stmt_turn_local i) (stmt_turn_eats i)) (λ m. local_ret m.items)

  pub local_braced_from : (i : Bool) → Local (parser.braced_from stmt i)
  unfolding parser.braced_from
  local_braced_from i = local_bind (local_stmts i) (λ ss. local_bind (local_expect mark.CLOSE_BRACE) (λ _. local_ret (stmts_of ss)))

  pub local_braced : (i : Bool) → Local (parser.braced_of stmt i)
  unfolding parser.braced_of
  local_braced i = local_bind (local_expect mark.OPEN_BRACE) (λ _. local_braced_from i)

  pub local_close_body : (ss : List Stmt) → Local (parser.close_body ss)
  unfolding parser.close_body
  local_close_body ss = local_peek (λ t. local_when (is_mark mark.CLOSE_BRACE t.kind) (local_step (local_ret (record { body = tree.BracedBody (stmts_of ss); end = t.end }))) local_bad)

  pub local_reading : (f : FuncForm) (start : ℕ) (simple : Bool) → Local (parser.reading stmt f start simple)
  unfolding parser.reading
  local_reading f start simple = local_bind (local_expect mark.OPEN_BRACE) (λ _. local_bind (local_stmts true) local_close_body)

  pub local_script : Local (parser.script_of stmt)
  unfolding parser.script_of
  local_script = local_bind (local_stmts false) (λ ss. local_end (stmts_of ss))

module _ (v : Env) (u : LocalUses v) where
  pub local_parens : Local (parser.parens_of v)
  unfolding parser.parens_of
  local_parens = local_bind (local_expect mark.OPEN_PAREN) (λ _. local_bind (u.expr true) (λ e. local_bind (local_expect mark.CLOSE_PAREN) (λ _. local_ret e)))

  local_value_of : (w : Bool) → Local (parser.value_of v w)
  unfolding parser.value_of
  local_value_of w = local_peek (λ t. local_when (is_mark mark.ASSIGN t.kind) (local_step (local_bind (u.assign w) (λ e. local_ret (Some e)))) (local_ret None))

  local_bind_from : (w : Bool) (n : Named) → Local (parser.bind_from v w n)
  unfolding parser.bind_from
  local_bind_from w n = local_bind (local_value_of w) (λ o. local_ret (parser.bound n o))

  local_bind_of : (w : Bool) → Local (parser.bind_of v w)
  unfolding parser.bind_of
  local_bind_of w = local_bind local_name (local_bind_from w)

  behind_comma : (w : Bool) → Local (bind (parser.bind_of v w) (again {A = Bind} {B = Unit {0}}))
  behind_comma w = local_bind (local_bind_of w) (λ x. local_ret (Again x))

  bind_turn_local : (w : Bool) → Local (parser.bind_turn v w)
  unfolding parser.bind_turn
  bind_turn_local w = local_peek (λ t. local_when (is_mark mark.COMMA t.kind) (local_step (behind_comma w)) (local_ret (Stop tt)))

  bind_turn_gains : (w : Bool) → Gains (parser.bind_turn v w)
  unfolding parser.bind_turn
  bind_turn_gains w = gains_peek (λ t. when (is_mark mark.COMMA t.kind) (step (bind (parser.bind_of v w) again)) (ret (Stop tt))) tt
      (λ t ts. moves_when (step (bind (parser.bind_of v w) again)) (ret (Stop tt)) (is_mark mark.COMMA t.kind) t ts (gains_step (bind (parser.bind_of v w) again) (behind_comma w) t ts) tt)

  pub local_binds : (w : Bool) (n : Named) → Local (parser.binds_from v w n)
  unfolding parser.binds_from
  local_binds w n = local_bind (local_bind_from w n) (local_led (bind_turn_local w) (bind_turn_gains w))

  pub local_binding : (d : Decl) → Local (parser.binding_of v d)
  unfolding parser.binding_of
  local_binding d = local_bind local_name (λ n. local_bind (local_binds true n) (λ m. local_bind (local_semi (binds_ending BareBinding (binds_of m.items))) (λ b. local_ret (tree.Binding d (binds_of m.items) b))))

  pub local_declared : Local (parser.declared_of v)
  unfolding parser.declared_of
  local_declared = local_bind local_name (λ n. local_bind (u.function form.Function (Some n)) (λ f. local_ret (tree.Declared f)))

  pub local_debugger : Local parser.debugger_of
  unfolding parser.debugger_of
  local_debugger = local_bind (local_semi Keyword) (λ b. local_ret (tree.Debugger b))

  value_rest : (e : Expr) → Local (bind (parser.semi_of (ending e)) (λ b. ret (tree.Value e b)))
  value_rest e = local_bind (local_semi (ending e)) (λ b. local_ret (tree.Value e b))

  pub local_value : Local (parser.value_stmt v)
  unfolding parser.value_stmt
  local_value = local_bind (u.expr true) value_rest

  pub eats_value : Eats (parser.value_stmt v)
  unfolding parser.value_stmt
  eats_value = eats_bind (u.expr_eats true) value_rest

  local_option : (i : ℕ) → Local (parser.option_of v i)
  unfolding parser.option_of
  local_option i = local_peek (λ t. local_when (is_mark i t.kind) (local_ret None) (local_bind (u.expr true) (λ e. local_ret (Some e))))

  local_label : Local parser.label_name
  unfolding parser.label_name
  local_label = local_peek (λ t. local_when (is_name t.kind && not t.after_line) (local_step (local_ret (Some (named t)))) (local_ret None))

  pub local_continue : (at : ℕ) → Local (parser.continue_of at)
  unfolding parser.continue_of
  local_continue at = local_bind local_label (λ l. local_bind (local_semi Keyword) (λ b. local_ret (tree.Continue at l b)))

  pub local_break : (at : ℕ) → Local (parser.break_of at)
  unfolding parser.break_of
  local_break at = local_bind local_label (λ l. local_bind (local_semi Keyword) (λ b. local_ret (tree.Break at l b)))

  local_returned : Local (parser.returned_of v)
  unfolding parser.returned_of
  local_returned = local_peek (λ t. local_when (parser.ends_return t) (local_ret None) (local_bind (u.expr true) (λ e. local_ret (Some e))))

  pub local_return : Local (parser.return_of v)
  unfolding parser.return_of
  local_return = local_bind local_returned (λ o. local_bind (local_semi (return_ending (maybe_expr_of o))) (λ b. local_ret (tree.Return (maybe_expr_of o) b)))

  local_thrown : Local (parser.thrown_of v)
  unfolding parser.thrown_of
  local_thrown = local_peek (λ t. local_when t.after_line local_bad (u.expr true))

  pub local_throw : Local (parser.throw_of v)
  unfolding parser.throw_of
  local_throw = local_bind local_thrown (λ e. local_bind (local_semi (ending e)) (λ b. local_ret (tree.Throw e b)))

module _ (b : Block) (l : LocalBlock b) (i : Bool) where
  stmt : Local (b.stmt (AStmt i))
  stmt = l.stmts.at (AStmt i)

  local_else : Local (parser.else_of b i)
  unfolding parser.else_of
  local_else = local_peek (λ t. local_when (is_word word.ELSE t.kind) (local_step (local_bind stmt (λ s. local_ret (Some s)))) (local_ret None))

  pub local_if : Local (parser.if_of b i)
  unfolding parser.if_of
  local_if = local_bind (local_parens b.exprs l.uses) (λ e. local_bind stmt (λ s. local_bind (local_when (takes_else s) (local_ret None) local_else) (λ o. local_ret (tree.If e s (maybe_stmt_of o)))))

  pub local_while : Local (parser.while_of b i)
  unfolding parser.while_of
  local_while = local_bind (local_parens b.exprs l.uses) (λ e. local_bind stmt (λ s. local_ret (tree.While e s)))

  pub local_do : Local (parser.do_of b i)
  unfolding parser.do_of
  local_do = local_bind stmt (λ s. local_bind (local_expect_word word.WHILE) (λ _. local_bind (local_parens b.exprs l.uses) (λ e. local_bind (local_semi DoWhile) (λ x. local_ret (tree.Do s e x)))))

  local_for_from : (n : Init) → Local (parser.for_from b i n)
  unfolding parser.for_from
  local_for_from n =
      local_bind (local_expect mark.SEMICOLON) (λ _. local_bind (local_option b.exprs l.uses mark.SEMICOLON) (λ x.
      local_bind (local_expect mark.SEMICOLON) (λ _. local_bind (local_option b.exprs l.uses mark.CLOSE_PAREN) (λ y.
      local_bind (local_expect mark.CLOSE_PAREN) (λ _. local_bind stmt (λ s. local_ret (tree.For n (maybe_expr_of x) (maybe_expr_of y) s)))))))

  local_for_in : (n : Each) → Local (parser.for_in_from b i n)
  unfolding parser.for_in_from
  local_for_in n = local_bind (l.uses.expr true) (λ e. local_bind (local_expect mark.CLOSE_PAREN) (λ _. local_bind stmt (λ s. local_ret (tree.ForIn n e s))))

  local_for_named : (d : Decl) (n : Named) → Local (parser.for_named b i d n)
  unfolding parser.for_named
  local_for_named d n = local_peek (λ t. local_when (is_word word.IN t.kind) (local_step (local_for_in (tree.BindEach d n))) (local_bind (local_binds b.exprs l.uses false n) (λ m. local_for_from (tree.BindsInit d (binds_of m.items)))))

  local_for_decl : (d : Decl) → Local (parser.for_decl b i d)
  unfolding parser.for_decl
  local_for_decl d = local_bind local_name (local_for_named d)

  local_for_valued : (e : Expr) → Local (parser.for_valued b i e)
  unfolding parser.for_valued
  local_for_valued e = local_peek (λ t. local_when (is_word word.IN t.kind && nat_le (rank e) left_rank) (local_step (local_for_in (tree.TargetEach e))) (local_for_from (tree.ValueInit e)))

  local_for_head : Local (parser.for_head b i)
  unfolding parser.for_head
  local_for_head = local_peek (λ t.
      local_when (is_mark mark.SEMICOLON t.kind) (local_for_from tree.NoInit)
      (local_when (is_word word.VAR t.kind) (local_step (local_for_decl decl.Var))
      (local_when (is_word word.LET t.kind) (local_step (local_for_decl decl.Let))
      (local_when (is_word word.CONST t.kind) (local_step (local_for_decl decl.Const))
      (local_bind (l.uses.expr false) local_for_valued)))))

  pub local_for : Local (parser.for_of b i)
  unfolding parser.for_of
  local_for = local_bind (local_expect mark.OPEN_PAREN) (λ _. local_for_head)

  local_case : Local (parser.case_of b i)
  unfolding parser.case_of
  local_case = local_bind (l.uses.expr true) (λ e. local_bind (local_expect mark.COLON) (λ _. local_bind (local_stmts b.stmt l.stmts i) (λ ss. local_ret (parser.clause (Some e) ss))))

  local_default : Local (parser.default_of b i)
  unfolding parser.default_of
  local_default = local_bind (local_expect mark.COLON) (λ _. local_bind (local_stmts b.stmt l.stmts i) (λ ss. local_ret (parser.clause None ss)))

  behind_case : {B : Type 0} → Local (bind (parser.case_of b i) (again {A = Clause} {B = B}))
  behind_case = local_bind local_case (λ c. local_ret (Again c))

  behind_default : Local (bind (parser.default_of b i) (λ c. ret {A = Turn Clause (Option Clause)} (Stop (Some c))))
  behind_default = local_bind local_default (λ c. local_ret (Stop (Some c)))

  case_turn_local : Local (parser.case_turn b i)
  unfolding parser.case_turn
  case_turn_local = local_peek (λ t. local_when (is_word word.CASE t.kind) (local_step behind_case) (local_ret (Stop tt)))

  case_turn_gains : Gains (parser.case_turn b i)
  unfolding parser.case_turn
  case_turn_gains = gains_peek (λ t. when (is_word word.CASE t.kind) (step (bind (parser.case_of b i) again)) (ret (Stop tt))) tt
      (λ t ts. moves_when (step (bind (parser.case_of b i) again)) (ret (Stop tt)) (is_word word.CASE t.kind) t ts (gains_step (bind (parser.case_of b i) again) behind_case t ts) tt)

  clause_turn_local : Local (parser.clause_turn b i)
  unfolding parser.clause_turn
  clause_turn_local = local_peek (λ t. local_when (is_word word.CASE t.kind) (local_step behind_case) (local_when (is_word word.DEFAULT t.kind) (local_step behind_default) (local_ret (Stop None))))

  default_turn : Lexeme → Parser (Turn Clause (Option Clause))
  default_turn t = when (is_word word.DEFAULT t.kind) (step (bind (parser.default_of b i) (λ c. ret (Stop (Some c))))) (ret (Stop None))

  clause_turn_gains : Gains (parser.clause_turn b i)
  unfolding parser.clause_turn default_turn
  clause_turn_gains = gains_peek (λ t. when (is_word word.CASE t.kind) (step (bind (parser.case_of b i) again)) (default_turn t)) tt
      (λ t ts. moves_when (step (bind (parser.case_of b i) again)) (default_turn t) (is_word word.CASE t.kind) t ts (gains_step (bind (parser.case_of b i) again) behind_case t ts)
      (moves_when (step (bind (parser.default_of b i) (λ c. ret (Stop (Some c))))) (ret (Stop None)) (is_word word.DEFAULT t.kind) t ts (gains_step (bind (parser.default_of b i) (λ c. ret (Stop (Some c)))) behind_default t ts) tt))

  local_more_clauses : (o : Option Clause) → Local (parser.more_clauses b i o)
  unfolding parser.more_clauses
  local_more_clauses None = local_ret []
  local_more_clauses (Some c) = local_bind (local_loop case_turn_local case_turn_gains) (λ m. local_ret (c ∷ m.items))

  local_clauses : Local (parser.clauses_from b i)
  unfolding parser.clauses_from
  local_clauses = local_bind (local_loop clause_turn_local clause_turn_gains) (λ m. local_bind (local_more_clauses m.last) (λ cs. local_ret (m.items ++ cs)))

  pub local_switch : Local (parser.switch_of b i)
  unfolding parser.switch_of
  local_switch = local_bind (local_parens b.exprs l.uses) (λ e. local_bind (local_expect mark.OPEN_BRACE) (λ _. local_bind local_clauses (λ cs. local_bind (local_expect mark.CLOSE_BRACE) (λ _. local_ret (tree.Switch e (clauses_of cs))))))

  local_catch_name : Local parser.catch_name
  unfolding parser.catch_name
  local_catch_name = local_bind local_name (λ n. local_bind (local_expect mark.CLOSE_PAREN) (λ _. local_ret n))

  local_catch : Local parser.catch_param
  unfolding parser.catch_param
  local_catch = local_peek (λ t. local_when (is_mark mark.OPEN_PAREN t.kind) (local_step (local_bind local_catch_name (λ n. local_ret (Some n)))) (local_ret None))

  pub local_try : Local (parser.try_of b i)
  unfolding parser.try_of
  local_try = local_bind (local_braced b.stmt l.stmts i) (λ ss. local_bind (local_expect_word word.CATCH) (λ _. local_bind local_catch (λ p. local_bind (local_braced b.stmt l.stmts i) (λ hs. local_ret (tree.Try ss p hs)))))

  label_rest : (n : Named) → Local (bind (expect mark.COLON) (λ _. bind (b.stmt (AStmt i)) (λ s. ret (tree.Label n s))))
  label_rest n = local_bind (local_expect mark.COLON) (λ _. local_bind stmt (λ s. local_ret (tree.Label n s)))

  local_labelled : Local (parser.labelled_of b i)
  unfolding parser.labelled_of
  local_labelled = local_bind l.label label_rest

  eats_labelled : Eats (parser.labelled_of b i)
  unfolding parser.labelled_of
  eats_labelled = eats_bind l.label_eats label_rest

  pub local_block : Local (parser.block_stmt b i)
  unfolding parser.block_stmt
  local_block = local_bind (local_braced_from b.stmt l.stmts i) (λ ss. local_ret (tree.Block ss))

-- looking at two lexemes, where nothing may follow the first

two_same : {A : Type 0} (f : Lexeme → Lexeme → Parser A) → ((t u : Lexeme) → Local (f t u)) → ((t : Lexeme) (q : List Lexeme) → Same q (f t (head_of []) (t ∷ [])) (f t (head_of q) (t ∷ q))) → (ts q : List Lexeme) → Same q (peek_two f ts) (peek_two f (ts ++ q))
two_same f l k [] q = out (omega (arith, (l (head_of []) (head_of [])).shorter [])) ((l (head_of q) (head_of (rest_of q))).shorter q)
two_same f l k (t ∷ []) q = k t q
two_same f l k (t ∷ u ∷ ts) q = (l t u).same (t ∷ u ∷ ts) q

pub local_two : {A : Type 0} {f : Lexeme → Lexeme → Parser A} → ((t u : Lexeme) → Local (f t u)) → ((t : Lexeme) (q : List Lexeme) → Same q (f t (head_of []) (t ∷ [])) (f t (head_of q) (t ∷ q))) → Local (peek_two f)
local_two {f = f} l k = record { shorter = λ ts. (l (head_of ts) (head_of (rest_of ts))).shorter ts; same = two_same f l k }

eats_two_at : {A : Type 0} (f : Lexeme → Lexeme → Parser A) → Ate 0 (f (head_of []) (head_of []) []) → ((t u : Lexeme) (ts : List Lexeme) → Ate (suc (length ts)) (f t u (t ∷ ts))) → (ts : List Lexeme) → Ate (length ts) (peek_two f ts)
eats_two_at f h g [] = h
eats_two_at f h g (t ∷ ts) = g t (head_of ts) ts

module _ (b : Block) (l : LocalBlock b) where
  other : Lexeme → Parser Stmt
  other t = when (is_word word.FUNCTION t.kind || is_mark mark.OPEN_BRACE t.kind) bad (parser.value_stmt b.exprs)

  local_other : (t : Lexeme) → Local (other t)
  unfolding other
  local_other t = local_when (is_word word.FUNCTION t.kind || is_mark mark.OPEN_BRACE t.kind) local_bad (local_value b.exprs l.uses)

  ate_other : (t : Lexeme) (ts : List Lexeme) → Ate (suc (length ts)) (other t (t ∷ ts))
  unfolding other
  ate_other t ts = ate_when bad (parser.value_stmt b.exprs) (is_word word.FUNCTION t.kind || is_mark mark.OPEN_BRACE t.kind) t ts tt (ate_each (parser.value_stmt b.exprs) (eats_value b.exprs l.uses) t ts)

  name_other : (t : Lexeme) (ts : List Lexeme) → is_name t.kind ≡ true → other t (t ∷ ts) ≡ parser.value_stmt b.exprs (t ∷ ts)
  unfolding other
  name_other t ts h = ap (λ k. when (is_word word.FUNCTION k || is_mark mark.OPEN_BRACE k) bad (parser.value_stmt b.exprs) (t ∷ ts)) (name_known t.kind h)

  label_same : (i : Bool) (t : Lexeme) (q : List Lexeme) → is_name t.kind ≡ true → Same q (parser.value_stmt b.exprs (t ∷ [])) (parser.labelled_of b i (t ∷ q))
  unfolding parser.labelled_of
  label_same i t q h = l.lone t q h (λ n. bind (expect mark.COLON) (λ _. bind (b.stmt (AStmt i)) (λ s. ret (tree.Label n s)))) (label_rest b l i)

  lone_by : (i : Bool) (t : Lexeme) (q : List Lexeme) (n c : Bool) → is_name t.kind ≡ n → Same q (when (n && false) (parser.labelled_of b i) (other t) (t ∷ [])) (when (n && c) (parser.labelled_of b i) (other t) (t ∷ q))
  lone_by i t q false c h = (local_other t).same (t ∷ []) q
  lone_by i t q true false h = (local_other t).same (t ∷ []) q
  lone_by i t q true true h = subst (λ r. Same q r (parser.labelled_of b i (t ∷ q))) (sym (name_other t [] h)) (label_same i t q h)

  lone_same : (i : Bool) (t : Lexeme) (q : List Lexeme) → Same q (when (is_name t.kind && false) (parser.labelled_of b i) (other t) (t ∷ [])) (when (is_name t.kind && is_mark mark.COLON (head_of q).kind) (parser.labelled_of b i) (other t) (t ∷ q))
  lone_same i t q = lone_by i t q (is_name t.kind) (is_mark mark.COLON (head_of q).kind) refl

  local_plain : (i : Bool) → Local (parser.plain_stmt b i)
  unfolding parser.plain_stmt other
  local_plain i = local_two (λ t u. local_when (parser.is_label t u) (local_labelled b l i) (local_other t)) (λ t q. lone_same i t q)

  end_other : Ate 0 (parser.value_stmt b.exprs [])
  end_other = (eats_value b.exprs l.uses).each []

  eats_plain : (i : Bool) → Eats (parser.plain_stmt b i)
  unfolding parser.plain_stmt other
  eats_plain i = record { each = eats_two_at (λ t u. when (parser.is_label t u) (parser.labelled_of b i) (other t)) end_other (λ t u ts. ate_when (parser.labelled_of b i) (other t) (parser.is_label t u) t ts (ate_each (parser.labelled_of b i) (eats_labelled b l i) t ts) (ate_other t ts)) }

  -- a statement that begins with a word, or else
  ate_or : (f g : Parser Stmt) (c : Bool) (t : Lexeme) (ts : List Lexeme) → Local f → Eats g → Ate (suc (length ts)) (when c (step f) g (t ∷ ts))
  ate_or f g c t ts lf eg = ate_when (step f) g c t ts (ate_step f lf t ts) (ate_each g eg t ts)

  local_jump : (p : Place) → Local (parser.jump_stmt b p)
  unfolding parser.jump_stmt
  local_jump p = local_peek (λ t.
      local_when (is_word word.CONTINUE t.kind) (local_step (local_continue b.exprs l.uses t.start))
      (local_when (is_word word.BREAK t.kind) (local_step (local_break b.exprs l.uses t.start))
      (local_when (is_word word.RETURN t.kind && is_inside p) (local_step (local_return b.exprs l.uses))
      (local_when (is_word word.THROW t.kind) (local_step (local_throw b.exprs l.uses))
      (local_plain (is_inside p))))))

  throw_or : Place → Lexeme → Parser Stmt
  throw_or p t = when (is_word word.THROW t.kind) (step (parser.throw_of b.exprs)) (parser.plain_stmt b (is_inside p))

  return_or : Place → Lexeme → Parser Stmt
  return_or p t = when (is_word word.RETURN t.kind && is_inside p) (step (parser.return_of b.exprs)) (throw_or p t)

  break_or : Place → Lexeme → Parser Stmt
  break_or p t = when (is_word word.BREAK t.kind) (step (parser.break_of t.start)) (return_or p t)

  eats_jump : (p : Place) → Eats (parser.jump_stmt b p)
  unfolding parser.jump_stmt throw_or return_or break_or
  eats_jump p = eats_peek (λ t. when (is_word word.CONTINUE t.kind) (step (parser.continue_of t.start)) (break_or p t)) ((eats_plain (is_inside p)).each [])
      (λ t ts. ate_when (step (parser.continue_of t.start)) (break_or p t) (is_word word.CONTINUE t.kind) t ts (ate_step (parser.continue_of t.start) (local_continue b.exprs l.uses t.start) t ts)
      (ate_when (step (parser.break_of t.start)) (return_or p t) (is_word word.BREAK t.kind) t ts (ate_step (parser.break_of t.start) (local_break b.exprs l.uses t.start) t ts)
      (ate_when (step (parser.return_of b.exprs)) (throw_or p t) (is_word word.RETURN t.kind && is_inside p) t ts (ate_step (parser.return_of b.exprs) (local_return b.exprs l.uses) t ts)
      (ate_or (parser.throw_of b.exprs) (parser.plain_stmt b (is_inside p)) (is_word word.THROW t.kind) t ts (local_throw b.exprs l.uses) (eats_plain (is_inside p))))))

  local_nested : (p : Place) → Local (parser.nested_stmt b p)
  unfolding parser.nested_stmt
  local_nested p = local_peek (λ t.
      local_when (is_word word.IF t.kind) (local_step (local_if b l (is_inside p)))
      (local_when (is_word word.WHILE t.kind) (local_step (local_while b l (is_inside p)))
      (local_when (is_word word.DO t.kind) (local_step (local_do b l (is_inside p)))
      (local_when (is_word word.FOR t.kind) (local_step (local_for b l (is_inside p)))
      (local_when (is_word word.SWITCH t.kind) (local_step (local_switch b l (is_inside p)))
      (local_when (is_word word.TRY t.kind) (local_step (local_try b l (is_inside p)))
      (local_jump p)))))))

  try_or : Place → Lexeme → Parser Stmt
  try_or p t = when (is_word word.TRY t.kind) (step (parser.try_of b (is_inside p))) (parser.jump_stmt b p)

  switch_or : Place → Lexeme → Parser Stmt
  switch_or p t = when (is_word word.SWITCH t.kind) (step (parser.switch_of b (is_inside p))) (try_or p t)

  for_or : Place → Lexeme → Parser Stmt
  for_or p t = when (is_word word.FOR t.kind) (step (parser.for_of b (is_inside p))) (switch_or p t)

  do_or : Place → Lexeme → Parser Stmt
  do_or p t = when (is_word word.DO t.kind) (step (parser.do_of b (is_inside p))) (for_or p t)

  while_or : Place → Lexeme → Parser Stmt
  while_or p t = when (is_word word.WHILE t.kind) (step (parser.while_of b (is_inside p))) (do_or p t)

  eats_nested : (p : Place) → Eats (parser.nested_stmt b p)
  unfolding parser.nested_stmt try_or switch_or for_or do_or while_or
  eats_nested p = eats_peek (λ t. when (is_word word.IF t.kind) (step (parser.if_of b (is_inside p))) (while_or p t)) ((eats_jump p).each [])
      (λ t ts. ate_when (step (parser.if_of b (is_inside p))) (while_or p t) (is_word word.IF t.kind) t ts (ate_step (parser.if_of b (is_inside p)) (local_if b l (is_inside p)) t ts)
      (ate_when (step (parser.while_of b (is_inside p))) (do_or p t) (is_word word.WHILE t.kind) t ts (ate_step (parser.while_of b (is_inside p)) (local_while b l (is_inside p)) t ts)
      (ate_when (step (parser.do_of b (is_inside p))) (for_or p t) (is_word word.DO t.kind) t ts (ate_step (parser.do_of b (is_inside p)) (local_do b l (is_inside p)) t ts)
      (ate_when (step (parser.for_of b (is_inside p))) (switch_or p t) (is_word word.FOR t.kind) t ts (ate_step (parser.for_of b (is_inside p)) (local_for b l (is_inside p)) t ts)
      (ate_when (step (parser.switch_of b (is_inside p))) (try_or p t) (is_word word.SWITCH t.kind) t ts (ate_step (parser.switch_of b (is_inside p)) (local_switch b l (is_inside p)) t ts)
      (ate_or (parser.try_of b (is_inside p)) (parser.jump_stmt b p) (is_word word.TRY t.kind) t ts (local_try b l (is_inside p)) (eats_jump p)))))))

  local_declaration : (p : Place) → Local (parser.declaration_stmt b p)
  unfolding parser.declaration_stmt
  local_declaration p = local_peek (λ t.
      local_when (is_word word.VAR t.kind) (local_step (local_binding b.exprs l.uses decl.Var))
      (local_when (is_word word.LET t.kind && is_item p) (local_step (local_binding b.exprs l.uses decl.Let))
      (local_when (is_word word.CONST t.kind && is_item p) (local_step (local_binding b.exprs l.uses decl.Const))
      (local_when (is_word word.FUNCTION t.kind && is_item p) (local_step (local_declared b.exprs l.uses))
      (local_nested p)))))

  function_or : Place → Lexeme → Parser Stmt
  function_or p t = when (is_word word.FUNCTION t.kind && is_item p) (step (parser.declared_of b.exprs)) (parser.nested_stmt b p)

  const_or : Place → Lexeme → Parser Stmt
  const_or p t = when (is_word word.CONST t.kind && is_item p) (step (parser.binding_of b.exprs decl.Const)) (function_or p t)

  let_or : Place → Lexeme → Parser Stmt
  let_or p t = when (is_word word.LET t.kind && is_item p) (step (parser.binding_of b.exprs decl.Let)) (const_or p t)

  eats_declaration : (p : Place) → Eats (parser.declaration_stmt b p)
  unfolding parser.declaration_stmt function_or const_or let_or
  eats_declaration p = eats_peek (λ t. when (is_word word.VAR t.kind) (step (parser.binding_of b.exprs decl.Var)) (let_or p t)) ((eats_nested p).each [])
      (λ t ts. ate_when (step (parser.binding_of b.exprs decl.Var)) (let_or p t) (is_word word.VAR t.kind) t ts (ate_step (parser.binding_of b.exprs decl.Var) (local_binding b.exprs l.uses decl.Var) t ts)
      (ate_when (step (parser.binding_of b.exprs decl.Let)) (const_or p t) (is_word word.LET t.kind && is_item p) t ts (ate_step (parser.binding_of b.exprs decl.Let) (local_binding b.exprs l.uses decl.Let) t ts)
      (ate_when (step (parser.binding_of b.exprs decl.Const)) (function_or p t) (is_word word.CONST t.kind && is_item p) t ts (ate_step (parser.binding_of b.exprs decl.Const) (local_binding b.exprs l.uses decl.Const) t ts)
      (ate_or (parser.declared_of b.exprs) (parser.nested_stmt b p) (is_word word.FUNCTION t.kind && is_item p) t ts (local_declared b.exprs l.uses) (eats_nested p)))))

  pub local_stmt : (p : Place) → Local (parser.stmt_of b p)
  unfolding parser.stmt_of
  local_stmt p = local_peek (λ t.
      local_when (is_mark mark.OPEN_BRACE t.kind) (local_step (local_block b l (is_inside p)))
      (local_when (is_mark mark.SEMICOLON t.kind) (local_step (local_ret tree.Empty))
      (local_when (is_word word.DEBUGGER t.kind) (local_step (local_debugger b.exprs l.uses))
      (local_declaration p))))

  debugger_or : Place → Lexeme → Parser Stmt
  debugger_or p t = when (is_word word.DEBUGGER t.kind) (step parser.debugger_of) (parser.declaration_stmt b p)

  empty_or : Place → Lexeme → Parser Stmt
  empty_or p t = when (is_mark mark.SEMICOLON t.kind) (step (ret tree.Empty)) (debugger_or p t)

  pub eats_stmt : (p : Place) → Eats (parser.stmt_of b p)
  unfolding parser.stmt_of debugger_or empty_or
  eats_stmt p = eats_peek (λ t. when (is_mark mark.OPEN_BRACE t.kind) (step (parser.block_stmt b (is_inside p))) (empty_or p t)) ((eats_declaration p).each [])
      (λ t ts. ate_when (step (parser.block_stmt b (is_inside p))) (empty_or p t) (is_mark mark.OPEN_BRACE t.kind) t ts (ate_step (parser.block_stmt b (is_inside p)) (local_block b l (is_inside p)) t ts)
      (ate_when (step (ret tree.Empty)) (debugger_or p t) (is_mark mark.SEMICOLON t.kind) t ts (ate_step (ret tree.Empty) (local_ret tree.Empty) t ts)
      (ate_or parser.debugger_of (parser.declaration_stmt b p) (is_word word.DEBUGGER t.kind) t ts (local_debugger b.exprs l.uses) (eats_declaration p))))
