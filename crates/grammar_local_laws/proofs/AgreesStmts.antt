-- Parsers of statements that differ in how they read braced bodies agree, over calls that agree.
use Rattle.std.proofs.Common.{◌≡◌, ℕ, List, [], ◌∷◌, ◌++◌, refl, sym, ap, ◌∙◌, Bool, true, false, ◌&&◌, ◌||◌, not, nat_le, Option, Some, None}
use Rattle.script_grammar.specs.declared.token.FuncForm.{FuncForm}
use Rattle.script_grammar.specs.declared.token.FuncForm.TheVariants as form
use Rattle.script_grammar.specs.declared.token.mark.TheConstants as mark
use Rattle.script_grammar.specs.declared.token.word.TheConstants as word
use Rattle.script_grammar.specs.declared.token.Decl.{Decl}
use Rattle.script_grammar.specs.declared.token.Decl.TheVariants as decl
use Rattle.script_grammar.specs.Kinds.{is_mark, is_word, is_name, is_end}
use Rattle.script_grammar.specs.Pieces.{Ending, BareBinding, Keyword, DoWhile, may_omit}
use Rattle.script_grammar.specs.Endings.{ending, return_ending, binds_ending}
use Rattle.script_grammar.specs.Proper.{rank, left_rank, takes_else}
use Rattle.script_grammar.specs.Tree.{Named, Expr, Init, Each, Stmt, Stmts, Body}
use Rattle.script_grammar.specs.Tree as tree
use Rattle.script_grammar.specs.TreeLists.{Bind, Clause, maybe_expr_of, maybe_stmt_of, binds_of, stmts_of, clauses_of}
use Rattle.grammar_parser_specs.specs.Parser.{Recorded, Reply, ret, bind, Turn, Again, Stop}
use Rattle.grammar_parser_specs.specs.Exprs.{Env, AnAssign, BodyRead, named}
use Rattle.grammar_parser_specs.specs.Stmts as parser
use Rattle.grammar_parser_specs.specs.Stmts.{Place, AnItem, AStmt, StmtCalls, Block, is_item, is_inside, bound, clause}
use Rattle.grammar_local_laws.proofs.Agrees.{Agrees, TurnK, ListK, ManyK, agrees_bind, agrees_ret, agrees_bad, agrees_peek, agrees_step, agrees_when, agrees_if, agrees_made, agrees_loop, agrees_led}
use Rattle.grammar_local_laws.proofs.Alike.{AnyK, SameK, OptionK, ExprK, BindK, StmtK, ClauseK, list_append, maybe_same, binds_same, stmts_same, clauses_same, else_same, all_binds, return_alike, else_alike}
use Rattle.grammar_parser_specs.specs.Filling.{fill, fill_maybe, fill_init, fill_each, fill_stmt, fill_stmts}
use Rattle.grammar_local_laws.proofs.AgreesExprs.{AgreesEnv, done, agrees_two, expect_agrees, name_agrees, expr_agrees, function_agrees}

module _ (bodies : ℕ → Body) where
  abbrev pub StmtTurn : Turn Stmt (Unit {0}) → Turn Stmt (Unit {0}) → Type 0
  StmtTurn a b = TurnK (StmtK bodies) AnyK a b

  abbrev pub BindTurn : Turn Bind (Unit {0}) → Turn Bind (Unit {0}) → Type 0
  BindTurn a b = TurnK (BindK bodies) AnyK a b

  abbrev pub ClauseTurn : Turn Clause (Option Clause) → Turn Clause (Option Clause) → Type 0
  ClauseTurn a b = TurnK (ClauseK bodies) (OptionK (ClauseK bodies)) a b

  abbrev CaseTurn : Turn Clause (Unit {0}) → Turn Clause (Unit {0}) → Type 0
  CaseTurn a b = TurnK (ClauseK bodies) AnyK a b

  -- statements as a tree has them
  abbrev pub StmtsK : Stmts → Stmts → Type 0
  StmtsK a b = b ≡ fill_stmts bodies a

  -- a body that both read in place
  pub record OwnK (a b : BodyRead) : Type 0 where
    pub items : Stmts
    pub first : a.body ≡ tree.BracedBody items
    pub second : b.body ≡ tree.BracedBody (fill_stmts bodies items)
    pub ends : b.end ≡ a.end

  module _ {C : Type 0} (judge : Recorded → Reply C) where
    pub record AgreesBlock (b c : Block) : Type 0 where
      pub exprs : AgreesEnv bodies judge b.exprs c.exprs
      pub stmt : (p : Place) → Agrees judge (StmtK bodies) (b.stmt p) (c.stmt p)
      pub label : Agrees judge SameK b.label c.label

    word_agrees : (i : ℕ) → Agrees judge AnyK (parser.expect_word i) (parser.expect_word i)
    unfolding parser.expect_word
    word_agrees i = agrees_peek judge (λ t. agrees_when judge (is_word i t.kind) (agrees_step judge (agrees_ret judge tt)) (agrees_bad judge))

    semi_agrees : (x y : Ending) → x ≡ y → Agrees judge SameK (parser.semi_of x) (parser.semi_of y)
    unfolding parser.semi_of
    semi_agrees x y e = agrees_peek judge (λ t. agrees_when judge (is_mark mark.SEMICOLON t.kind) (agrees_step judge (done bodies judge true true refl)) (agrees_if judge (may_omit x t) (may_omit y t) (ap (λ z. may_omit z t) (sym e)) (done bodies judge false false refl) (agrees_bad judge)))

    -- a statement that takes no `else`, made of a semicolon
    semi_stmt : (x y : Ending) → x ≡ y → (f g : Bool → Stmt) → ((a b : Bool) → takes_else (f a) ≡ takes_else (g b)) → ((a : Bool) → g a ≡ fill_stmt bodies (f a)) → Agrees judge (StmtK bodies) (bind (parser.semi_of x) (λ b. ret (f b))) (bind (parser.semi_of y) (λ b. ret (g b)))
    semi_stmt x y e f g h k = agrees_made judge f g (semi_agrees x y e) (λ a b q. record { takes = h a b; same = ap g q ∙ k a })

    pub end_agrees : {A B : Type 0} (K : A → B → Type 0) (a : A) (b : B) → K a b → Agrees judge K (parser.end_of a) (parser.end_of b)
    unfolding parser.end_of
    end_agrees K a b k = agrees_peek judge (λ t. agrees_when judge (is_end t.kind) (done bodies judge a b k) (agrees_bad judge))

    -- lists of statements

    module _ (f g : StmtCalls) (s : (p : Place) → Agrees judge (StmtK bodies) (f p) (g p)) where
      stmt_turn_agrees : (i : Bool) → Agrees judge StmtTurn (parser.stmt_turn f i) (parser.stmt_turn g i)
      unfolding parser.stmt_turn
      stmt_turn_agrees i = agrees_peek judge (λ t. agrees_when judge (parser.ends_items t.kind) (done bodies judge (Stop tt) (Stop tt) tt) (agrees_made judge Again Again (s (AnItem i)) (λ a b k. k)))

      pub stmts_agrees : (i : Bool) → Agrees judge (ListK (StmtK bodies)) (parser.stmts_from f i) (parser.stmts_from g i)
      unfolding parser.stmts_from
      stmts_agrees i = agrees_made judge (λ m. m.items) (λ m. m.items) (agrees_loop judge (stmt_turn_agrees i)) (λ m n q. q.0)

      pub braced_from_agrees : (i : Bool) → Agrees judge StmtsK (parser.braced_from f i) (parser.braced_from g i)
      unfolding parser.braced_from
      braced_from_agrees i = agrees_bind judge (stmts_agrees i) (λ a b k. agrees_made judge (λ _. stmts_of a) (λ _. stmts_of b) (expect_agrees bodies judge mark.CLOSE_BRACE) (λ _ _ _. stmts_same bodies a b k))

      pub braced_agrees : (i : Bool) → Agrees judge StmtsK (parser.braced_of f i) (parser.braced_of g i)
      unfolding parser.braced_of
      braced_agrees i = agrees_bind judge (expect_agrees bodies judge mark.OPEN_BRACE) (λ _ _ _. braced_from_agrees i)

      close_agrees : (a b : List Stmt) → ListK (StmtK bodies) a b → Agrees judge OwnK (parser.close_body a) (parser.close_body b)
      unfolding parser.close_body
      close_agrees a b k = agrees_peek judge (λ t. agrees_when judge (is_mark mark.CLOSE_BRACE t.kind) (agrees_step judge (done bodies judge (record { body = tree.BracedBody (stmts_of a); end = t.end }) (record { body = tree.BracedBody (stmts_of b); end = t.end }) (record { items = stmts_of a; first = refl; second = ap tree.BracedBody (stmts_same bodies a b k); ends = refl }))) (agrees_bad judge))

      -- a body that both read in place
      pub reading_agrees : (f1 f2 : FuncForm) (start1 start2 : ℕ) (simple1 simple2 : Bool) → Agrees judge OwnK (parser.reading f f1 start1 simple1) (parser.reading g f2 start2 simple2)
      unfolding parser.reading
      reading_agrees f1 f2 start1 start2 simple1 simple2 = agrees_bind judge (expect_agrees bodies judge mark.OPEN_BRACE) (λ _ _ _. agrees_bind judge (stmts_agrees true) close_agrees)

      pub script_agrees : Agrees judge StmtsK (parser.script_of f) (parser.script_of g)
      unfolding parser.script_of
      script_agrees = agrees_bind judge (stmts_agrees false) (λ a b k. end_agrees StmtsK (stmts_of a) (stmts_of b) (stmts_same bodies a b k))

    -- bindings

    module _ (v u : Env) (s : AgreesEnv bodies judge v u) where
      parens_agrees : Agrees judge (ExprK bodies) (parser.parens_of v) (parser.parens_of u)
      unfolding parser.parens_of
      parens_agrees = agrees_bind judge (expect_agrees bodies judge mark.OPEN_PAREN) (λ _ _ _. agrees_bind judge (expr_agrees bodies judge v u s true) (λ a b k. agrees_made judge (λ _. a) (λ _. b) (expect_agrees bodies judge mark.CLOSE_PAREN) (λ _ _ _. k)))

      value_agrees : (w : Bool) → Agrees judge (OptionK (ExprK bodies)) (parser.value_of v w) (parser.value_of u w)
      unfolding parser.value_of
      value_agrees w = agrees_peek judge (λ t. agrees_when judge (is_mark mark.ASSIGN t.kind) (agrees_step judge (agrees_made judge Some Some (s.sub (AnAssign w)) (λ a b k. k))) (done bodies judge None None tt))

      bind_from_agrees : (w : Bool) (n m : Named) → m ≡ n → Agrees judge (BindK bodies) (parser.bind_from v w n) (parser.bind_from u w m)
      unfolding parser.bind_from
      bind_from_agrees w n m e = agrees_made judge (bound n) (bound m) (value_agrees w) (λ o p k. record { names = e; values = k })

      bind_agrees : (w : Bool) → Agrees judge (BindK bodies) (parser.bind_of v w) (parser.bind_of u w)
      unfolding parser.bind_of
      bind_agrees w = agrees_bind judge (name_agrees bodies judge) (λ n m e. bind_from_agrees w n m e)

      bind_turn_agrees : (w : Bool) → Agrees judge BindTurn (parser.bind_turn v w) (parser.bind_turn u w)
      unfolding parser.bind_turn
      bind_turn_agrees w = agrees_peek judge (λ t. agrees_when judge (is_mark mark.COMMA t.kind) (agrees_step judge (agrees_made judge Again Again (bind_agrees w) (λ a b k. k))) (done bodies judge (Stop tt) (Stop tt) tt))

      binds_agrees : (w : Bool) (n m : Named) → m ≡ n → Agrees judge (ManyK (BindK bodies) AnyK) (parser.binds_from v w n) (parser.binds_from u w m)
      unfolding parser.binds_from
      binds_agrees w n m e = agrees_bind judge (bind_from_agrees w n m e) (λ a b k. agrees_led judge (bind_turn_agrees w) a b k)

      binding_agrees : (d : Decl) → Agrees judge (StmtK bodies) (parser.binding_of v d) (parser.binding_of u d)
      unfolding parser.binding_of
      binding_agrees d = agrees_bind judge (name_agrees bodies judge) (λ n m e. agrees_bind judge (binds_agrees true n m e) (λ a b q. semi_stmt (binds_ending BareBinding (binds_of a.items)) (binds_ending BareBinding (binds_of b.items)) (all_binds bodies a.items b.items q.0) (tree.Binding d (binds_of a.items)) (tree.Binding d (binds_of b.items)) (λ _ _. refl) (λ z. ap (λ x. tree.Binding d x z) (binds_same bodies a.items b.items q.0))))

      declared_agrees : Agrees judge (StmtK bodies) (parser.declared_of v) (parser.declared_of u)
      unfolding parser.declared_of
      declared_agrees = agrees_bind judge (name_agrees bodies judge) (λ n m e. agrees_made judge tree.Declared tree.Declared (function_agrees bodies judge v u s form.Function (Some n) (Some m) (ap Some e)) (λ a b k. record { takes = refl; same = ap tree.Declared k.same }))

      value_stmt_agrees : Agrees judge (StmtK bodies) (parser.value_stmt v) (parser.value_stmt u)
      unfolding parser.value_stmt
      value_stmt_agrees = agrees_bind judge (expr_agrees bodies judge v u s true) (λ a b k. semi_stmt (ending a) (ending b) k.endings (tree.Value a) (tree.Value b) (λ _ _. refl) (λ z. ap (λ x. tree.Value x z) k.same))

      option_agrees : (m : ℕ) → Agrees judge (OptionK (ExprK bodies)) (parser.option_of v m) (parser.option_of u m)
      unfolding parser.option_of
      option_agrees m = agrees_peek judge (λ t. agrees_when judge (is_mark m t.kind) (done bodies judge None None tt) (agrees_made judge Some Some (expr_agrees bodies judge v u s true) (λ a b k. k)))

      returned_agrees : Agrees judge (OptionK (ExprK bodies)) (parser.returned_of v) (parser.returned_of u)
      unfolding parser.returned_of
      returned_agrees = agrees_peek judge (λ t. agrees_when judge (parser.ends_return t) (done bodies judge None None tt) (agrees_made judge Some Some (expr_agrees bodies judge v u s true) (λ a b k. k)))

      return_agrees : Agrees judge (StmtK bodies) (parser.return_of v) (parser.return_of u)
      unfolding parser.return_of
      return_agrees = agrees_bind judge returned_agrees (λ o p k. semi_stmt (return_ending (maybe_expr_of o)) (return_ending (maybe_expr_of p)) (return_alike bodies o p k) (tree.Return (maybe_expr_of o)) (tree.Return (maybe_expr_of p)) (λ _ _. refl) (λ z. ap (λ x. tree.Return x z) (maybe_same bodies o p k)))

      thrown_agrees : Agrees judge (ExprK bodies) (parser.thrown_of v) (parser.thrown_of u)
      unfolding parser.thrown_of
      thrown_agrees = agrees_peek judge (λ t. agrees_when judge t.after_line (agrees_bad judge) (expr_agrees bodies judge v u s true))

      throw_agrees : Agrees judge (StmtK bodies) (parser.throw_of v) (parser.throw_of u)
      unfolding parser.throw_of
      throw_agrees = agrees_bind judge thrown_agrees (λ a b k. semi_stmt (ending a) (ending b) k.endings (tree.Throw a) (tree.Throw b) (λ _ _. refl) (λ z. ap (λ x. tree.Throw x z) k.same))

    debugger_agrees : Agrees judge (StmtK bodies) parser.debugger_of parser.debugger_of
    unfolding parser.debugger_of
    debugger_agrees = semi_stmt Keyword Keyword refl tree.Debugger tree.Debugger (λ _ _. refl) (λ _. refl)

    label_name_agrees : Agrees judge SameK parser.label_name parser.label_name
    unfolding parser.label_name
    label_name_agrees = agrees_peek judge (λ t. agrees_when judge (is_name t.kind && not t.after_line) (agrees_step judge (done bodies judge (Some (named t)) (Some (named t)) refl)) (done bodies judge None None refl))

    continue_agrees : (at : ℕ) → Agrees judge (StmtK bodies) (parser.continue_of at) (parser.continue_of at)
    unfolding parser.continue_of
    continue_agrees at = agrees_bind judge label_name_agrees (λ l m e. semi_stmt Keyword Keyword refl (tree.Continue at l) (tree.Continue at m) (λ _ _. refl) (λ z. ap (λ x. tree.Continue at x z) e))

    break_agrees : (at : ℕ) → Agrees judge (StmtK bodies) (parser.break_of at) (parser.break_of at)
    unfolding parser.break_of
    break_agrees at = agrees_bind judge label_name_agrees (λ l m e. semi_stmt Keyword Keyword refl (tree.Break at l) (tree.Break at m) (λ _ _. refl) (λ z. ap (λ x. tree.Break at x z) e))

    catch_name_agrees : Agrees judge SameK parser.catch_name parser.catch_name
    unfolding parser.catch_name
    catch_name_agrees = agrees_bind judge (name_agrees bodies judge) (λ n m e. agrees_made judge (λ _. n) (λ _. m) (expect_agrees bodies judge mark.CLOSE_PAREN) (λ _ _ _. e))

    catch_param_agrees : Agrees judge SameK parser.catch_param parser.catch_param
    unfolding parser.catch_param
    catch_param_agrees = agrees_peek judge (λ t. agrees_when judge (is_mark mark.OPEN_PAREN t.kind) (agrees_step judge (agrees_made judge Some Some catch_name_agrees (λ a b k. ap Some k))) (done bodies judge None None refl))

    -- statements

    module _ (b c : Block) (s : AgreesBlock b c) where
      parens : Agrees judge (ExprK bodies) (parser.parens_of b.exprs) (parser.parens_of c.exprs)
      parens = parens_agrees b.exprs c.exprs s.exprs

      else_agrees : (i : Bool) → Agrees judge (OptionK (StmtK bodies)) (parser.else_of b i) (parser.else_of c i)
      unfolding parser.else_of
      else_agrees i = agrees_peek judge (λ t. agrees_when judge (is_word word.ELSE t.kind) (agrees_step judge (agrees_made judge Some Some (s.stmt (AStmt i)) (λ x y k. k))) (done bodies judge None None tt))

      else_behind_agrees : (i : Bool) (x y : Stmt) → StmtK bodies x y → Agrees judge (OptionK (StmtK bodies)) (parser.else_behind b i x) (parser.else_behind c i y)
      else_behind_agrees i x y k = agrees_if judge (takes_else x) (takes_else y) (sym k.takes) (done bodies judge None None tt) (else_agrees i)

      if_agrees : (i : Bool) → Agrees judge (StmtK bodies) (parser.if_of b i) (parser.if_of c i)
      unfolding parser.if_of
      if_agrees i = agrees_bind judge parens (λ e f r. agrees_bind judge (s.stmt (AStmt i)) (λ x y k. agrees_made judge (λ o. tree.If e x (maybe_stmt_of o)) (λ o. tree.If f y (maybe_stmt_of o)) (else_behind_agrees i x y k) (λ o p j. record { takes = else_alike bodies o p j; same = ap (λ z. tree.If z y (maybe_stmt_of p)) r.same ∙ ap (λ z. tree.If (fill bodies e) z (maybe_stmt_of p)) k.same ∙ ap (tree.If (fill bodies e) (fill_stmt bodies x)) (else_same bodies o p j) })))

      while_agrees : (i : Bool) → Agrees judge (StmtK bodies) (parser.while_of b i) (parser.while_of c i)
      unfolding parser.while_of
      while_agrees i = agrees_bind judge parens (λ e f r. agrees_made judge (tree.While e) (tree.While f) (s.stmt (AStmt i)) (λ x y k. record { takes = k.takes; same = ap (λ z. tree.While z y) r.same ∙ ap (tree.While (fill bodies e)) k.same }))

      do_agrees : (i : Bool) → Agrees judge (StmtK bodies) (parser.do_of b i) (parser.do_of c i)
      unfolding parser.do_of
      do_agrees i = agrees_bind judge (s.stmt (AStmt i)) (λ x y k. agrees_bind judge (word_agrees word.WHILE) (λ _ _ _. agrees_bind judge parens (λ e f r. semi_stmt DoWhile DoWhile refl (tree.Do x e) (tree.Do y f) (λ _ _. refl) (λ z. ap (λ q. tree.Do q f z) k.same ∙ ap (λ q. tree.Do (fill_stmt bodies x) q z) r.same))))

      for_from_agrees : (i : Bool) (m n : Init) → n ≡ fill_init bodies m → Agrees judge (StmtK bodies) (parser.for_from b i m) (parser.for_from c i n)
      unfolding parser.for_from
      for_from_agrees i m n e =
          agrees_bind judge (expect_agrees bodies judge mark.SEMICOLON) (λ _ _ _. agrees_bind judge (option_agrees b.exprs c.exprs s.exprs mark.SEMICOLON) (λ x x2 j.
          agrees_bind judge (expect_agrees bodies judge mark.SEMICOLON) (λ _ _ _. agrees_bind judge (option_agrees b.exprs c.exprs s.exprs mark.CLOSE_PAREN) (λ y y2 k.
          agrees_bind judge (expect_agrees bodies judge mark.CLOSE_PAREN) (λ _ _ _. agrees_made judge (tree.For m (maybe_expr_of x) (maybe_expr_of y)) (tree.For n (maybe_expr_of x2) (maybe_expr_of y2)) (s.stmt (AStmt i)) (λ p q r. record { takes = r.takes; same = ap (λ z. tree.For z (maybe_expr_of x2) (maybe_expr_of y2) q) e ∙ ap (λ z. tree.For (fill_init bodies m) z (maybe_expr_of y2) q) (maybe_same bodies x x2 j) ∙ ap (λ z. tree.For (fill_init bodies m) (fill_maybe bodies (maybe_expr_of x)) z q) (maybe_same bodies y y2 k) ∙ ap (tree.For (fill_init bodies m) (fill_maybe bodies (maybe_expr_of x)) (fill_maybe bodies (maybe_expr_of y))) r.same }))))))

      for_in_agrees : (i : Bool) (m n : Each) → n ≡ fill_each bodies m → Agrees judge (StmtK bodies) (parser.for_in_from b i m) (parser.for_in_from c i n)
      unfolding parser.for_in_from
      for_in_agrees i m n q = agrees_bind judge (expr_agrees bodies judge b.exprs c.exprs s.exprs true) (λ e f r. agrees_bind judge (expect_agrees bodies judge mark.CLOSE_PAREN) (λ _ _ _. agrees_made judge (tree.ForIn m e) (tree.ForIn n f) (s.stmt (AStmt i)) (λ x y k. record { takes = k.takes; same = ap (λ z. tree.ForIn z f y) q ∙ ap (λ z. tree.ForIn (fill_each bodies m) z y) r.same ∙ ap (tree.ForIn (fill_each bodies m) (fill bodies e)) k.same })))

      for_named_agrees : (i : Bool) (d : Decl) (n m : Named) → m ≡ n → Agrees judge (StmtK bodies) (parser.for_named b i d n) (parser.for_named c i d m)
      unfolding parser.for_named
      for_named_agrees i d n m e = agrees_peek judge (λ t. agrees_when judge (is_word word.IN t.kind)
          (agrees_step judge (for_in_agrees i (tree.BindEach d n) (tree.BindEach d m) (ap (tree.BindEach d) e)))
          (agrees_bind judge (binds_agrees b.exprs c.exprs s.exprs false n m e) (λ x y k. for_from_agrees i (tree.BindsInit d (binds_of x.items)) (tree.BindsInit d (binds_of y.items)) (ap (tree.BindsInit d) (binds_same bodies x.items y.items k.0)))))

      for_decl_agrees : (i : Bool) (d : Decl) → Agrees judge (StmtK bodies) (parser.for_decl b i d) (parser.for_decl c i d)
      unfolding parser.for_decl
      for_decl_agrees i d = agrees_bind judge (name_agrees bodies judge) (λ n m e. for_named_agrees i d n m e)

      for_valued_agrees : (i : Bool) (x y : Expr) → ExprK bodies x y → Agrees judge (StmtK bodies) (parser.for_valued b i x) (parser.for_valued c i y)
      unfolding parser.for_valued
      for_valued_agrees i x y k = agrees_peek judge (λ t. agrees_if judge (is_word word.IN t.kind && nat_le (rank x) left_rank) (is_word word.IN t.kind && nat_le (rank y) left_rank) (ap (λ r. is_word word.IN t.kind && nat_le r left_rank) (sym k.ranks))
          (agrees_step judge (for_in_agrees i (tree.TargetEach x) (tree.TargetEach y) (ap tree.TargetEach k.same)))
          (for_from_agrees i (tree.ValueInit x) (tree.ValueInit y) (ap tree.ValueInit k.same)))

      for_head_agrees : (i : Bool) → Agrees judge (StmtK bodies) (parser.for_head b i) (parser.for_head c i)
      unfolding parser.for_head
      for_head_agrees i = agrees_peek judge (λ t.
          agrees_when judge (is_mark mark.SEMICOLON t.kind) (for_from_agrees i tree.NoInit tree.NoInit refl)
          (agrees_when judge (is_word word.VAR t.kind) (agrees_step judge (for_decl_agrees i decl.Var))
          (agrees_when judge (is_word word.LET t.kind) (agrees_step judge (for_decl_agrees i decl.Let))
          (agrees_when judge (is_word word.CONST t.kind) (agrees_step judge (for_decl_agrees i decl.Const))
          (agrees_bind judge (expr_agrees bodies judge b.exprs c.exprs s.exprs false) (for_valued_agrees i))))))

      for_agrees : (i : Bool) → Agrees judge (StmtK bodies) (parser.for_of b i) (parser.for_of c i)
      unfolding parser.for_of
      for_agrees i = agrees_bind judge (expect_agrees bodies judge mark.OPEN_PAREN) (λ _ _ _. for_head_agrees i)

      -- clauses

      case_agrees : (i : Bool) → Agrees judge (ClauseK bodies) (parser.case_of b i) (parser.case_of c i)
      unfolding parser.case_of
      case_agrees i = agrees_bind judge (expr_agrees bodies judge b.exprs c.exprs s.exprs true) (λ e f k. agrees_bind judge (expect_agrees bodies judge mark.COLON) (λ _ _ _. agrees_made judge (clause (Some e)) (clause (Some f)) (stmts_agrees b.stmt c.stmt s.stmt i) (λ x y j. record { tests = k; items = j })))

      default_agrees : (i : Bool) → Agrees judge (ClauseK bodies) (parser.default_of b i) (parser.default_of c i)
      unfolding parser.default_of
      default_agrees i = agrees_bind judge (expect_agrees bodies judge mark.COLON) (λ _ _ _. agrees_made judge (clause None) (clause None) (stmts_agrees b.stmt c.stmt s.stmt i) (λ x y j. record { tests = tt; items = j }))

      case_turn_agrees : (i : Bool) → Agrees judge CaseTurn (parser.case_turn b i) (parser.case_turn c i)
      unfolding parser.case_turn
      case_turn_agrees i = agrees_peek judge (λ t. agrees_when judge (is_word word.CASE t.kind) (agrees_step judge (agrees_made judge Again Again (case_agrees i) (λ x y k. k))) (done bodies judge (Stop tt) (Stop tt) tt))

      clause_turn_agrees : (i : Bool) → Agrees judge ClauseTurn (parser.clause_turn b i) (parser.clause_turn c i)
      unfolding parser.clause_turn
      clause_turn_agrees i = agrees_peek judge (λ t.
          agrees_when judge (is_word word.CASE t.kind) (agrees_step judge (agrees_made judge Again Again (case_agrees i) (λ x y k. k)))
          (agrees_when judge (is_word word.DEFAULT t.kind) (agrees_step judge (agrees_made judge (λ x. Stop (Some x)) (λ x. Stop (Some x)) (default_agrees i) (λ x y k. k))) (done bodies judge (Stop None) (Stop None) tt)))

      more_clauses_agrees : (i : Bool) (o p : Option Clause) → OptionK (ClauseK bodies) o p → Agrees judge (ListK (ClauseK bodies)) (parser.more_clauses b i o) (parser.more_clauses c i p)
      unfolding parser.more_clauses
      more_clauses_agrees i None None k = done bodies judge [] [] tt
      more_clauses_agrees i None (Some y) k = absurd k
      more_clauses_agrees i (Some x) None k = absurd k
      more_clauses_agrees i (Some x) (Some y) k = agrees_made judge (λ m. x ∷ m.items) (λ m. y ∷ m.items) (agrees_loop judge (case_turn_agrees i)) (λ m n q. (k, q.0))

      clauses_agrees : (i : Bool) → Agrees judge (ListK (ClauseK bodies)) (parser.clauses_from b i) (parser.clauses_from c i)
      unfolding parser.clauses_from
      clauses_agrees i = agrees_bind judge (agrees_loop judge (clause_turn_agrees i)) (λ m n q. agrees_made judge (λ x. m.items ++ x) (λ x. n.items ++ x) (more_clauses_agrees i m.last n.last q.1) (λ x y k. list_append (ClauseK bodies) m.items x n.items y q.0 k))

      switch_agrees : (i : Bool) → Agrees judge (StmtK bodies) (parser.switch_of b i) (parser.switch_of c i)
      unfolding parser.switch_of
      switch_agrees i = agrees_bind judge parens (λ e f k. agrees_bind judge (expect_agrees bodies judge mark.OPEN_BRACE) (λ _ _ _. agrees_bind judge (clauses_agrees i) (λ x y j. agrees_made judge (λ _. tree.Switch e (clauses_of x)) (λ _. tree.Switch f (clauses_of y)) (expect_agrees bodies judge mark.CLOSE_BRACE) (λ _ _ _. record { takes = refl; same = ap (λ z. tree.Switch z (clauses_of y)) k.same ∙ ap (tree.Switch (fill bodies e)) (clauses_same bodies x y j) }))))

      try_agrees : (i : Bool) → Agrees judge (StmtK bodies) (parser.try_of b i) (parser.try_of c i)
      unfolding parser.try_of
      try_agrees i = agrees_bind judge (braced_agrees b.stmt c.stmt s.stmt i) (λ x y k. agrees_bind judge (word_agrees word.CATCH) (λ _ _ _. agrees_bind judge catch_param_agrees (λ p q e. agrees_made judge (tree.Try x p) (tree.Try y q) (braced_agrees b.stmt c.stmt s.stmt i) (λ h g j. record { takes = refl; same = ap (λ z. tree.Try z q g) k ∙ ap (λ z. tree.Try (fill_stmts bodies x) z g) e ∙ ap (tree.Try (fill_stmts bodies x) p) j }))))

      labelled_agrees : (i : Bool) → Agrees judge (StmtK bodies) (parser.labelled_of b i) (parser.labelled_of c i)
      unfolding parser.labelled_of
      labelled_agrees i = agrees_bind judge s.label (λ n m e. agrees_bind judge (expect_agrees bodies judge mark.COLON) (λ _ _ _. agrees_made judge (tree.Label n) (tree.Label m) (s.stmt (AStmt i)) (λ x y k. record { takes = k.takes; same = ap (λ z. tree.Label z y) e ∙ ap (tree.Label n) k.same })))

      -- any statement

      plain_agrees : (i : Bool) → Agrees judge (StmtK bodies) (parser.plain_stmt b i) (parser.plain_stmt c i)
      unfolding parser.plain_stmt
      plain_agrees i = agrees_two bodies judge (λ t u. agrees_when judge (parser.is_label t u) (labelled_agrees i) (agrees_when judge (is_word word.FUNCTION t.kind || is_mark mark.OPEN_BRACE t.kind) (agrees_bad judge) (value_stmt_agrees b.exprs c.exprs s.exprs)))

      block_agrees : (i : Bool) → Agrees judge (StmtK bodies) (parser.block_stmt b i) (parser.block_stmt c i)
      unfolding parser.block_stmt
      block_agrees i = agrees_made judge tree.Block tree.Block (braced_from_agrees b.stmt c.stmt s.stmt i) (λ x y k. record { takes = refl; same = ap tree.Block k })

      jump_agrees : (p : Place) → Agrees judge (StmtK bodies) (parser.jump_stmt b p) (parser.jump_stmt c p)
      unfolding parser.jump_stmt
      jump_agrees p = agrees_peek judge (λ t.
          agrees_when judge (is_word word.CONTINUE t.kind) (agrees_step judge (continue_agrees t.start))
          (agrees_when judge (is_word word.BREAK t.kind) (agrees_step judge (break_agrees t.start))
          (agrees_when judge (is_word word.RETURN t.kind && is_inside p) (agrees_step judge (return_agrees b.exprs c.exprs s.exprs))
          (agrees_when judge (is_word word.THROW t.kind) (agrees_step judge (throw_agrees b.exprs c.exprs s.exprs)) (plain_agrees (is_inside p))))))

      nested_agrees : (p : Place) → Agrees judge (StmtK bodies) (parser.nested_stmt b p) (parser.nested_stmt c p)
      unfolding parser.nested_stmt
      nested_agrees p = agrees_peek judge (λ t.
          agrees_when judge (is_word word.IF t.kind) (agrees_step judge (if_agrees (is_inside p)))
          (agrees_when judge (is_word word.WHILE t.kind) (agrees_step judge (while_agrees (is_inside p)))
          (agrees_when judge (is_word word.DO t.kind) (agrees_step judge (do_agrees (is_inside p)))
          (agrees_when judge (is_word word.FOR t.kind) (agrees_step judge (for_agrees (is_inside p)))
          (agrees_when judge (is_word word.SWITCH t.kind) (agrees_step judge (switch_agrees (is_inside p)))
          (agrees_when judge (is_word word.TRY t.kind) (agrees_step judge (try_agrees (is_inside p))) (jump_agrees p)))))))

      declaration_agrees : (p : Place) → Agrees judge (StmtK bodies) (parser.declaration_stmt b p) (parser.declaration_stmt c p)
      unfolding parser.declaration_stmt
      declaration_agrees p = agrees_peek judge (λ t.
          agrees_when judge (is_word word.VAR t.kind) (agrees_step judge (binding_agrees b.exprs c.exprs s.exprs decl.Var))
          (agrees_when judge (is_word word.LET t.kind && is_item p) (agrees_step judge (binding_agrees b.exprs c.exprs s.exprs decl.Let))
          (agrees_when judge (is_word word.CONST t.kind && is_item p) (agrees_step judge (binding_agrees b.exprs c.exprs s.exprs decl.Const))
          (agrees_when judge (is_word word.FUNCTION t.kind && is_item p) (agrees_step judge (declared_agrees b.exprs c.exprs s.exprs)) (nested_agrees p)))))

      pub stmt_agrees : (p : Place) → Agrees judge (StmtK bodies) (parser.stmt_of b p) (parser.stmt_of c p)
      unfolding parser.stmt_of
      stmt_agrees p = agrees_peek judge (λ t.
          agrees_when judge (is_mark mark.OPEN_BRACE t.kind) (agrees_step judge (block_agrees (is_inside p)))
          (agrees_when judge (is_mark mark.SEMICOLON t.kind) (agrees_step judge (done bodies judge tree.Empty tree.Empty (record { takes = refl; same = refl })))
          (agrees_when judge (is_word word.DEBUGGER t.kind) (agrees_step judge debugger_agrees) (declaration_agrees p))))
