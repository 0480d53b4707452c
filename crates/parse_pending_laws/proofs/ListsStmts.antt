-- What parsers of statements read lists the bodies that were recorded, over calls of which that holds.
use Rattle.std.proofs.Common.{◌≡◌, ℕ, List, [], ◌∷◌, ◌++◌, refl, sym, ap, ◌∙◌, Bool, true, false, ◌&&◌, ◌||◌, not, nat_le, Option, Some, None}
use Rattle.script_grammar.specs.declared.token.FuncForm.{FuncForm}
use Rattle.script_grammar.specs.declared.token.FuncForm.TheVariants as form
use Rattle.script_grammar.specs.declared.token.mark.TheConstants as mark
use Rattle.script_grammar.specs.declared.token.word.TheConstants as word
use Rattle.script_grammar.specs.declared.token.Decl.{Decl}
use Rattle.script_grammar.specs.declared.token.Decl.TheVariants as decl
use Rattle.script_grammar.specs.Kinds.{is_mark, is_word, is_name, is_end}
use Rattle.script_grammar.specs.Pieces.{Ending, BareBinding, Keyword, DoWhile, may_omit}
use Rattle.script_grammar.specs.Endings.{ending, return_ending, binds_ending}
use Rattle.script_grammar.specs.Proper.{rank, left_rank, takes_else}
use Rattle.script_grammar.specs.Tree.{Named, Expr, Init, Each, Stmt, Stmts, Body}
use Rattle.script_grammar.specs.Tree as tree
use Rattle.script_grammar.specs.TreeLists.{Clause, maybe_expr_of, maybe_stmt_of, binds_of, stmts_of, clauses_of}
use Rattle.grammar_parser_specs.specs.Parser.{Recorded, Reply, ret, bind, Again, Stop}
use Rattle.grammar_parser_specs.specs.Exprs.{Env, AnAssign, BodyRead, named}
use Rattle.grammar_parser_specs.specs.Stmts as parser
use Rattle.grammar_parser_specs.specs.Stmts.{Place, AnItem, AStmt, StmtCalls, Block, is_item, is_inside, bound, clause}
use Rattle.grammar_local_laws.proofs.Alike.{AnyK, SameK, OptionK, ExprK, BindK, StmtK, ClauseK, list_append, maybe_same, binds_same, stmts_same, clauses_same, else_same, all_binds, return_alike, else_alike}
use Rattle.grammar_parser_specs.specs.Filling.{fill, fill_maybe, fill_init, fill_each, fill_stmt, fill_stmts}
use Rattle.grammar_local_laws.proofs.Agrees.{TurnK, ListK, ManyK}
use Rattle.grammar_local_laws.proofs.AgreesStmts.{StmtTurn, BindTurn, ClauseTurn, StmtsK, OwnK}
use Rattle.script_grammar.specs.Braced.{in_expr, in_maybe_expr, in_init, in_each, in_stmt, in_stmts}
use Rattle.parse_pending_laws.proofs.Lists.{Bodies, as_is, in_none, in_turn, in_list, in_option, in_many, Lists, lists_then, lists_more, lists_made, lists_behind, lists_known, lists_ret, lists_bad, lists_peek, lists_step, lists_when, lists_if, lists_loop, lists_led}
use Rattle.parse_pending_laws.proofs.ListedParts.{in_bind, in_clause, list_both, maybe_listed, binds_listed, stmts_listed, clauses_listed, else_listed}
use Rattle.parse_pending_laws.proofs.ListsExprs.{ListsEnv, lists_two, expect_lists, name_lists, expr_lists, function_lists}

-- the bodies inside a body
abbrev pub in_inside : Bool → Body → List Stmts → List Stmts
in_inside nested (tree.BracedBody items) r = in_stmts nested items r
in_inside nested (tree.ShortBody value) r = in_expr nested value r

abbrev pub in_inner : Bool → Bodies BodyRead
in_inner nested b r = (in_inside nested) b.body r

module _ (nested : Bool) (bodies : ℕ → Body) where
  module _ (judge : Recorded → Reply BodyRead) where
    pub record ListsBlock (b c : Block) : Type 0 where
      pub exprs : ListsEnv nested bodies judge b.exprs c.exprs
      pub stmt : (p : Place) → Lists nested judge (StmtK bodies) as_is (in_stmt nested) (b.stmt p) (c.stmt p)
      pub label : Lists nested judge SameK as_is in_none b.label c.label

    word_lists : (i : ℕ) → Lists nested judge AnyK as_is in_none (parser.expect_word i) (parser.expect_word i)
    unfolding parser.expect_word
    word_lists i = lists_peek nested judge (λ t. lists_when nested judge (is_word i t.kind) (lists_step nested judge (lists_ret nested judge tt tt tt (λ _. refl))) (lists_bad nested judge))

    semi_lists : (x y : Ending) → x ≡ y → Lists nested judge SameK as_is in_none (parser.semi_of x) (parser.semi_of y)
    unfolding parser.semi_of
    semi_lists x y e = lists_peek nested judge (λ t. lists_when nested judge (is_mark mark.SEMICOLON t.kind) (lists_step nested judge (lists_ret nested judge true true refl (λ _. refl))) (lists_if nested judge (may_omit x t) (may_omit y t) (ap (λ z. may_omit z t) (sym e)) (lists_ret nested judge false false refl (λ _. refl)) (lists_bad nested judge)))

    -- a statement that takes no `else`, made of a semicolon
    semi_stmt : {pre : List Stmts → List Stmts} (x y : Ending) → x ≡ y → (f g : Bool → Stmt) → ((a b : Bool) → takes_else (f a) ≡ takes_else (g b)) → ((a : Bool) → g a ≡ fill_stmt bodies (f a)) → ((a : Bool) (r : List Stmts) → pre r ≡ in_stmt nested (f a) r) → Lists nested judge (StmtK bodies) pre (in_stmt nested) (bind (parser.semi_of x) (λ b. ret (f b))) (bind (parser.semi_of y) (λ b. ret (g b)))
    semi_stmt x y e f g h k q = lists_more nested judge f g (semi_lists x y e) (λ a b i. record { takes = h a b; same = ap g i ∙ k a }) q

    pub end_lists : {A B : Type 0} (K : A → B → Type 0) {pre : List Stmts → List Stmts} {w : Bodies A} (a : A) (b : B) → K a b → ((r : List Stmts) → pre r ≡ w a r) → Lists nested judge K pre w (parser.end_of a) (parser.end_of b)
    unfolding parser.end_of
    end_lists K a b k q = lists_peek nested judge (λ t. lists_when nested judge (is_end t.kind) (lists_ret nested judge a b k q) (lists_bad nested judge))

    -- lists of statements

    module _ (f g : StmtCalls) (s : (p : Place) → Lists nested judge (StmtK bodies) as_is (in_stmt nested) (f p) (g p)) where
      stmt_turn_lists : (i : Bool) → Lists nested judge (StmtTurn bodies) as_is (in_turn (in_stmt nested) in_none) (parser.stmt_turn f i) (parser.stmt_turn g i)
      unfolding parser.stmt_turn
      stmt_turn_lists i = lists_peek nested judge (λ t. lists_when nested judge (parser.ends_items t.kind) (lists_ret nested judge (Stop tt) (Stop tt) tt (λ _. refl)) (lists_more nested judge Again Again (s (AnItem i)) (λ a b k. k) (λ _ _. refl)))

      pub stmts_lists : (i : Bool) → Lists nested judge (ListK (StmtK bodies)) as_is (in_list (in_stmt nested)) (parser.stmts_from f i) (parser.stmts_from g i)
      unfolding parser.stmts_from
      stmts_lists i = lists_more nested judge (λ m. m.items) (λ m. m.items) (lists_loop nested judge (stmt_turn_lists i)) (λ m n q. q.0) (λ _ _. refl)

      pub braced_from_lists : (i : Bool) → Lists nested judge (StmtsK bodies) as_is (in_stmts nested) (parser.braced_from f i) (parser.braced_from g i)
      unfolding parser.braced_from
      braced_from_lists i = lists_then nested judge (stmts_lists i) (λ a b k. lists_more nested judge (λ _. stmts_of a) (λ _. stmts_of b) (expect_lists nested bodies judge mark.CLOSE_BRACE) (λ _ _ _. stmts_same bodies a b k) (λ _ r. stmts_listed nested a r))

      pub braced_lists : (i : Bool) → Lists nested judge (StmtsK bodies) as_is (in_stmts nested) (parser.braced_of f i) (parser.braced_of g i)
      unfolding parser.braced_of
      braced_lists i = lists_then nested judge (expect_lists nested bodies judge mark.OPEN_BRACE) (λ _ _ _. braced_from_lists i)

      close_lists : (a b : List Stmt) → ListK (StmtK bodies) a b → Lists nested judge (OwnK bodies) (in_list (in_stmt nested) a) (in_inner nested) (parser.close_body a) (parser.close_body b)
      unfolding parser.close_body
      close_lists a b k = lists_peek nested judge (λ t. lists_when nested judge (is_mark mark.CLOSE_BRACE t.kind) (lists_step nested judge (lists_ret nested judge (record { body = tree.BracedBody (stmts_of a); end = t.end }) (record { body = tree.BracedBody (stmts_of b); end = t.end }) (record { items = stmts_of a; first = refl; second = ap tree.BracedBody (stmts_same bodies a b k); ends = refl }) (stmts_listed nested a))) (lists_bad nested judge))

      -- a body that both read in place
      pub reading_lists : (f1 f2 : FuncForm) (start1 start2 : ℕ) (simple1 simple2 : Bool) → Lists nested judge (OwnK bodies) as_is (in_inner nested) (parser.reading f f1 start1 simple1) (parser.reading g f2 start2 simple2)
      unfolding parser.reading
      reading_lists f1 f2 start1 start2 simple1 simple2 = lists_then nested judge (expect_lists nested bodies judge mark.OPEN_BRACE) (λ _ _ _. lists_then nested judge (stmts_lists true) close_lists)

      pub script_lists : Lists nested judge (StmtsK bodies) as_is (in_stmts nested) (parser.script_of f) (parser.script_of g)
      unfolding parser.script_of
      script_lists = lists_then nested judge (stmts_lists false) (λ a b k. end_lists (StmtsK bodies) (stmts_of a) (stmts_of b) (stmts_same bodies a b k) (stmts_listed nested a))

    -- bindings

    module _ (v u : Env) (s : ListsEnv nested bodies judge v u) where
      parens_lists : Lists nested judge (ExprK bodies) as_is (in_expr nested) (parser.parens_of v) (parser.parens_of u)
      unfolding parser.parens_of
      parens_lists = lists_then nested judge (expect_lists nested bodies judge mark.OPEN_PAREN) (λ _ _ _. lists_then nested judge (expr_lists nested bodies judge v u s true) (λ a b k. lists_more nested judge (λ _. a) (λ _. b) (expect_lists nested bodies judge mark.CLOSE_PAREN) (λ _ _ _. k) (λ _ _. refl)))

      value_lists : (w : Bool) → Lists nested judge (OptionK (ExprK bodies)) as_is (in_option (in_expr nested)) (parser.value_of v w) (parser.value_of u w)
      unfolding parser.value_of
      value_lists w = lists_peek nested judge (λ t. lists_when nested judge (is_mark mark.ASSIGN t.kind) (lists_step nested judge (lists_more nested judge Some Some (s.sub (AnAssign w)) (λ a b k. k) (λ _ _. refl))) (lists_ret nested judge None None tt (λ _. refl)))

      bind_from_lists : (w : Bool) (n m : Named) → m ≡ n → Lists nested judge (BindK bodies) as_is (in_bind nested) (parser.bind_from v w n) (parser.bind_from u w m)
      unfolding parser.bind_from
      bind_from_lists w n m e = lists_more nested judge (bound n) (bound m) (value_lists w) (λ o p k. record { names = e; values = k }) (λ _ _. refl)

      bind_lists : (w : Bool) → Lists nested judge (BindK bodies) as_is (in_bind nested) (parser.bind_of v w) (parser.bind_of u w)
      unfolding parser.bind_of
      bind_lists w = lists_then nested judge (name_lists nested bodies judge) (λ n m e. bind_from_lists w n m e)

      bind_turn_lists : (w : Bool) → Lists nested judge (BindTurn bodies) as_is (in_turn (in_bind nested) in_none) (parser.bind_turn v w) (parser.bind_turn u w)
      unfolding parser.bind_turn
      bind_turn_lists w = lists_peek nested judge (λ t. lists_when nested judge (is_mark mark.COMMA t.kind) (lists_step nested judge (lists_more nested judge Again Again (bind_lists w) (λ a b k. k) (λ _ _. refl))) (lists_ret nested judge (Stop tt) (Stop tt) tt (λ _. refl)))

      binds_lists : (w : Bool) (n m : Named) → m ≡ n → Lists nested judge (ManyK (BindK bodies) AnyK) as_is (in_many (in_bind nested) in_none) (parser.binds_from v w n) (parser.binds_from u w m)
      unfolding parser.binds_from
      binds_lists w n m e = lists_then nested judge (bind_from_lists w n m e) (λ a b k. lists_led nested judge (bind_turn_lists w) a b k)

      binding_lists : (d : Decl) → Lists nested judge (StmtK bodies) as_is (in_stmt nested) (parser.binding_of v d) (parser.binding_of u d)
      unfolding parser.binding_of
      binding_lists d = lists_then nested judge (name_lists nested bodies judge) (λ n m e. lists_then nested judge (binds_lists true n m e) (λ a b q. semi_stmt (binds_ending BareBinding (binds_of a.items)) (binds_ending BareBinding (binds_of b.items)) (all_binds bodies a.items b.items q.0) (tree.Binding d (binds_of a.items)) (tree.Binding d (binds_of b.items)) (λ _ _. refl) (λ z. ap (λ x. tree.Binding d x z) (binds_same bodies a.items b.items q.0)) (λ _ r. binds_listed nested a.items r)))

      declared_lists : Lists nested judge (StmtK bodies) as_is (in_stmt nested) (parser.declared_of v) (parser.declared_of u)
      unfolding parser.declared_of
      declared_lists = lists_then nested judge (name_lists nested bodies judge) (λ n m e. lists_more nested judge tree.Declared tree.Declared (function_lists nested bodies judge v u s form.Function (Some n) (Some m) (ap Some e)) (λ a b k. record { takes = refl; same = ap tree.Declared k.same }) (λ _ _. refl))

      value_stmt_lists : Lists nested judge (StmtK bodies) as_is (in_stmt nested) (parser.value_stmt v) (parser.value_stmt u)
      unfolding parser.value_stmt
      value_stmt_lists = lists_then nested judge (expr_lists nested bodies judge v u s true) (λ a b k. semi_stmt (ending a) (ending b) k.endings (tree.Value a) (tree.Value b) (λ _ _. refl) (λ z. ap (λ x. tree.Value x z) k.same) (λ _ _. refl))

      option_lists : (m : ℕ) → Lists nested judge (OptionK (ExprK bodies)) as_is (in_option (in_expr nested)) (parser.option_of v m) (parser.option_of u m)
      unfolding parser.option_of
      option_lists m = lists_peek nested judge (λ t. lists_when nested judge (is_mark m t.kind) (lists_ret nested judge None None tt (λ _. refl)) (lists_more nested judge Some Some (expr_lists nested bodies judge v u s true) (λ a b k. k) (λ _ _. refl)))

      returned_lists : Lists nested judge (OptionK (ExprK bodies)) as_is (in_option (in_expr nested)) (parser.returned_of v) (parser.returned_of u)
      unfolding parser.returned_of
      returned_lists = lists_peek nested judge (λ t. lists_when nested judge (parser.ends_return t) (lists_ret nested judge None None tt (λ _. refl)) (lists_more nested judge Some Some (expr_lists nested bodies judge v u s true) (λ a b k. k) (λ _ _. refl)))

      return_lists : Lists nested judge (StmtK bodies) as_is (in_stmt nested) (parser.return_of v) (parser.return_of u)
      unfolding parser.return_of
      return_lists = lists_then nested judge returned_lists (λ o p k. semi_stmt (return_ending (maybe_expr_of o)) (return_ending (maybe_expr_of p)) (return_alike bodies o p k) (tree.Return (maybe_expr_of o)) (tree.Return (maybe_expr_of p)) (λ _ _. refl) (λ z. ap (λ x. tree.Return x z) (maybe_same bodies o p k)) (λ _ r. maybe_listed nested o r))

      thrown_lists : Lists nested judge (ExprK bodies) as_is (in_expr nested) (parser.thrown_of v) (parser.thrown_of u)
      unfolding parser.thrown_of
      thrown_lists = lists_peek nested judge (λ t. lists_when nested judge t.after_line (lists_bad nested judge) (expr_lists nested bodies judge v u s true))

      throw_lists : Lists nested judge (StmtK bodies) as_is (in_stmt nested) (parser.throw_of v) (parser.throw_of u)
      unfolding parser.throw_of
      throw_lists = lists_then nested judge thrown_lists (λ a b k. semi_stmt (ending a) (ending b) k.endings (tree.Throw a) (tree.Throw b) (λ _ _. refl) (λ z. ap (λ x. tree.Throw x z) k.same) (λ _ _. refl))

    debugger_lists : Lists nested judge (StmtK bodies) as_is (in_stmt nested) parser.debugger_of parser.debugger_of
    unfolding parser.debugger_of
    debugger_lists = semi_stmt Keyword Keyword refl tree.Debugger tree.Debugger (λ _ _. refl) (λ _. refl) (λ _ _. refl)

    label_name_lists : Lists nested judge SameK as_is in_none parser.label_name parser.label_name
    unfolding parser.label_name
    label_name_lists = lists_peek nested judge (λ t. lists_when nested judge (is_name t.kind && not t.after_line) (lists_step nested judge (lists_ret nested judge (Some (named t)) (Some (named t)) refl (λ _. refl))) (lists_ret nested judge None None refl (λ _. refl)))

    continue_lists : (at : ℕ) → Lists nested judge (StmtK bodies) as_is (in_stmt nested) (parser.continue_of at) (parser.continue_of at)
    unfolding parser.continue_of
    continue_lists at = lists_then nested judge label_name_lists (λ l m e. semi_stmt Keyword Keyword refl (tree.Continue at l) (tree.Continue at m) (λ _ _. refl) (λ z. ap (λ x. tree.Continue at x z) e) (λ _ _. refl))

    break_lists : (at : ℕ) → Lists nested judge (StmtK bodies) as_is (in_stmt nested) (parser.break_of at) (parser.break_of at)
    unfolding parser.break_of
    break_lists at = lists_then nested judge label_name_lists (λ l m e. semi_stmt Keyword Keyword refl (tree.Break at l) (tree.Break at m) (λ _ _. refl) (λ z. ap (λ x. tree.Break at x z) e) (λ _ _. refl))

    catch_name_lists : Lists nested judge SameK as_is in_none parser.catch_name parser.catch_name
    unfolding parser.catch_name
    catch_name_lists = lists_then nested judge (name_lists nested bodies judge) (λ n m e. lists_more nested judge (λ _. n) (λ _. m) (expect_lists nested bodies judge mark.CLOSE_PAREN) (λ _ _ _. e) (λ _ _. refl))

    catch_param_lists : Lists nested judge SameK as_is in_none parser.catch_param parser.catch_param
    unfolding parser.catch_param
    catch_param_lists = lists_peek nested judge (λ t. lists_when nested judge (is_mark mark.OPEN_PAREN t.kind) (lists_step nested judge (lists_more nested judge Some Some catch_name_lists (λ a b k. ap Some k) (λ _ _. refl))) (lists_ret nested judge None None refl (λ _. refl)))

    -- statements

    module _ (b c : Block) (s : ListsBlock b c) where
      parens : Lists nested judge (ExprK bodies) as_is (in_expr nested) (parser.parens_of b.exprs) (parser.parens_of c.exprs)
      parens = parens_lists b.exprs c.exprs s.exprs

      else_lists : (i : Bool) → Lists nested judge (OptionK (StmtK bodies)) as_is (in_option (in_stmt nested)) (parser.else_of b i) (parser.else_of c i)
      unfolding parser.else_of
      else_lists i = lists_peek nested judge (λ t. lists_when nested judge (is_word word.ELSE t.kind) (lists_step nested judge (lists_more nested judge Some Some (s.stmt (AStmt i)) (λ x y k. k) (λ _ _. refl))) (lists_ret nested judge None None tt (λ _. refl)))

      else_behind_lists : (i : Bool) (x y : Stmt) → StmtK bodies x y → Lists nested judge (OptionK (StmtK bodies)) as_is (in_option (in_stmt nested)) (parser.else_behind b i x) (parser.else_behind c i y)
      else_behind_lists i x y k = lists_if nested judge (takes_else x) (takes_else y) (sym k.takes) (lists_ret nested judge None None tt (λ _. refl)) (else_lists i)

      if_lists : (i : Bool) → Lists nested judge (StmtK bodies) as_is (in_stmt nested) (parser.if_of b i) (parser.if_of c i)
      unfolding parser.if_of
      if_lists i = lists_then nested judge parens (λ e f r. lists_then nested judge (s.stmt (AStmt i)) (λ x y k. lists_more nested judge (λ o. tree.If e x (maybe_stmt_of o)) (λ o. tree.If f y (maybe_stmt_of o)) (else_behind_lists i x y k) (λ o p j. record { takes = else_alike bodies o p j; same = ap (λ z. tree.If z y (maybe_stmt_of p)) r.same ∙ ap (λ z. tree.If (fill bodies e) z (maybe_stmt_of p)) k.same ∙ ap (tree.If (fill bodies e) (fill_stmt bodies x)) (else_same bodies o p j) }) (λ o r. ap (λ z. in_expr nested e (in_stmt nested x z)) (else_listed nested o r))))

      while_lists : (i : Bool) → Lists nested judge (StmtK bodies) as_is (in_stmt nested) (parser.while_of b i) (parser.while_of c i)
      unfolding parser.while_of
      while_lists i = lists_then nested judge parens (λ e f r. lists_more nested judge (tree.While e) (tree.While f) (s.stmt (AStmt i)) (λ x y k. record { takes = k.takes; same = ap (λ z. tree.While z y) r.same ∙ ap (tree.While (fill bodies e)) k.same }) (λ _ _. refl))

      do_lists : (i : Bool) → Lists nested judge (StmtK bodies) as_is (in_stmt nested) (parser.do_of b i) (parser.do_of c i)
      unfolding parser.do_of
      do_lists i = lists_then nested judge (s.stmt (AStmt i)) (λ x y k. lists_then nested judge (word_lists word.WHILE) (λ _ _ _. lists_then nested judge parens (λ e f r. semi_stmt DoWhile DoWhile refl (tree.Do x e) (tree.Do y f) (λ _ _. refl) (λ z. ap (λ q. tree.Do q f z) k.same ∙ ap (λ q. tree.Do (fill_stmt bodies x) q z) r.same) (λ _ _. refl))))

      for_from_lists : (i : Bool) (m n : Init) → n ≡ fill_init bodies m → Lists nested judge (StmtK bodies) (in_init nested m) (in_stmt nested) (parser.for_from b i m) (parser.for_from c i n)
      unfolding parser.for_from
      for_from_lists i m n e =
          lists_then nested judge (expect_lists nested bodies judge mark.SEMICOLON) (λ _ _ _. lists_then nested judge (option_lists b.exprs c.exprs s.exprs mark.SEMICOLON) (λ x x2 j.
          lists_then nested judge (expect_lists nested bodies judge mark.SEMICOLON) (λ _ _ _. lists_then nested judge (option_lists b.exprs c.exprs s.exprs mark.CLOSE_PAREN) (λ y y2 k.
          lists_then nested judge (expect_lists nested bodies judge mark.CLOSE_PAREN) (λ _ _ _. lists_more nested judge (tree.For m (maybe_expr_of x) (maybe_expr_of y)) (tree.For n (maybe_expr_of x2) (maybe_expr_of y2)) (s.stmt (AStmt i)) (λ p q r. record { takes = r.takes; same = ap (λ z. tree.For z (maybe_expr_of x2) (maybe_expr_of y2) q) e ∙ ap (λ z. tree.For (fill_init bodies m) z (maybe_expr_of y2) q) (maybe_same bodies x x2 j) ∙ ap (λ z. tree.For (fill_init bodies m) (fill_maybe bodies (maybe_expr_of x)) z q) (maybe_same bodies y y2 k) ∙ ap (tree.For (fill_init bodies m) (fill_maybe bodies (maybe_expr_of x)) (fill_maybe bodies (maybe_expr_of y))) r.same }) (λ p r. ap (in_init nested m) (maybe_listed nested x (in_option (in_expr nested) y (in_stmt nested p r)) ∙ ap (in_maybe_expr nested (maybe_expr_of x)) (maybe_listed nested y (in_stmt nested p r)))))))))

      for_in_lists : (i : Bool) (m n : Each) → n ≡ fill_each bodies m → Lists nested judge (StmtK bodies) (in_each nested m) (in_stmt nested) (parser.for_in_from b i m) (parser.for_in_from c i n)
      unfolding parser.for_in_from
      for_in_lists i m n q = lists_then nested judge (expr_lists nested bodies judge b.exprs c.exprs s.exprs true) (λ e f r. lists_then nested judge (expect_lists nested bodies judge mark.CLOSE_PAREN) (λ _ _ _. lists_more nested judge (tree.ForIn m e) (tree.ForIn n f) (s.stmt (AStmt i)) (λ x y k. record { takes = k.takes; same = ap (λ z. tree.ForIn z f y) q ∙ ap (λ z. tree.ForIn (fill_each bodies m) z y) r.same ∙ ap (tree.ForIn (fill_each bodies m) (fill bodies e)) k.same }) (λ _ _. refl)))

      for_named_lists : (i : Bool) (d : Decl) (n m : Named) → m ≡ n → Lists nested judge (StmtK bodies) as_is (in_stmt nested) (parser.for_named b i d n) (parser.for_named c i d m)
      unfolding parser.for_named
      for_named_lists i d n m e = lists_peek nested judge (λ t. lists_when nested judge (is_word word.IN t.kind)
          (lists_step nested judge (for_in_lists i (tree.BindEach d n) (tree.BindEach d m) (ap (tree.BindEach d) e)))
          (lists_then nested judge (binds_lists b.exprs c.exprs s.exprs false n m e) (λ x y k. lists_known nested judge (binds_listed nested x.items) (for_from_lists i (tree.BindsInit d (binds_of x.items)) (tree.BindsInit d (binds_of y.items)) (ap (tree.BindsInit d) (binds_same bodies x.items y.items k.0))))))

      for_decl_lists : (i : Bool) (d : Decl) → Lists nested judge (StmtK bodies) as_is (in_stmt nested) (parser.for_decl b i d) (parser.for_decl c i d)
      unfolding parser.for_decl
      for_decl_lists i d = lists_then nested judge (name_lists nested bodies judge) (λ n m e. for_named_lists i d n m e)

      for_valued_lists : (i : Bool) (x y : Expr) → ExprK bodies x y → Lists nested judge (StmtK bodies) (in_expr nested x) (in_stmt nested) (parser.for_valued b i x) (parser.for_valued c i y)
      unfolding parser.for_valued
      for_valued_lists i x y k = lists_peek nested judge (λ t. lists_if nested judge (is_word word.IN t.kind && nat_le (rank x) left_rank) (is_word word.IN t.kind && nat_le (rank y) left_rank) (ap (λ r. is_word word.IN t.kind && nat_le r left_rank) (sym k.ranks))
          (lists_step nested judge (for_in_lists i (tree.TargetEach x) (tree.TargetEach y) (ap tree.TargetEach k.same)))
          (for_from_lists i (tree.ValueInit x) (tree.ValueInit y) (ap tree.ValueInit k.same)))

      for_head_lists : (i : Bool) → Lists nested judge (StmtK bodies) as_is (in_stmt nested) (parser.for_head b i) (parser.for_head c i)
      unfolding parser.for_head
      for_head_lists i = lists_peek nested judge (λ t.
          lists_when nested judge (is_mark mark.SEMICOLON t.kind) (for_from_lists i tree.NoInit tree.NoInit refl)
          (lists_when nested judge (is_word word.VAR t.kind) (lists_step nested judge (for_decl_lists i decl.Var))
          (lists_when nested judge (is_word word.LET t.kind) (lists_step nested judge (for_decl_lists i decl.Let))
          (lists_when nested judge (is_word word.CONST t.kind) (lists_step nested judge (for_decl_lists i decl.Const))
          (lists_then nested judge (expr_lists nested bodies judge b.exprs c.exprs s.exprs false) (for_valued_lists i))))))

      for_lists : (i : Bool) → Lists nested judge (StmtK bodies) as_is (in_stmt nested) (parser.for_of b i) (parser.for_of c i)
      unfolding parser.for_of
      for_lists i = lists_then nested judge (expect_lists nested bodies judge mark.OPEN_PAREN) (λ _ _ _. for_head_lists i)

      -- clauses

      case_lists : (i : Bool) → Lists nested judge (ClauseK bodies) as_is (in_clause nested) (parser.case_of b i) (parser.case_of c i)
      unfolding parser.case_of
      case_lists i = lists_then nested judge (expr_lists nested bodies judge b.exprs c.exprs s.exprs true) (λ e f k. lists_then nested judge (expect_lists nested bodies judge mark.COLON) (λ _ _ _. lists_more nested judge (clause (Some e)) (clause (Some f)) (stmts_lists b.stmt c.stmt s.stmt i) (λ x y j. record { tests = k; items = j }) (λ _ _. refl)))

      default_lists : (i : Bool) → Lists nested judge (ClauseK bodies) as_is (in_clause nested) (parser.default_of b i) (parser.default_of c i)
      unfolding parser.default_of
      default_lists i = lists_then nested judge (expect_lists nested bodies judge mark.COLON) (λ _ _ _. lists_more nested judge (clause None) (clause None) (stmts_lists b.stmt c.stmt s.stmt i) (λ x y j. record { tests = tt; items = j }) (λ _ _. refl))

      case_turn_lists : (i : Bool) → Lists nested judge (TurnK (ClauseK bodies) AnyK) as_is (in_turn (in_clause nested) in_none) (parser.case_turn b i) (parser.case_turn c i)
      unfolding parser.case_turn
      case_turn_lists i = lists_peek nested judge (λ t. lists_when nested judge (is_word word.CASE t.kind) (lists_step nested judge (lists_more nested judge Again Again (case_lists i) (λ x y k. k) (λ _ _. refl))) (lists_ret nested judge (Stop tt) (Stop tt) tt (λ _. refl)))

      clause_turn_lists : (i : Bool) → Lists nested judge (ClauseTurn bodies) as_is (in_turn (in_clause nested) (in_option (in_clause nested))) (parser.clause_turn b i) (parser.clause_turn c i)
      unfolding parser.clause_turn
      clause_turn_lists i = lists_peek nested judge (λ t.
          lists_when nested judge (is_word word.CASE t.kind) (lists_step nested judge (lists_more nested judge Again Again (case_lists i) (λ x y k. k) (λ _ _. refl)))
          (lists_when nested judge (is_word word.DEFAULT t.kind) (lists_step nested judge (lists_more nested judge (λ x. Stop (Some x)) (λ x. Stop (Some x)) (default_lists i) (λ x y k. k) (λ _ _. refl))) (lists_ret nested judge (Stop None) (Stop None) tt (λ _. refl))))

      more_clauses_lists : (i : Bool) (o p : Option Clause) → OptionK (ClauseK bodies) o p → Lists nested judge (ListK (ClauseK bodies)) (in_option (in_clause nested) o) (in_list (in_clause nested)) (parser.more_clauses b i o) (parser.more_clauses c i p)
      unfolding parser.more_clauses
      more_clauses_lists i None None k = lists_ret nested judge [] [] tt (λ _. refl)
      more_clauses_lists i None (Some y) k = absurd k
      more_clauses_lists i (Some x) None k = absurd k
      more_clauses_lists i (Some x) (Some y) k = lists_more nested judge (λ m. x ∷ m.items) (λ m. y ∷ m.items) (lists_loop nested judge (case_turn_lists i)) (λ m n q. (k, q.0)) (λ _ _. refl)

      clauses_lists : (i : Bool) → Lists nested judge (ListK (ClauseK bodies)) as_is (in_list (in_clause nested)) (parser.clauses_from b i) (parser.clauses_from c i)
      unfolding parser.clauses_from
      clauses_lists i = lists_then nested judge (lists_loop nested judge (clause_turn_lists i)) (λ m n q. lists_made nested judge (λ x. m.items ++ x) (λ x. n.items ++ x) (lists_behind nested judge (in_list (in_clause nested) m.items) (more_clauses_lists i m.last n.last q.1)) (λ x y k. list_append (ClauseK bodies) m.items x n.items y q.0 k) (λ x r. list_both (in_clause nested) m.items x r))

      switch_lists : (i : Bool) → Lists nested judge (StmtK bodies) as_is (in_stmt nested) (parser.switch_of b i) (parser.switch_of c i)
      unfolding parser.switch_of
      switch_lists i = lists_then nested judge parens (λ e f k. lists_then nested judge (expect_lists nested bodies judge mark.OPEN_BRACE) (λ _ _ _. lists_then nested judge (clauses_lists i) (λ x y j. lists_more nested judge (λ _. tree.Switch e (clauses_of x)) (λ _. tree.Switch f (clauses_of y)) (expect_lists nested bodies judge mark.CLOSE_BRACE) (λ _ _ _. record { takes = refl; same = ap (λ z. tree.Switch z (clauses_of y)) k.same ∙ ap (tree.Switch (fill bodies e)) (clauses_same bodies x y j) }) (λ _ r. ap (in_expr nested e) (clauses_listed nested x r)))))

      try_lists : (i : Bool) → Lists nested judge (StmtK bodies) as_is (in_stmt nested) (parser.try_of b i) (parser.try_of c i)
      unfolding parser.try_of
      try_lists i = lists_then nested judge (braced_lists b.stmt c.stmt s.stmt i) (λ x y k. lists_then nested judge (word_lists word.CATCH) (λ _ _ _. lists_then nested judge catch_param_lists (λ p q e. lists_more nested judge (tree.Try x p) (tree.Try y q) (braced_lists b.stmt c.stmt s.stmt i) (λ h g j. record { takes = refl; same = ap (λ z. tree.Try z q g) k ∙ ap (λ z. tree.Try (fill_stmts bodies x) z g) e ∙ ap (tree.Try (fill_stmts bodies x) p) j }) (λ _ _. refl))))

      labelled_lists : (i : Bool) → Lists nested judge (StmtK bodies) as_is (in_stmt nested) (parser.labelled_of b i) (parser.labelled_of c i)
      unfolding parser.labelled_of
      labelled_lists i = lists_then nested judge s.label (λ n m e. lists_then nested judge (expect_lists nested bodies judge mark.COLON) (λ _ _ _. lists_more nested judge (tree.Label n) (tree.Label m) (s.stmt (AStmt i)) (λ x y k. record { takes = k.takes; same = ap (λ z. tree.Label z y) e ∙ ap (tree.Label n) k.same }) (λ _ _. refl)))

      -- any statement

      plain_lists : (i : Bool) → Lists nested judge (StmtK bodies) as_is (in_stmt nested) (parser.plain_stmt b i) (parser.plain_stmt c i)
      unfolding parser.plain_stmt
      plain_lists i = lists_two nested bodies judge (λ t u. lists_when nested judge (parser.is_label t u) (labelled_lists i) (lists_when nested judge (is_word word.FUNCTION t.kind || is_mark mark.OPEN_BRACE t.kind) (lists_bad nested judge) (value_stmt_lists b.exprs c.exprs s.exprs)))

      block_lists : (i : Bool) → Lists nested judge (StmtK bodies) as_is (in_stmt nested) (parser.block_stmt b i) (parser.block_stmt c i)
      unfolding parser.block_stmt
      block_lists i = lists_more nested judge tree.Block tree.Block (braced_from_lists b.stmt c.stmt s.stmt i) (λ x y k. record { takes = refl; same = ap tree.Block k }) (λ _ _. refl)

      jump_lists : (p : Place) → Lists nested judge (StmtK bodies) as_is (in_stmt nested) (parser.jump_stmt b p) (parser.jump_stmt c p)
      unfolding parser.jump_stmt
      jump_lists p = lists_peek nested judge (λ t.
          lists_when nested judge (is_word word.CONTINUE t.kind) (lists_step nested judge (continue_lists t.start))
          (lists_when nested judge (is_word word.BREAK t.kind) (lists_step nested judge (break_lists t.start))
          (lists_when nested judge (is_word word.RETURN t.kind && is_inside p) (lists_step nested judge (return_lists b.exprs c.exprs s.exprs))
          (lists_when nested judge (is_word word.THROW t.kind) (lists_step nested judge (throw_lists b.exprs c.exprs s.exprs)) (plain_lists (is_inside p))))))

      nested_lists : (p : Place) → Lists nested judge (StmtK bodies) as_is (in_stmt nested) (parser.nested_stmt b p) (parser.nested_stmt c p)
      unfolding parser.nested_stmt
      nested_lists p = lists_peek nested judge (λ t.
          lists_when nested judge (is_word word.IF t.kind) (lists_step nested judge (if_lists (is_inside p)))
          (lists_when nested judge (is_word word.WHILE t.kind) (lists_step nested judge (while_lists (is_inside p)))
          (lists_when nested judge (is_word word.DO t.kind) (lists_step nested judge (do_lists (is_inside p)))
          (lists_when nested judge (is_word word.FOR t.kind) (lists_step nested judge (for_lists (is_inside p)))
          (lists_when nested judge (is_word word.SWITCH t.kind) (lists_step nested judge (switch_lists (is_inside p)))
          (lists_when nested judge (is_word word.TRY t.kind) (lists_step nested judge (try_lists (is_inside p))) (jump_lists p)))))))

      declaration_lists : (p : Place) → Lists nested judge (StmtK bodies) as_is (in_stmt nested) (parser.declaration_stmt b p) (parser.declaration_stmt c p)
      unfolding parser.declaration_stmt
      declaration_lists p = lists_peek nested judge (λ t.
          lists_when nested judge (is_word word.VAR t.kind) (lists_step nested judge (binding_lists b.exprs c.exprs s.exprs decl.Var))
          (lists_when nested judge (is_word word.LET t.kind && is_item p) (lists_step nested judge (binding_lists b.exprs c.exprs s.exprs decl.Let))
          (lists_when nested judge (is_word word.CONST t.kind && is_item p) (lists_step nested judge (binding_lists b.exprs c.exprs s.exprs decl.Const))
          (lists_when nested judge (is_word word.FUNCTION t.kind && is_item p) (lists_step nested judge (declared_lists b.exprs c.exprs s.exprs)) (nested_lists p)))))

      pub stmt_lists : (p : Place) → Lists nested judge (StmtK bodies) as_is (in_stmt nested) (parser.stmt_of b p) (parser.stmt_of c p)
      unfolding parser.stmt_of
      stmt_lists p = lists_peek nested judge (λ t.
          lists_when nested judge (is_mark mark.OPEN_BRACE t.kind) (lists_step nested judge (block_lists (is_inside p)))
          (lists_when nested judge (is_mark mark.SEMICOLON t.kind) (lists_step nested judge (lists_ret nested judge tree.Empty tree.Empty (record { takes = refl; same = refl }) (λ _. refl)))
          (lists_when nested judge (is_word word.DEBUGGER t.kind) (lists_step nested judge debugger_lists) (declaration_lists p))))
