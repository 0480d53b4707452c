-- What a tree keeps when its bodies are others: how loosely its parts bind and how they end, and how it is written where
-- bodies are passed over.
use Rattle.std.proofs.Common.{◌≡◌, ℕ, suc, refl, ap, ◌∙◌, true, false, not, ◌&&◌, nat_eq, if◌then◌else◌}
use Rattle.script_grammar.specs.declared.token.word.TheConstants as word
use Rattle.script_grammar.specs.Kinds.{is_arrow_form}
use Rattle.script_grammar.specs.Tree.{Named, Expr, Exprs, no_exprs, more_exprs, MaybeExpr, no_expr, some_expr, MaybeArgs, no_args, some_args, Parts, no_parts, more_parts, Items, no_items, more_items, Operands, no_operands, more_operands, Tail, Tails, no_tails, more_tails, Key, Prop, Props, no_props, more_props, Function, function, Params, no_params, more_params, Body, Binds, no_binds, more_binds, Init, Each, Clauses, no_clauses, more_clauses, Stmt, Stmts, no_stmts, more_stmts, MaybeStmt, no_stmt, some_stmt}
use Rattle.script_grammar.specs.Tree as tree
use Rattle.script_grammar.specs.Pieces as pieces
use Rattle.script_grammar.specs.Pieces.{Ending, passed, until}
use Rattle.script_grammar.specs.Endings.{ending, last_ending, operands_ending, function_ending, body_ending, return_ending, bind_ending, binds_ending}
use Rattle.script_grammar.specs.Print.{print, print_list, print_more, print_maybe, print_args, print_parts, part_kind, first_kind, print_items, print_more_items, print_operands, print_tails, print_tail, print_key, print_props, print_more_props, print_prop, print_func, print_function, print_declared, print_params, print_more_params, print_initializer, print_body, print_binds, print_more_binds, print_stmts, print_else, print_init, print_each, print_clauses, print_test, print_stmt, above, param_depth}
use Rattle.script_grammar.specs.Proper.{rank, function_rank, new_rank, callee_rank, are_member_tails, is_member_tail, operands_level, free_of_in, all_free, operands_free, function_free, body_free, maybe_free, binds_free, is_statement, takes_else, else_takes, defaults, level_rank}
use Rattle.grammar_parser_specs.specs.Filling.{fill, fill_exprs, fill_maybe, fill_args, fill_parts, fill_items, fill_operands, fill_tails, fill_tail, fill_key, fill_prop, fill_props, fill_function, fill_params, fill_body, fill_binds, fill_init, fill_each, fill_stmt, fill_stmts, fill_else, fill_clauses}
use Rattle.grammar_local_laws.proofs.PassingLaws.{AreBraced}

module _ (bodies : ℕ → Body) (braced : AreBraced bodies) where
  tail_fill : (t : Tail) → is_member_tail (fill_tail bodies t) ≡ is_member_tail t
  tail_fill (tree.Dot text) = refl
  tail_fill (tree.Index e) = refl
  tail_fill (tree.Call es comma) = refl

  tails_fill : (ts : Tails) → are_member_tails (fill_tails bodies ts) ≡ are_member_tails ts
  tails_fill no_tails = refl
  tails_fill (more_tails t ts) = ap (λ x. x && are_member_tails (fill_tails bodies ts)) (tail_fill t) ∙ ap (λ x. is_member_tail t && x) (tails_fill ts)

  pub level_fill : (os : Operands) → operands_level (fill_operands bodies os) ≡ operands_level os
  level_fill no_operands = refl
  level_fill (more_operands op is_word value rest) = refl

  new_fill : (a : MaybeArgs) → new_rank (fill_args bodies a) ≡ new_rank a
  new_fill no_args = refl
  new_fill (some_args es comma) = refl

  pub callee_fill : (a : MaybeArgs) → callee_rank (fill_args bodies a) ≡ callee_rank a
  callee_fill no_args = refl
  callee_fill (some_args es comma) = refl

  func_rank : (f : Function) → function_rank (fill_function bodies f) ≡ function_rank f
  func_rank (function form start end name ps comma bare body) = refl

  pub rank_fill : (e : Expr) → rank (fill bodies e) ≡ rank e
  rank_fill (tree.This at) = refl
  rank_fill (tree.Name name) = refl
  rank_fill (tree.Null at) = refl
  rank_fill (tree.True at) = refl
  rank_fill (tree.False at) = refl
  rank_fill (tree.Number at value) = refl
  rank_fill (tree.Str at end text) = refl
  rank_fill (tree.Template at first parts) = refl
  rank_fill (tree.Array at items comma) = refl
  rank_fill (tree.Object at props comma) = refl
  rank_fill (tree.Func at f) = func_rank f
  rank_fill (tree.Paren at inner) = refl
  rank_fill (tree.Chain head tails) = ap (λ x. if x then 2 else 4) (tails_fill tails)
  rank_fill (tree.New at callee args) = new_fill args
  rank_fill (tree.Unary at op of is_word) = refl
  rank_fill (tree.Update at op prefix of) = refl
  rank_fill (tree.Binary first rest) = ap level_rank (level_fill rest)
  rank_fill (tree.Cond test a b) = refl
  rank_fill (tree.Assign op target value) = refl
  rank_fill (tree.Comma items) = refl

  braced_ending : (start : ℕ) → body_ending (bodies start) ≡ pieces.BracedArrow
  braced_ending start = ap body_ending (braced.are start)

  mutual
    pub ending_fill : (e : Expr) → ending (fill bodies e) ≡ ending e
    ending_fill (tree.This at) = refl
    ending_fill (tree.Name name) = refl
    ending_fill (tree.Null at) = refl
    ending_fill (tree.True at) = refl
    ending_fill (tree.False at) = refl
    ending_fill (tree.Number at value) = refl
    ending_fill (tree.Str at end text) = refl
    ending_fill (tree.Template at first parts) = refl
    ending_fill (tree.Array at items comma) = refl
    ending_fill (tree.Object at props comma) = refl
    ending_fill (tree.Func at f) = function_end f
    ending_fill (tree.Paren at inner) = refl
    ending_fill (tree.Chain head tails) = refl
    ending_fill (tree.New at callee args) = refl
    ending_fill (tree.Unary at op of is_word) = ending_fill of
    ending_fill (tree.Binary first rest) = operands_end pieces.Operand pieces.Operand rest refl
    ending_fill (tree.Cond test a b) = ending_fill b
    ending_fill (tree.Assign op target value) = ending_fill value
    ending_fill (tree.Comma items) = last_end pieces.Operand pieces.Operand items refl
    ending_fill (tree.Update at op true of) = ending_fill of
    ending_fill (tree.Update at op false of) = refl

    last_end : (x y : Ending) (es : Exprs) → x ≡ y → last_ending x (fill_exprs bodies es) ≡ last_ending y es
    last_end x y no_exprs e = e
    last_end x y (more_exprs a es) e = last_end (ending (fill bodies a)) (ending a) es (ending_fill a)

    operands_end : (x y : Ending) (os : Operands) → x ≡ y → operands_ending x (fill_operands bodies os) ≡ operands_ending y os
    operands_end x y no_operands e = e
    operands_end x y (more_operands op is_word value rest) e = operands_end (ending (fill bodies value)) (ending value) rest (ending_fill value)

    function_end : (f : Function) → function_ending (fill_function bodies f) ≡ function_ending f
    function_end (function form start end name ps comma bare body) = ap (λ x. if is_arrow_form form then x else pieces.Operand) (body_end start body)

    body_end : (start : ℕ) (b : Body) → body_ending (fill_body bodies start b) ≡ body_ending b
    body_end start (tree.BracedBody items) = braced_ending start
    body_end start (tree.ShortBody value) = ending_fill value

  mutual
    pub free_fill : (e : Expr) → free_of_in (fill bodies e) ≡ free_of_in e
    free_fill (tree.This at) = refl
    free_fill (tree.Name name) = refl
    free_fill (tree.Null at) = refl
    free_fill (tree.True at) = refl
    free_fill (tree.False at) = refl
    free_fill (tree.Number at value) = refl
    free_fill (tree.Str at end text) = refl
    free_fill (tree.Template at first parts) = refl
    free_fill (tree.Array at items comma) = refl
    free_fill (tree.Object at props comma) = refl
    free_fill (tree.Func at f) = function_fill f
    free_fill (tree.Paren at inner) = refl
    free_fill (tree.Chain head tails) = refl
    free_fill (tree.New at callee args) = refl
    free_fill (tree.Unary at op of is_word) = free_fill of
    free_fill (tree.Update at op prefix of) = free_fill of
    free_fill (tree.Binary first rest) = ap (λ x. x && operands_free (fill_operands bodies rest)) (free_fill first) ∙ ap (λ x. free_of_in first && x) (operands_fill rest)
    free_fill (tree.Cond test a b) = ap (λ x. x && free_of_in (fill bodies b)) (free_fill test) ∙ ap (λ x. free_of_in test && x) (free_fill b)
    free_fill (tree.Assign op target value) = ap (λ x. x && free_of_in (fill bodies value)) (free_fill target) ∙ ap (λ x. free_of_in target && x) (free_fill value)
    free_fill (tree.Comma items) = all_fill items

    all_fill : (es : Exprs) → all_free (fill_exprs bodies es) ≡ all_free es
    all_fill no_exprs = refl
    all_fill (more_exprs e es) = ap (λ x. x && all_free (fill_exprs bodies es)) (free_fill e) ∙ ap (λ x. free_of_in e && x) (all_fill es)

    operands_fill : (os : Operands) → operands_free (fill_operands bodies os) ≡ operands_free os
    operands_fill no_operands = refl
    operands_fill (more_operands op is_word value rest) = ap (λ x. not (is_word && nat_eq op word.IN) && (x && operands_free (fill_operands bodies rest))) (free_fill value) ∙ ap (λ x. not (is_word && nat_eq op word.IN) && (free_of_in value && x)) (operands_fill rest)

    function_fill : (f : Function) → function_free (fill_function bodies f) ≡ function_free f
    function_fill (function form start end name ps comma bare body) = body_fill start body

    body_fill : (start : ℕ) (b : Body) → body_free (fill_body bodies start b) ≡ body_free b
    body_fill start (tree.BracedBody items) = ap body_free (braced.are start)
    body_fill start (tree.ShortBody value) = free_fill value

  maybe_free_fill : (o : MaybeExpr) → maybe_free (fill_maybe bodies o) ≡ maybe_free o
  maybe_free_fill no_expr = refl
  maybe_free_fill (some_expr e) = free_fill e

  pub binds_free_fill : (bs : Binds) → binds_free (fill_binds bodies bs) ≡ binds_free bs
  binds_free_fill no_binds = refl
  binds_free_fill (more_binds name value bs) = ap (λ x. x && binds_free (fill_binds bodies bs)) (maybe_free_fill value) ∙ ap (λ x. maybe_free value && x) (binds_free_fill bs)

  bind_end : (o : MaybeExpr) → bind_ending (fill_maybe bodies o) ≡ bind_ending o
  bind_end no_expr = refl
  bind_end (some_expr e) = ending_fill e

  binds_end : (x y : Ending) (bs : Binds) → x ≡ y → binds_ending x (fill_binds bodies bs) ≡ binds_ending y bs
  binds_end x y no_binds e = e
  binds_end x y (more_binds name value bs) e = binds_end (bind_ending (fill_maybe bodies value)) (bind_ending value) bs (bind_end value)

  return_end : (o : MaybeExpr) → return_ending (fill_maybe bodies o) ≡ return_ending o
  return_end no_expr = refl
  return_end (some_expr e) = ending_fill e

  pub statement_fill : (s : Stmt) → is_statement (fill_stmt bodies s) ≡ is_statement s
  statement_fill (tree.Block items) = refl
  statement_fill tree.Empty = refl
  statement_fill (tree.Debugger semi) = refl
  statement_fill (tree.Binding decl bs semi) = refl
  statement_fill (tree.Value e semi) = refl
  statement_fill (tree.If test then_stmt else_stmt) = refl
  statement_fill (tree.Do body test semi) = refl
  statement_fill (tree.While test body) = refl
  statement_fill (tree.For init test update body) = refl
  statement_fill (tree.ForIn each over body) = refl
  statement_fill (tree.Continue at label semi) = refl
  statement_fill (tree.Break at label semi) = refl
  statement_fill (tree.Return value semi) = refl
  statement_fill (tree.Throw value semi) = refl
  statement_fill (tree.Switch of cs) = refl
  statement_fill (tree.Label name body) = refl
  statement_fill (tree.Try body param handler) = refl
  statement_fill (tree.Declared f) = refl

  mutual
    pub takes_fill : (s : Stmt) → takes_else (fill_stmt bodies s) ≡ takes_else s
    takes_fill (tree.Block items) = refl
    takes_fill tree.Empty = refl
    takes_fill (tree.Debugger semi) = refl
    takes_fill (tree.Binding decl bs semi) = refl
    takes_fill (tree.Value e semi) = refl
    takes_fill (tree.If test then_stmt else_stmt) = else_fill else_stmt
    takes_fill (tree.Do body test semi) = refl
    takes_fill (tree.While test body) = takes_fill body
    takes_fill (tree.For init test update body) = takes_fill body
    takes_fill (tree.ForIn each over body) = takes_fill body
    takes_fill (tree.Continue at label semi) = refl
    takes_fill (tree.Break at label semi) = refl
    takes_fill (tree.Return value semi) = refl
    takes_fill (tree.Throw value semi) = refl
    takes_fill (tree.Switch of cs) = refl
    takes_fill (tree.Label name body) = takes_fill body
    takes_fill (tree.Try body param handler) = refl
    takes_fill (tree.Declared f) = refl

    else_fill : (o : MaybeStmt) → else_takes (fill_else bodies o) ≡ else_takes o
    else_fill no_stmt = refl
    else_fill (some_stmt s) = takes_fill s

  pub defaults_fill : (cs : Clauses) → defaults (fill_clauses bodies cs) ≡ defaults cs
  defaults_fill no_clauses = refl
  defaults_fill (more_clauses no_expr items cs) = ap suc (defaults_fill cs)
  defaults_fill (more_clauses (some_expr e) items cs) = defaults_fill cs

  part_fill : (ps : Parts) → part_kind (fill_parts bodies ps) ≡ part_kind ps
  part_fill no_parts = refl
  part_fill (more_parts value behind rest) = refl

  first_fill : (ps : Parts) → first_kind (fill_parts bodies ps) ≡ first_kind ps
  first_fill no_parts = refl
  first_fill (more_parts value behind rest) = refl

  -- how it is written

  mutual
    pub print_fill : (d : ℕ) (e : Expr) → print passed d (fill bodies e) ≡ print passed d e
    print_fill d (tree.This at) = refl
    print_fill d (tree.Name name) = refl
    print_fill d (tree.Null at) = refl
    print_fill d (tree.True at) = refl
    print_fill d (tree.False at) = refl
    print_fill d (tree.Number at value) = refl
    print_fill d (tree.Str at end text) = refl
    print_fill d (tree.Template at first parts) = rw ((first_fill parts), (parts_print d parts)) refl
    print_fill d (tree.Array at items comma) = rw (items_print d items) refl
    print_fill d (tree.Object at props comma) = rw (props_print d props) refl
    print_fill d (tree.Func at f) = func_print d at f
    print_fill d (tree.Paren at inner) = rw (print_fill (suc d) inner) refl
    print_fill d (tree.Chain head tails) = rw ((print_fill d head), (tails_print d tails)) refl
    print_fill d (tree.New at callee args) = rw ((print_fill (suc d) callee), (args_print (suc d) args)) refl
    print_fill d (tree.Unary at op of is_word) = rw (print_fill (suc d) of) refl
    print_fill d (tree.Binary first rest) = rw ((print_fill d first), (operands_print d rest)) refl
    print_fill d (tree.Cond test a b) = rw ((print_fill d test), (print_fill (suc d) a), (print_fill (suc d) b)) refl
    print_fill d (tree.Assign op target value) = rw ((print_fill d target), (print_fill (suc d) value)) refl
    print_fill d (tree.Comma items) = list_print (above d) items
    print_fill d (tree.Update at op true of) = rw (print_fill (suc d) of) refl
    print_fill d (tree.Update at op false of) = rw (print_fill d of) refl

    list_print : (d : ℕ) (x : Exprs) → print_list passed d (fill_exprs bodies x) ≡ print_list passed d x
    list_print d no_exprs = refl
    list_print d (more_exprs e es) = rw ((print_fill (suc d) e), (more_print d es)) refl

    more_print : (d : ℕ) (x : Exprs) → print_more passed d (fill_exprs bodies x) ≡ print_more passed d x
    more_print d no_exprs = refl
    more_print d (more_exprs e es) = rw ((print_fill (suc d) e), (more_print d es)) refl

    maybe_print : (d : ℕ) (x : MaybeExpr) → print_maybe passed d (fill_maybe bodies x) ≡ print_maybe passed d x
    maybe_print d no_expr = refl
    maybe_print d (some_expr e) = print_fill d e

    args_print : (d : ℕ) (x : MaybeArgs) → print_args passed d (fill_args bodies x) ≡ print_args passed d x
    args_print d no_args = refl
    args_print d (some_args es comma) = rw (list_print d es) refl

    parts_print : (d : ℕ) (x : Parts) → print_parts passed d (fill_parts bodies x) ≡ print_parts passed d x
    parts_print d no_parts = refl
    parts_print d (more_parts value behind rest) = rw ((print_fill (suc d) value), (part_fill rest), (parts_print d rest)) refl

    items_print : (d : ℕ) (x : Items) → print_items passed d (fill_items bodies x) ≡ print_items passed d x
    items_print d no_items = refl
    items_print d (more_items i is) = rw ((maybe_print (suc d) i), (more_items_print d is)) refl

    more_items_print : (d : ℕ) (x : Items) → print_more_items passed d (fill_items bodies x) ≡ print_more_items passed d x
    more_items_print d no_items = refl
    more_items_print d (more_items i is) = rw ((maybe_print (suc d) i), (more_items_print d is)) refl

    operands_print : (d : ℕ) (x : Operands) → print_operands passed d (fill_operands bodies x) ≡ print_operands passed d x
    operands_print d no_operands = refl
    operands_print d (more_operands op is_word value rest) = rw ((print_fill d value), (operands_print d rest)) refl

    tails_print : (d : ℕ) (x : Tails) → print_tails passed d (fill_tails bodies x) ≡ print_tails passed d x
    tails_print d no_tails = refl
    tails_print d (more_tails t ts) = rw ((tail_print d t), (tails_print d ts)) refl

    tail_print : (d : ℕ) (x : Tail) → print_tail passed d (fill_tail bodies x) ≡ print_tail passed d x
    tail_print d (tree.Dot text) = refl
    tail_print d (tree.Index e) = rw (print_fill (suc d) e) refl
    tail_print d (tree.Call es comma) = rw (list_print d es) refl

    props_print : (d : ℕ) (x : Props) → print_props passed d (fill_props bodies x) ≡ print_props passed d x
    props_print d no_props = refl
    props_print d (more_props p ps) = rw ((prop_print d p), (more_props_print d ps)) refl

    more_props_print : (d : ℕ) (x : Props) → print_more_props passed d (fill_props bodies x) ≡ print_more_props passed d x
    more_props_print d no_props = refl
    more_props_print d (more_props p ps) = rw ((prop_print d p), (more_props_print d ps)) refl

    key_print : (d : ℕ) (x : Key) → print_key passed d (fill_key bodies x) ≡ print_key passed d x
    key_print d (tree.WordKey n) = refl
    key_print d (tree.StrKey n) = refl
    key_print d (tree.NumberKey at value) = refl
    key_print d (tree.ComputedKey e) = rw (print_fill (suc d) e) refl

    prop_print : (d : ℕ) (x : Prop) → print_prop passed d (fill_prop bodies x) ≡ print_prop passed d x
    prop_print d (tree.Short n) = refl
    prop_print d (tree.Pair key value) = rw ((key_print d key), (print_fill (suc d) value)) refl
    prop_print d (tree.Method key f) = rw ((key_print d key), (function_print d f)) refl
    prop_print d (tree.Get key f) = rw ((key_print d key), (function_print d f)) refl
    prop_print d (tree.Set key f) = rw ((key_print d key), (function_print d f)) refl

    func_print : (d at : ℕ) (f : Function) → print_func passed d at (fill_function bodies f) ≡ print_func passed d at f
    func_print d at (function form start end name params comma bare body) = rw ((params_print (param_depth form bare d) d params), (body_print d end start body)) refl

    pub function_print : (d : ℕ) (f : Function) → print_function passed d (fill_function bodies f) ≡ print_function passed d f
    function_print d (function form start end name params comma bare body) = rw ((params_print (param_depth form bare d) d params), (body_print d end start body)) refl

    pub params_print : (q d : ℕ) (ps : Params) → print_params passed q d (fill_params bodies ps) ≡ print_params passed q d ps
    params_print q d no_params = refl
    params_print q d (more_params name value rest ps) = rw ((initializer_print q value), (more_params_print q d ps)) refl

    more_params_print : (q d : ℕ) (ps : Params) → print_more_params passed q d (fill_params bodies ps) ≡ print_more_params passed q d ps
    more_params_print q d no_params = refl
    more_params_print q d (more_params name value rest ps) = rw ((initializer_print q value), (more_params_print q d ps)) refl

    initializer_print : (d : ℕ) (o : MaybeExpr) → print_initializer passed d (fill_maybe bodies o) ≡ print_initializer passed d o
    initializer_print d no_expr = refl
    initializer_print d (some_expr e) = rw (print_fill (suc d) e) refl

    body_print : (d end start : ℕ) (b : Body) → print_body passed d end (fill_body bodies start b) ≡ print_body passed d end b
    body_print d end start (tree.BracedBody items) = ap (print_body passed d end) (braced.are start)
    body_print d end start (tree.ShortBody value) = ap (until end) (print_fill (suc d) value)

  declared_print : (d : ℕ) (f : Function) → print_declared passed d (fill_function bodies f) ≡ print_declared passed d f
  declared_print d (function form start end name params comma bare body) = rw ((params_print (param_depth form bare d) d params), (body_print d end start body)) refl

  more_binds_print : (d : ℕ) (x : Binds) → print_more_binds passed d (fill_binds bodies x) ≡ print_more_binds passed d x
  more_binds_print d no_binds = refl
  more_binds_print d (more_binds name value bs) = rw ((initializer_print d value), (more_binds_print d bs)) refl

  binds_print : (d : ℕ) (x : Binds) → print_binds passed d (fill_binds bodies x) ≡ print_binds passed d x
  binds_print d no_binds = refl
  binds_print d (more_binds name value bs) = rw ((initializer_print d value), (more_binds_print d bs)) refl

  init_print : (d : ℕ) (x : Init) → print_init passed d (fill_init bodies x) ≡ print_init passed d x
  init_print d tree.NoInit = refl
  init_print d (tree.ValueInit e) = print_fill (suc d) e
  init_print d (tree.BindsInit decl bs) = rw (binds_print d bs) refl

  each_print : (d : ℕ) (x : Each) → print_each passed d (fill_each bodies x) ≡ print_each passed d x
  each_print d (tree.TargetEach e) = print_fill (suc d) e
  each_print d (tree.BindEach decl name) = refl

  test_print : (d : ℕ) (x : MaybeExpr) → print_test passed d (fill_maybe bodies x) ≡ print_test passed d x
  test_print d no_expr = refl
  test_print d (some_expr e) = rw (print_fill (suc d) e) refl

  mutual
    pub stmts_print : (d : ℕ) (x : Stmts) → print_stmts passed d (fill_stmts bodies x) ≡ print_stmts passed d x
    stmts_print d no_stmts = refl
    stmts_print d (more_stmts s ss) = rw ((stmt_print (suc d) s), (stmts_print d ss)) refl

    else_print : (d : ℕ) (x : MaybeStmt) → print_else passed d (fill_else bodies x) ≡ print_else passed d x
    else_print d no_stmt = refl
    else_print d (some_stmt s) = rw (stmt_print (suc d) s) refl

    clauses_print : (d : ℕ) (x : Clauses) → print_clauses passed d (fill_clauses bodies x) ≡ print_clauses passed d x
    clauses_print d no_clauses = refl
    clauses_print d (more_clauses test items cs) = rw ((test_print d test), (stmts_print d items), (clauses_print d cs)) refl

    pub stmt_print : (d : ℕ) (s : Stmt) → print_stmt passed d (fill_stmt bodies s) ≡ print_stmt passed d s
    stmt_print d (tree.Block items) = rw (stmts_print d items) refl
    stmt_print d tree.Empty = refl
    stmt_print d (tree.Debugger semi) = refl
    stmt_print d (tree.Binding decl bs semi) = rw ((binds_print d bs), (binds_end pieces.BareBinding pieces.BareBinding bs refl)) refl
    stmt_print d (tree.Value e semi) = rw ((print_fill (suc d) e), (ending_fill e)) refl
    stmt_print d (tree.If test then_stmt else_stmt) = rw ((print_fill (suc d) test), (stmt_print (suc d) then_stmt), (else_print d else_stmt)) refl
    stmt_print d (tree.Do body test semi) = rw ((stmt_print (suc d) body), (print_fill (suc d) test)) refl
    stmt_print d (tree.While test body) = rw ((print_fill (suc d) test), (stmt_print (suc d) body)) refl
    stmt_print d (tree.For init test update body) = rw ((init_print d init), (maybe_print (suc d) test), (maybe_print (suc d) update), (stmt_print (suc d) body)) refl
    stmt_print d (tree.ForIn each over body) = rw ((each_print d each), (print_fill (suc d) over), (stmt_print (suc d) body)) refl
    stmt_print d (tree.Continue at label semi) = refl
    stmt_print d (tree.Break at label semi) = refl
    stmt_print d (tree.Return value semi) = rw ((maybe_print (suc d) value), (return_end value)) refl
    stmt_print d (tree.Throw value semi) = rw ((print_fill (suc d) value), (ending_fill value)) refl
    stmt_print d (tree.Switch of cs) = rw ((print_fill (suc d) of), (clauses_print d cs)) refl
    stmt_print d (tree.Label name body) = rw (stmt_print (suc d) body) refl
    stmt_print d (tree.Try body param handler) = rw ((stmts_print d body), (stmts_print d handler)) refl
    stmt_print d (tree.Declared f) = declared_print d f
