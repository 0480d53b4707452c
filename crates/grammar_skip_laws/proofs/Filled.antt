-- With other bodies in their places, a tree with hollow functions is the same as without.
use Rattle.std.proofs.Common.{◌≡◌, ◌∙◌, ℕ, Bool, true, false, refl, ap}
use Rattle.script_grammar.specs.Tree.{Expr, Exprs, no_exprs, more_exprs, MaybeExpr, no_expr, some_expr, MaybeArgs, no_args, some_args, Parts, no_parts, more_parts, Items, no_items, more_items, Operands, no_operands, more_operands, Tail, Tails, no_tails, more_tails, Key, Prop, Props, no_props, more_props, Function, function, Params, no_params, more_params, Body, Binds, no_binds, more_binds, Init, Each, Clauses, no_clauses, more_clauses, Stmt, Stmts, no_stmts, more_stmts, MaybeStmt, no_stmt, some_stmt}
use Rattle.script_grammar.specs.Tree as tree
use Rattle.grammar_parser_specs.specs.Filling.{fill, fill_exprs, fill_maybe, fill_args, fill_parts, fill_items, fill_operands, fill_tails, fill_tail, fill_key, fill_prop, fill_props, fill_function, fill_params, fill_body, fill_binds, fill_init, fill_each, fill_stmt, fill_stmts, fill_else, fill_clauses}
use Rattle.grammar_script_laws.proofs.AgreesAlone.{fill_own, fill_alone}
use Rattle.grammar_skip_laws.specs.Hollow.{hollow, hollow_exprs, hollow_maybe, hollow_args, hollow_parts, hollow_items, hollow_operands, hollow_tails, hollow_tail, hollow_key, hollow_prop, hollow_props, hollow_function, hollow_params, hollow_body, hollow_binds, hollow_init, hollow_each, hollow_stmt, hollow_stmts, hollow_else, hollow_clauses, hollow_own, hollow_inside}

module _ (chosen : ℕ → Bool) (bodies : ℕ → Body) where
  filled_body : (c : Bool) (start : ℕ) (x : Body) → fill_body bodies start (hollow_body chosen c x) ≡ fill_body bodies start x
  filled_body true start (tree.BracedBody items) = refl
  filled_body true start (tree.ShortBody value) = refl
  filled_body false start x = refl

  pub filled_function : (x : Function) → fill_function bodies (hollow_function chosen x) ≡ fill_function bodies x
  filled_function (function form start end name ps comma bare body) = ap (λ z. function form start end name (fill_params bodies ps) comma bare z) (filled_body (chosen start) start body)

  mutual
    pub filled : (x : Expr) → fill bodies (hollow chosen x) ≡ fill bodies x
    filled (tree.Template at first parts) = ap (λ z. tree.Template at first z) (filled_parts parts)
    filled (tree.Array at items comma) = ap (λ z. tree.Array at z comma) (filled_items items)
    filled (tree.Object at props comma) = ap (λ z. tree.Object at z comma) (filled_props props)
    filled (tree.Func at f) = ap (λ z. tree.Func at z) (filled_function f)
    filled (tree.Paren at inner) = ap (λ z. tree.Paren at z) (filled inner)
    filled (tree.Chain head tails) = ap (λ z. tree.Chain z (fill_tails bodies (hollow_tails chosen tails))) (filled head) ∙ ap (λ z. tree.Chain (fill bodies head) z) (filled_tails tails)
    filled (tree.New at callee args) = ap (λ z. tree.New at z (fill_args bodies (hollow_args chosen args))) (filled callee) ∙ ap (λ z. tree.New at (fill bodies callee) z) (filled_args args)
    filled (tree.Unary at op of is_word) = ap (λ z. tree.Unary at op z is_word) (filled of)
    filled (tree.Update at op prefix of) = ap (λ z. tree.Update at op prefix z) (filled of)
    filled (tree.Binary first rest) = ap (λ z. tree.Binary z (fill_operands bodies (hollow_operands chosen rest))) (filled first) ∙ ap (λ z. tree.Binary (fill bodies first) z) (filled_operands rest)
    filled (tree.Cond test then_value else_value) = ap (λ z. tree.Cond z (fill bodies (hollow chosen then_value)) (fill bodies (hollow chosen else_value))) (filled test) ∙ ap (λ z. tree.Cond (fill bodies test) z (fill bodies (hollow chosen else_value))) (filled then_value) ∙ ap (λ z. tree.Cond (fill bodies test) (fill bodies then_value) z) (filled else_value)
    filled (tree.Assign op target value) = ap (λ z. tree.Assign op z (fill bodies (hollow chosen value))) (filled target) ∙ ap (λ z. tree.Assign op (fill bodies target) z) (filled value)
    filled (tree.Comma items) = ap (λ z. tree.Comma z) (filled_exprs items)
    filled (tree.This at) = refl
    filled (tree.Name name) = refl
    filled (tree.Null at) = refl
    filled (tree.True at) = refl
    filled (tree.False at) = refl
    filled (tree.Number at value) = refl
    filled (tree.Str at end text) = refl

    pub filled_exprs : (x : Exprs) → fill_exprs bodies (hollow_exprs chosen x) ≡ fill_exprs bodies x
    filled_exprs no_exprs = refl
    filled_exprs (more_exprs e es) = ap (λ z. more_exprs z (fill_exprs bodies (hollow_exprs chosen es))) (filled e) ∙ ap (λ z. more_exprs (fill bodies e) z) (filled_exprs es)

    pub filled_maybe : (x : MaybeExpr) → fill_maybe bodies (hollow_maybe chosen x) ≡ fill_maybe bodies x
    filled_maybe no_expr = refl
    filled_maybe (some_expr e) = ap (λ z. some_expr z) (filled e)

    pub filled_args : (x : MaybeArgs) → fill_args bodies (hollow_args chosen x) ≡ fill_args bodies x
    filled_args no_args = refl
    filled_args (some_args es comma) = ap (λ z. some_args z comma) (filled_exprs es)

    pub filled_parts : (x : Parts) → fill_parts bodies (hollow_parts chosen x) ≡ fill_parts bodies x
    filled_parts no_parts = refl
    filled_parts (more_parts value behind rest) = ap (λ z. more_parts z behind (fill_parts bodies (hollow_parts chosen rest))) (filled value) ∙ ap (λ z. more_parts (fill bodies value) behind z) (filled_parts rest)

    pub filled_items : (x : Items) → fill_items bodies (hollow_items chosen x) ≡ fill_items bodies x
    filled_items no_items = refl
    filled_items (more_items i is) = ap (λ z. more_items z (fill_items bodies (hollow_items chosen is))) (filled_maybe i) ∙ ap (λ z. more_items (fill_maybe bodies i) z) (filled_items is)

    pub filled_operands : (x : Operands) → fill_operands bodies (hollow_operands chosen x) ≡ fill_operands bodies x
    filled_operands no_operands = refl
    filled_operands (more_operands op is_word value rest) = ap (λ z. more_operands op is_word z (fill_operands bodies (hollow_operands chosen rest))) (filled value) ∙ ap (λ z. more_operands op is_word (fill bodies value) z) (filled_operands rest)

    pub filled_tails : (x : Tails) → fill_tails bodies (hollow_tails chosen x) ≡ fill_tails bodies x
    filled_tails no_tails = refl
    filled_tails (more_tails t ts) = ap (λ z. more_tails z (fill_tails bodies (hollow_tails chosen ts))) (filled_tail t) ∙ ap (λ z. more_tails (fill_tail bodies t) z) (filled_tails ts)

    pub filled_tail : (x : Tail) → fill_tail bodies (hollow_tail chosen x) ≡ fill_tail bodies x
    filled_tail (tree.Dot text) = refl
    filled_tail (tree.Index e) = ap (λ z. tree.Index z) (filled e)
    filled_tail (tree.Call es comma) = ap (λ z. tree.Call z comma) (filled_exprs es)

    pub filled_key : (x : Key) → fill_key bodies (hollow_key chosen x) ≡ fill_key bodies x
    filled_key (tree.WordKey n) = refl
    filled_key (tree.StrKey n) = refl
    filled_key (tree.NumberKey at value) = refl
    filled_key (tree.ComputedKey e) = ap (λ z. tree.ComputedKey z) (filled e)

    pub filled_prop : (x : Prop) → fill_prop bodies (hollow_prop chosen x) ≡ fill_prop bodies x
    filled_prop (tree.Short n) = refl
    filled_prop (tree.Pair key value) = ap (λ z. tree.Pair z (fill bodies (hollow chosen value))) (filled_key key) ∙ ap (λ z. tree.Pair (fill_key bodies key) z) (filled value)
    filled_prop (tree.Method key f) = ap (λ z. tree.Method z (fill_function bodies (hollow_function chosen f))) (filled_key key) ∙ ap (λ z. tree.Method (fill_key bodies key) z) (filled_function f)
    filled_prop (tree.Get key f) = ap (λ z. tree.Get z (fill_function bodies (hollow_function chosen f))) (filled_key key) ∙ ap (λ z. tree.Get (fill_key bodies key) z) (filled_function f)
    filled_prop (tree.Set key f) = ap (λ z. tree.Set z (fill_function bodies (hollow_function chosen f))) (filled_key key) ∙ ap (λ z. tree.Set (fill_key bodies key) z) (filled_function f)

    pub filled_props : (x : Props) → fill_props bodies (hollow_props chosen x) ≡ fill_props bodies x
    filled_props no_props = refl
    filled_props (more_props p ps) = ap (λ z. more_props z (fill_props bodies (hollow_props chosen ps))) (filled_prop p) ∙ ap (λ z. more_props (fill_prop bodies p) z) (filled_props ps)

  pub filled_params : (x : Params) → fill_params bodies (hollow_params chosen x) ≡ fill_params bodies x
  filled_params no_params = refl
  filled_params (more_params name value rest ps) = ap (λ z. more_params name z rest (fill_params bodies (hollow_params chosen ps))) (filled_maybe value) ∙ ap (λ z. more_params name (fill_maybe bodies value) rest z) (filled_params ps)

  pub filled_binds : (x : Binds) → fill_binds bodies (hollow_binds chosen x) ≡ fill_binds bodies x
  filled_binds no_binds = refl
  filled_binds (more_binds name value bs) = ap (λ z. more_binds name z (fill_binds bodies (hollow_binds chosen bs))) (filled_maybe value) ∙ ap (λ z. more_binds name (fill_maybe bodies value) z) (filled_binds bs)

  pub filled_init : (x : Init) → fill_init bodies (hollow_init chosen x) ≡ fill_init bodies x
  filled_init tree.NoInit = refl
  filled_init (tree.ValueInit e) = ap (λ z. tree.ValueInit z) (filled e)
  filled_init (tree.BindsInit decl bs) = ap (λ z. tree.BindsInit decl z) (filled_binds bs)

  pub filled_each : (x : Each) → fill_each bodies (hollow_each chosen x) ≡ fill_each bodies x
  filled_each (tree.TargetEach e) = ap (λ z. tree.TargetEach z) (filled e)
  filled_each (tree.BindEach decl name) = refl

  mutual
    pub filled_stmt : (x : Stmt) → fill_stmt bodies (hollow_stmt chosen x) ≡ fill_stmt bodies x
    filled_stmt (tree.Block items) = ap (λ z. tree.Block z) (filled_stmts items)
    filled_stmt tree.Empty = refl
    filled_stmt (tree.Debugger semi) = refl
    filled_stmt (tree.Binding decl bs semi) = ap (λ z. tree.Binding decl z semi) (filled_binds bs)
    filled_stmt (tree.Value e semi) = ap (λ z. tree.Value z semi) (filled e)
    filled_stmt (tree.If test then_stmt else_stmt) = ap (λ z. tree.If z (fill_stmt bodies (hollow_stmt chosen then_stmt)) (fill_else bodies (hollow_else chosen else_stmt))) (filled test) ∙ ap (λ z. tree.If (fill bodies test) z (fill_else bodies (hollow_else chosen else_stmt))) (filled_stmt then_stmt) ∙ ap (λ z. tree.If (fill bodies test) (fill_stmt bodies then_stmt) z) (filled_else else_stmt)
    filled_stmt (tree.Do body test semi) = ap (λ z. tree.Do z (fill bodies (hollow chosen test)) semi) (filled_stmt body) ∙ ap (λ z. tree.Do (fill_stmt bodies body) z semi) (filled test)
    filled_stmt (tree.While test body) = ap (λ z. tree.While z (fill_stmt bodies (hollow_stmt chosen body))) (filled test) ∙ ap (λ z. tree.While (fill bodies test) z) (filled_stmt body)
    filled_stmt (tree.For init test update body) = ap (λ z. tree.For z (fill_maybe bodies (hollow_maybe chosen test)) (fill_maybe bodies (hollow_maybe chosen update)) (fill_stmt bodies (hollow_stmt chosen body))) (filled_init init) ∙ ap (λ z. tree.For (fill_init bodies init) z (fill_maybe bodies (hollow_maybe chosen update)) (fill_stmt bodies (hollow_stmt chosen body))) (filled_maybe test) ∙ ap (λ z. tree.For (fill_init bodies init) (fill_maybe bodies test) z (fill_stmt bodies (hollow_stmt chosen body))) (filled_maybe update) ∙ ap (λ z. tree.For (fill_init bodies init) (fill_maybe bodies test) (fill_maybe bodies update) z) (filled_stmt body)
    filled_stmt (tree.ForIn each over body) = ap (λ z. tree.ForIn z (fill bodies (hollow chosen over)) (fill_stmt bodies (hollow_stmt chosen body))) (filled_each each) ∙ ap (λ z. tree.ForIn (fill_each bodies each) z (fill_stmt bodies (hollow_stmt chosen body))) (filled over) ∙ ap (λ z. tree.ForIn (fill_each bodies each) (fill bodies over) z) (filled_stmt body)
    filled_stmt (tree.Continue at label semi) = refl
    filled_stmt (tree.Break at label semi) = refl
    filled_stmt (tree.Return value semi) = ap (λ z. tree.Return z semi) (filled_maybe value)
    filled_stmt (tree.Throw value semi) = ap (λ z. tree.Throw z semi) (filled value)
    filled_stmt (tree.Switch of cs) = ap (λ z. tree.Switch z (fill_clauses bodies (hollow_clauses chosen cs))) (filled of) ∙ ap (λ z. tree.Switch (fill bodies of) z) (filled_clauses cs)
    filled_stmt (tree.Label name body) = ap (λ z. tree.Label name z) (filled_stmt body)
    filled_stmt (tree.Try body param handler) = ap (λ z. tree.Try z param (fill_stmts bodies (hollow_stmts chosen handler))) (filled_stmts body) ∙ ap (λ z. tree.Try (fill_stmts bodies body) param z) (filled_stmts handler)
    filled_stmt (tree.Declared f) = ap (λ z. tree.Declared z) (filled_function f)

    pub filled_stmts : (x : Stmts) → fill_stmts bodies (hollow_stmts chosen x) ≡ fill_stmts bodies x
    filled_stmts no_stmts = refl
    filled_stmts (more_stmts s ss) = ap (λ z. more_stmts z (fill_stmts bodies (hollow_stmts chosen ss))) (filled_stmt s) ∙ ap (λ z. more_stmts (fill_stmt bodies s) z) (filled_stmts ss)

    pub filled_else : (x : MaybeStmt) → fill_else bodies (hollow_else chosen x) ≡ fill_else bodies x
    filled_else no_stmt = refl
    filled_else (some_stmt s) = ap (λ z. some_stmt z) (filled_stmt s)

    pub filled_clauses : (x : Clauses) → fill_clauses bodies (hollow_clauses chosen x) ≡ fill_clauses bodies x
    filled_clauses no_clauses = refl
    filled_clauses (more_clauses test items cs) = ap (λ z. more_clauses z (fill_stmts bodies (hollow_stmts chosen items)) (fill_clauses bodies (hollow_clauses chosen cs))) (filled_maybe test) ∙ ap (λ z. more_clauses (fill_maybe bodies test) z (fill_clauses bodies (hollow_clauses chosen cs))) (filled_stmts items) ∙ ap (λ z. more_clauses (fill_maybe bodies test) (fill_stmts bodies items) z) (filled_clauses cs)

  pub filled_own : (x : Body) → fill_own bodies (hollow_own chosen x) ≡ fill_own bodies x
  filled_own (tree.BracedBody items) = ap (λ z. tree.BracedBody z) (filled_stmts items)
  filled_own (tree.ShortBody value) = ap (λ z. tree.ShortBody z) (filled value)

  -- a function is the same with other bodies inside it
  pub same_inside : (x : Function) → fill_alone bodies (hollow_inside chosen x) ≡ fill_alone bodies x
  same_inside (function form start end name ps comma bare body) =
      ap (λ z. function form start end name z comma bare (fill_own bodies (hollow_own chosen body))) (filled_params ps) ∙ ap (λ z. function form start end name (fill_params bodies ps) comma bare z) (filled_own body)
