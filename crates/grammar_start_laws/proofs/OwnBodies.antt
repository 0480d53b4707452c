-- A tree is itself where its bodies are its own: who knows the body of each function by where it starts fills the tree with
-- what stood there.
use Rattle.std.proofs.Common.{ℕ, ◌≡◌, ◌∙◌, List, [], ◌∷◌, ◌++◌, refl, ap}
use Rattle.script_grammar.specs.Tree.{Expr, Exprs, no_exprs, more_exprs, MaybeExpr, no_expr, some_expr, MaybeArgs, no_args, some_args, Parts, no_parts, more_parts, Items, no_items, more_items, Operands, no_operands, more_operands, Tail, Tails, no_tails, more_tails, Key, Prop, Props, no_props, more_props, Function, function, Params, no_params, more_params, Body, Binds, no_binds, more_binds, Init, Each, Clauses, no_clauses, more_clauses, Stmt, Stmts, no_stmts, more_stmts, MaybeStmt, no_stmt, some_stmt}
use Rattle.script_grammar.specs.Tree as tree
use Rattle.grammar_parser_specs.specs.Filling.{fill, fill_exprs, fill_maybe, fill_args, fill_parts, fill_items, fill_operands, fill_tails, fill_tail, fill_key, fill_prop, fill_props, fill_function, fill_params, fill_body, fill_binds, fill_init, fill_each, fill_clauses, fill_stmt, fill_stmts, fill_else}
use Rattle.grammar_start_laws.specs.Started.{Started, started, started_exprs, started_maybe, started_args, started_parts, started_items, started_operands, started_tails, started_tail, started_key, started_prop, started_props, started_function, started_params, started_body, started_binds, started_init, started_each, started_clauses, started_stmt, started_stmts, started_else}
use Rattle.grammar_start_laws.specs.Own.{AllOf, HasOwn}

module _ (P : Started → Type 0) where
  pub first_of : (xs ys : List Started) → AllOf P (xs ++ ys) → AllOf P xs
  first_of [] ys h = tt
  first_of (x ∷ xs) ys h = (h.0, first_of xs ys h.1)

  pub rest_of : (xs ys : List Started) → AllOf P (xs ++ ys) → AllOf P ys
  rest_of [] ys h = h
  rest_of (x ∷ xs) ys h = rest_of xs ys h.1

module _ (bodies : ℕ → Body) where
  mutual
    pub same : (x : Expr) → AllOf (HasOwn bodies) (started x) → fill bodies x ≡ x
    same (tree.This at) h = refl
    same (tree.Name name) h = refl
    same (tree.Null at) h = refl
    same (tree.True at) h = refl
    same (tree.False at) h = refl
    same (tree.Number at value) h = refl
    same (tree.Str at end text) h = refl
    same (tree.Template at first parts) h = ap (λ x. tree.Template at first x) (same_parts parts h)
    same (tree.Array at items comma) h = ap (λ x. tree.Array at x comma) (same_items items h)
    same (tree.Object at props comma) h = ap (λ x. tree.Object at x comma) (same_props props h)
    same (tree.Func at f) h = ap (λ x. tree.Func at x) (same_function f h)
    same (tree.Paren at inner) h = ap (λ x. tree.Paren at x) (same inner h)
    same (tree.Chain head tails) h = ap (λ x. tree.Chain x (fill_tails bodies tails)) (same head (first_of _ (started head) _ h)) ∙ ap (λ x. tree.Chain head x) (same_tails tails (rest_of _ (started head) _ h))
    same (tree.New at callee args) h = ap (λ x. tree.New at x (fill_args bodies args)) (same callee (first_of _ (started callee) _ h)) ∙ ap (λ x. tree.New at callee x) (same_args args (rest_of _ (started callee) _ h))
    same (tree.Unary at op of is_word) h = ap (λ x. tree.Unary at op x is_word) (same of h)
    same (tree.Update at op prefix of) h = ap (λ x. tree.Update at op prefix x) (same of h)
    same (tree.Binary first rest) h = ap (λ x. tree.Binary x (fill_operands bodies rest)) (same first (first_of _ (started first) _ h)) ∙ ap (λ x. tree.Binary first x) (same_operands rest (rest_of _ (started first) _ h))
    same (tree.Cond test then_value else_value) h = ap (λ x. tree.Cond x (fill bodies then_value) (fill bodies else_value)) (same test (first_of _ (started test) _ h)) ∙ ap (λ x. tree.Cond test x (fill bodies else_value)) (same then_value (first_of _ (started then_value) _ (rest_of _ (started test) _ h))) ∙ ap (λ x. tree.Cond test then_value x) (same else_value (rest_of _ (started then_value) _ (rest_of _ (started test) _ h)))
    same (tree.Assign op target value) h = ap (λ x. tree.Assign op x (fill bodies value)) (same target (first_of _ (started target) _ h)) ∙ ap (λ x. tree.Assign op target x) (same value (rest_of _ (started target) _ h))
    same (tree.Comma items) h = ap (λ x. tree.Comma x) (same_exprs items h)

    pub same_exprs : (x : Exprs) → AllOf (HasOwn bodies) (started_exprs x) → fill_exprs bodies x ≡ x
    same_exprs no_exprs h = refl
    same_exprs (more_exprs e es) h = ap (λ x. more_exprs x (fill_exprs bodies es)) (same e (first_of _ (started e) _ h)) ∙ ap (λ x. more_exprs e x) (same_exprs es (rest_of _ (started e) _ h))

    pub same_maybe : (x : MaybeExpr) → AllOf (HasOwn bodies) (started_maybe x) → fill_maybe bodies x ≡ x
    same_maybe no_expr h = refl
    same_maybe (some_expr e) h = ap (λ x. some_expr x) (same e h)

    pub same_args : (x : MaybeArgs) → AllOf (HasOwn bodies) (started_args x) → fill_args bodies x ≡ x
    same_args no_args h = refl
    same_args (some_args es comma) h = ap (λ x. some_args x comma) (same_exprs es h)

    pub same_parts : (x : Parts) → AllOf (HasOwn bodies) (started_parts x) → fill_parts bodies x ≡ x
    same_parts no_parts h = refl
    same_parts (more_parts value behind rest) h = ap (λ x. more_parts x behind (fill_parts bodies rest)) (same value (first_of _ (started value) _ h)) ∙ ap (λ x. more_parts value behind x) (same_parts rest (rest_of _ (started value) _ h))

    pub same_items : (x : Items) → AllOf (HasOwn bodies) (started_items x) → fill_items bodies x ≡ x
    same_items no_items h = refl
    same_items (more_items i is) h = ap (λ x. more_items x (fill_items bodies is)) (same_maybe i (first_of _ (started_maybe i) _ h)) ∙ ap (λ x. more_items i x) (same_items is (rest_of _ (started_maybe i) _ h))

    pub same_operands : (x : Operands) → AllOf (HasOwn bodies) (started_operands x) → fill_operands bodies x ≡ x
    same_operands no_operands h = refl
    same_operands (more_operands op is_word value rest) h = ap (λ x. more_operands op is_word x (fill_operands bodies rest)) (same value (first_of _ (started value) _ h)) ∙ ap (λ x. more_operands op is_word value x) (same_operands rest (rest_of _ (started value) _ h))

    pub same_tails : (x : Tails) → AllOf (HasOwn bodies) (started_tails x) → fill_tails bodies x ≡ x
    same_tails no_tails h = refl
    same_tails (more_tails t ts) h = ap (λ x. more_tails x (fill_tails bodies ts)) (same_tail t (first_of _ (started_tail t) _ h)) ∙ ap (λ x. more_tails t x) (same_tails ts (rest_of _ (started_tail t) _ h))

    pub same_tail : (x : Tail) → AllOf (HasOwn bodies) (started_tail x) → fill_tail bodies x ≡ x
    same_tail (tree.Dot text) h = refl
    same_tail (tree.Index e) h = ap (λ x. tree.Index x) (same e h)
    same_tail (tree.Call es comma) h = ap (λ x. tree.Call x comma) (same_exprs es h)

    pub same_key : (x : Key) → AllOf (HasOwn bodies) (started_key x) → fill_key bodies x ≡ x
    same_key (tree.WordKey n) h = refl
    same_key (tree.StrKey n) h = refl
    same_key (tree.NumberKey at value) h = refl
    same_key (tree.ComputedKey e) h = ap (λ x. tree.ComputedKey x) (same e h)

    pub same_prop : (x : Prop) → AllOf (HasOwn bodies) (started_prop x) → fill_prop bodies x ≡ x
    same_prop (tree.Short n) h = refl
    same_prop (tree.Pair key value) h = ap (λ x. tree.Pair x (fill bodies value)) (same_key key (first_of _ (started_key key) _ h)) ∙ ap (λ x. tree.Pair key x) (same value (rest_of _ (started_key key) _ h))
    same_prop (tree.Method key f) h = ap (λ x. tree.Method x (fill_function bodies f)) (same_key key (first_of _ (started_key key) _ h)) ∙ ap (λ x. tree.Method key x) (same_function f (rest_of _ (started_key key) _ h))
    same_prop (tree.Get key f) h = ap (λ x. tree.Get x (fill_function bodies f)) (same_key key (first_of _ (started_key key) _ h)) ∙ ap (λ x. tree.Get key x) (same_function f (rest_of _ (started_key key) _ h))
    same_prop (tree.Set key f) h = ap (λ x. tree.Set x (fill_function bodies f)) (same_key key (first_of _ (started_key key) _ h)) ∙ ap (λ x. tree.Set key x) (same_function f (rest_of _ (started_key key) _ h))

    pub same_props : (x : Props) → AllOf (HasOwn bodies) (started_props x) → fill_props bodies x ≡ x
    same_props no_props h = refl
    same_props (more_props p ps) h = ap (λ x. more_props x (fill_props bodies ps)) (same_prop p (first_of _ (started_prop p) _ h)) ∙ ap (λ x. more_props p x) (same_props ps (rest_of _ (started_prop p) _ h))

    pub same_function : (x : Function) → AllOf (HasOwn bodies) (started_function x) → fill_function bodies x ≡ x
    same_function (function form start end name params comma bare body) h =
        ap (λ x. function form start end name x comma bare (fill_body bodies start body)) (same_params params (first_of _ (started_params params) _ h.1))
        ∙ ap (λ x. function form start end name params comma bare x) (same_body start body h.0 (rest_of _ (started_params params) _ h.1))

    pub same_params : (x : Params) → AllOf (HasOwn bodies) (started_params x) → fill_params bodies x ≡ x
    same_params no_params h = refl
    same_params (more_params name value rest ps) h = ap (λ x. more_params name x rest (fill_params bodies ps)) (same_maybe value (first_of _ (started_maybe value) _ h)) ∙ ap (λ x. more_params name value rest x) (same_params ps (rest_of _ (started_maybe value) _ h))

    pub same_binds : (x : Binds) → AllOf (HasOwn bodies) (started_binds x) → fill_binds bodies x ≡ x
    same_binds no_binds h = refl
    same_binds (more_binds name value bs) h = ap (λ x. more_binds name x (fill_binds bodies bs)) (same_maybe value (first_of _ (started_maybe value) _ h)) ∙ ap (λ x. more_binds name value x) (same_binds bs (rest_of _ (started_maybe value) _ h))

    pub same_init : (x : Init) → AllOf (HasOwn bodies) (started_init x) → fill_init bodies x ≡ x
    same_init tree.NoInit h = refl
    same_init (tree.ValueInit e) h = ap (λ x. tree.ValueInit x) (same e h)
    same_init (tree.BindsInit decl bs) h = ap (λ x. tree.BindsInit decl x) (same_binds bs h)

    pub same_each : (x : Each) → AllOf (HasOwn bodies) (started_each x) → fill_each bodies x ≡ x
    same_each (tree.TargetEach e) h = ap (λ x. tree.TargetEach x) (same e h)
    same_each (tree.BindEach decl name) h = refl

    pub same_clauses : (x : Clauses) → AllOf (HasOwn bodies) (started_clauses x) → fill_clauses bodies x ≡ x
    same_clauses no_clauses h = refl
    same_clauses (more_clauses test items cs) h = ap (λ x. more_clauses x (fill_stmts bodies items) (fill_clauses bodies cs)) (same_maybe test (first_of _ (started_maybe test) _ h)) ∙ ap (λ x. more_clauses test x (fill_clauses bodies cs)) (same_stmts items (first_of _ (started_stmts items) _ (rest_of _ (started_maybe test) _ h))) ∙ ap (λ x. more_clauses test items x) (same_clauses cs (rest_of _ (started_stmts items) _ (rest_of _ (started_maybe test) _ h)))

    pub same_stmt : (x : Stmt) → AllOf (HasOwn bodies) (started_stmt x) → fill_stmt bodies x ≡ x
    same_stmt (tree.Block items) h = ap (λ x. tree.Block x) (same_stmts items h)
    same_stmt tree.Empty h = refl
    same_stmt (tree.Debugger semi) h = refl
    same_stmt (tree.Binding decl bs semi) h = ap (λ x. tree.Binding decl x semi) (same_binds bs h)
    same_stmt (tree.Value e semi) h = ap (λ x. tree.Value x semi) (same e h)
    same_stmt (tree.If test then_stmt else_stmt) h = ap (λ x. tree.If x (fill_stmt bodies then_stmt) (fill_else bodies else_stmt)) (same test (first_of _ (started test) _ h)) ∙ ap (λ x. tree.If test x (fill_else bodies else_stmt)) (same_stmt then_stmt (first_of _ (started_stmt then_stmt) _ (rest_of _ (started test) _ h))) ∙ ap (λ x. tree.If test then_stmt x) (same_else else_stmt (rest_of _ (started_stmt then_stmt) _ (rest_of _ (started test) _ h)))
    same_stmt (tree.Do body test semi) h = ap (λ x. tree.Do x (fill bodies test) semi) (same_stmt body (first_of _ (started_stmt body) _ h)) ∙ ap (λ x. tree.Do body x semi) (same test (rest_of _ (started_stmt body) _ h))
    same_stmt (tree.While test body) h = ap (λ x. tree.While x (fill_stmt bodies body)) (same test (first_of _ (started test) _ h)) ∙ ap (λ x. tree.While test x) (same_stmt body (rest_of _ (started test) _ h))
    same_stmt (tree.For init test update body) h = ap (λ x. tree.For x (fill_maybe bodies test) (fill_maybe bodies update) (fill_stmt bodies body)) (same_init init (first_of _ (started_init init) _ h)) ∙ ap (λ x. tree.For init x (fill_maybe bodies update) (fill_stmt bodies body)) (same_maybe test (first_of _ (started_maybe test) _ (rest_of _ (started_init init) _ h))) ∙ ap (λ x. tree.For init test x (fill_stmt bodies body)) (same_maybe update (first_of _ (started_maybe update) _ (rest_of _ (started_maybe test) _ (rest_of _ (started_init init) _ h)))) ∙ ap (λ x. tree.For init test update x) (same_stmt body (rest_of _ (started_maybe update) _ (rest_of _ (started_maybe test) _ (rest_of _ (started_init init) _ h))))
    same_stmt (tree.ForIn each over body) h = ap (λ x. tree.ForIn x (fill bodies over) (fill_stmt bodies body)) (same_each each (first_of _ (started_each each) _ h)) ∙ ap (λ x. tree.ForIn each x (fill_stmt bodies body)) (same over (first_of _ (started over) _ (rest_of _ (started_each each) _ h))) ∙ ap (λ x. tree.ForIn each over x) (same_stmt body (rest_of _ (started over) _ (rest_of _ (started_each each) _ h)))
    same_stmt (tree.Continue at label semi) h = refl
    same_stmt (tree.Break at label semi) h = refl
    same_stmt (tree.Return value semi) h = ap (λ x. tree.Return x semi) (same_maybe value h)
    same_stmt (tree.Throw e semi) h = ap (λ x. tree.Throw x semi) (same e h)
    same_stmt (tree.Switch of cs) h = ap (λ x. tree.Switch x (fill_clauses bodies cs)) (same of (first_of _ (started of) _ h)) ∙ ap (λ x. tree.Switch of x) (same_clauses cs (rest_of _ (started of) _ h))
    same_stmt (tree.Label name body) h = ap (λ x. tree.Label name x) (same_stmt body h)
    same_stmt (tree.Try body param handler) h = ap (λ x. tree.Try x param (fill_stmts bodies handler)) (same_stmts body (first_of _ (started_stmts body) _ h)) ∙ ap (λ x. tree.Try body param x) (same_stmts handler (rest_of _ (started_stmts body) _ h))
    same_stmt (tree.Declared f) h = ap (λ x. tree.Declared x) (same_function f h)

    pub same_stmts : (x : Stmts) → AllOf (HasOwn bodies) (started_stmts x) → fill_stmts bodies x ≡ x
    same_stmts no_stmts h = refl
    same_stmts (more_stmts s ss) h = ap (λ x. more_stmts x (fill_stmts bodies ss)) (same_stmt s (first_of _ (started_stmt s) _ h)) ∙ ap (λ x. more_stmts s x) (same_stmts ss (rest_of _ (started_stmt s) _ h))

    pub same_else : (x : MaybeStmt) → AllOf (HasOwn bodies) (started_else x) → fill_else bodies x ≡ x
    same_else no_stmt h = refl
    same_else (some_stmt s) h = ap (λ x. some_stmt x) (same_stmt s h)

    pub same_body : (start : ℕ) (body : Body) → HasOwn bodies (record { start = start; body = body }) → AllOf (HasOwn bodies) (started_body body) → fill_body bodies start body ≡ body
    same_body start (tree.BracedBody items) own h = own
    same_body start (tree.ShortBody value) own h = ap (λ x. tree.ShortBody x) (same value h)
