-- All braced bodies of a tree are their own where its functions' bodies are.
use Rattle.std.proofs.Common.{ℕ, List, true}
use Rattle.script_grammar.specs.Tree.{Expr, Exprs, no_exprs, more_exprs, MaybeExpr, no_expr, some_expr, MaybeArgs, no_args, some_args, Parts, no_parts, more_parts, Items, no_items, more_items, Operands, no_operands, more_operands, Tail, Tails, no_tails, more_tails, Key, Prop, Props, no_props, more_props, Function, function, Params, no_params, more_params, Body, Binds, no_binds, more_binds, Init, Each, Clauses, no_clauses, more_clauses, Stmt, Stmts, no_stmts, more_stmts, MaybeStmt, no_stmt, some_stmt}
use Rattle.script_grammar.specs.Tree as tree
use Rattle.script_grammar.specs.Braced.{in_expr, in_exprs, in_maybe_expr, in_maybe_args, in_parts, in_items, in_operands, in_tails, in_tail, in_key, in_prop, in_props, in_function, in_params, in_body, in_binds, in_init, in_each, in_clauses, in_stmt, in_stmts, in_maybe_stmt}
use Rattle.grammar_start_laws.specs.Started.{started, started_exprs, started_maybe, started_args, started_parts, started_items, started_operands, started_tails, started_tail, started_key, started_prop, started_props, started_function, started_params, started_body, started_binds, started_init, started_each, started_clauses, started_stmt, started_stmts, started_else}
use Rattle.grammar_start_laws.specs.Own.{AllOf, HasOwn, IsFilled}
use Rattle.grammar_start_laws.proofs.OwnBodies.{first_of, rest_of, same_stmts}

module _ (bodies : ℕ → Body) where
  mutual
    pub own_in_expr : (x : Expr) (r : List Stmts) → AllOf (HasOwn bodies) (started x) → AllOf (IsFilled bodies) r → AllOf (IsFilled bodies) (in_expr true x r)
    own_in_expr (tree.This at) r h k = k
    own_in_expr (tree.Name name) r h k = k
    own_in_expr (tree.Null at) r h k = k
    own_in_expr (tree.True at) r h k = k
    own_in_expr (tree.False at) r h k = k
    own_in_expr (tree.Number at value) r h k = k
    own_in_expr (tree.Str at end text) r h k = k
    own_in_expr (tree.Template at first parts) r h k = own_in_parts parts r h k
    own_in_expr (tree.Array at items comma) r h k = own_in_items items r h k
    own_in_expr (tree.Object at props comma) r h k = own_in_props props r h k
    own_in_expr (tree.Func at f) r h k = own_in_function f r h k
    own_in_expr (tree.Paren at inner) r h k = own_in_expr inner r h k
    own_in_expr (tree.Chain head tails) r h k = own_in_expr head _ (first_of _ (started head) _ h) (own_in_tails tails r (rest_of _ (started head) _ h) k)
    own_in_expr (tree.New at callee args) r h k = own_in_expr callee _ (first_of _ (started callee) _ h) (own_in_maybe_args args r (rest_of _ (started callee) _ h) k)
    own_in_expr (tree.Unary at op of is_word) r h k = own_in_expr of r h k
    own_in_expr (tree.Update at op prefix of) r h k = own_in_expr of r h k
    own_in_expr (tree.Binary first rest) r h k = own_in_expr first _ (first_of _ (started first) _ h) (own_in_operands rest r (rest_of _ (started first) _ h) k)
    own_in_expr (tree.Cond test then_value else_value) r h k = own_in_expr test _ (first_of _ (started test) _ h) (own_in_expr then_value _ (first_of _ (started then_value) _ (rest_of _ (started test) _ h)) (own_in_expr else_value r (rest_of _ (started then_value) _ (rest_of _ (started test) _ h)) k))
    own_in_expr (tree.Assign op target value) r h k = own_in_expr target _ (first_of _ (started target) _ h) (own_in_expr value r (rest_of _ (started target) _ h) k)
    own_in_expr (tree.Comma items) r h k = own_in_exprs items r h k

    pub own_in_exprs : (x : Exprs) (r : List Stmts) → AllOf (HasOwn bodies) (started_exprs x) → AllOf (IsFilled bodies) r → AllOf (IsFilled bodies) (in_exprs true x r)
    own_in_exprs no_exprs r h k = k
    own_in_exprs (more_exprs e es) r h k = own_in_expr e _ (first_of _ (started e) _ h) (own_in_exprs es r (rest_of _ (started e) _ h) k)

    pub own_in_maybe_expr : (x : MaybeExpr) (r : List Stmts) → AllOf (HasOwn bodies) (started_maybe x) → AllOf (IsFilled bodies) r → AllOf (IsFilled bodies) (in_maybe_expr true x r)
    own_in_maybe_expr no_expr r h k = k
    own_in_maybe_expr (some_expr e) r h k = own_in_expr e r h k

    pub own_in_maybe_args : (x : MaybeArgs) (r : List Stmts) → AllOf (HasOwn bodies) (started_args x) → AllOf (IsFilled bodies) r → AllOf (IsFilled bodies) (in_maybe_args true x r)
    own_in_maybe_args no_args r h k = k
    own_in_maybe_args (some_args es comma) r h k = own_in_exprs es r h k

    pub own_in_parts : (x : Parts) (r : List Stmts) → AllOf (HasOwn bodies) (started_parts x) → AllOf (IsFilled bodies) r → AllOf (IsFilled bodies) (in_parts true x r)
    own_in_parts no_parts r h k = k
    own_in_parts (more_parts value behind rest) r h k = own_in_expr value _ (first_of _ (started value) _ h) (own_in_parts rest r (rest_of _ (started value) _ h) k)

    pub own_in_items : (x : Items) (r : List Stmts) → AllOf (HasOwn bodies) (started_items x) → AllOf (IsFilled bodies) r → AllOf (IsFilled bodies) (in_items true x r)
    own_in_items no_items r h k = k
    own_in_items (more_items i is) r h k = own_in_maybe_expr i _ (first_of _ (started_maybe i) _ h) (own_in_items is r (rest_of _ (started_maybe i) _ h) k)

    pub own_in_operands : (x : Operands) (r : List Stmts) → AllOf (HasOwn bodies) (started_operands x) → AllOf (IsFilled bodies) r → AllOf (IsFilled bodies) (in_operands true x r)
    own_in_operands no_operands r h k = k
    own_in_operands (more_operands op is_word value rest) r h k = own_in_expr value _ (first_of _ (started value) _ h) (own_in_operands rest r (rest_of _ (started value) _ h) k)

    pub own_in_tails : (x : Tails) (r : List Stmts) → AllOf (HasOwn bodies) (started_tails x) → AllOf (IsFilled bodies) r → AllOf (IsFilled bodies) (in_tails true x r)
    own_in_tails no_tails r h k = k
    own_in_tails (more_tails t ts) r h k = own_in_tail t _ (first_of _ (started_tail t) _ h) (own_in_tails ts r (rest_of _ (started_tail t) _ h) k)

    pub own_in_tail : (x : Tail) (r : List Stmts) → AllOf (HasOwn bodies) (started_tail x) → AllOf (IsFilled bodies) r → AllOf (IsFilled bodies) (in_tail true x r)
    own_in_tail (tree.Dot text) r h k = k
    own_in_tail (tree.Index e) r h k = own_in_expr e r h k
    own_in_tail (tree.Call es comma) r h k = own_in_exprs es r h k

    pub own_in_key : (x : Key) (r : List Stmts) → AllOf (HasOwn bodies) (started_key x) → AllOf (IsFilled bodies) r → AllOf (IsFilled bodies) (in_key true x r)
    own_in_key (tree.WordKey n) r h k = k
    own_in_key (tree.StrKey n) r h k = k
    own_in_key (tree.NumberKey at value) r h k = k
    own_in_key (tree.ComputedKey e) r h k = own_in_expr e r h k

    pub own_in_prop : (x : Prop) (r : List Stmts) → AllOf (HasOwn bodies) (started_prop x) → AllOf (IsFilled bodies) r → AllOf (IsFilled bodies) (in_prop true x r)
    own_in_prop (tree.Short n) r h k = k
    own_in_prop (tree.Pair key value) r h k = own_in_key key _ (first_of _ (started_key key) _ h) (own_in_expr value r (rest_of _ (started_key key) _ h) k)
    own_in_prop (tree.Method key f) r h k = own_in_key key _ (first_of _ (started_key key) _ h) (own_in_function f r (rest_of _ (started_key key) _ h) k)
    own_in_prop (tree.Get key f) r h k = own_in_key key _ (first_of _ (started_key key) _ h) (own_in_function f r (rest_of _ (started_key key) _ h) k)
    own_in_prop (tree.Set key f) r h k = own_in_key key _ (first_of _ (started_key key) _ h) (own_in_function f r (rest_of _ (started_key key) _ h) k)

    pub own_in_props : (x : Props) (r : List Stmts) → AllOf (HasOwn bodies) (started_props x) → AllOf (IsFilled bodies) r → AllOf (IsFilled bodies) (in_props true x r)
    own_in_props no_props r h k = k
    own_in_props (more_props p ps) r h k = own_in_prop p _ (first_of _ (started_prop p) _ h) (own_in_props ps r (rest_of _ (started_prop p) _ h) k)

    pub own_in_function : (x : Function) (r : List Stmts) → AllOf (HasOwn bodies) (started_function x) → AllOf (IsFilled bodies) r → AllOf (IsFilled bodies) (in_function true x r)
    own_in_function (function form start end name params comma bare body) r h k = own_in_params params _ (first_of _ (started_params params) _ h.1) (own_in_body body r (rest_of _ (started_params params) _ h.1) k)

    pub own_in_params : (x : Params) (r : List Stmts) → AllOf (HasOwn bodies) (started_params x) → AllOf (IsFilled bodies) r → AllOf (IsFilled bodies) (in_params true x r)
    own_in_params no_params r h k = k
    own_in_params (more_params name value rest ps) r h k = own_in_maybe_expr value _ (first_of _ (started_maybe value) _ h) (own_in_params ps r (rest_of _ (started_maybe value) _ h) k)

    pub own_in_body : (x : Body) (r : List Stmts) → AllOf (HasOwn bodies) (started_body x) → AllOf (IsFilled bodies) r → AllOf (IsFilled bodies) (in_body true x r)
    own_in_body (tree.BracedBody items) r h k = (same_stmts bodies items h, own_in_stmts items r h k)
    own_in_body (tree.ShortBody value) r h k = own_in_expr value r h k

    pub own_in_binds : (x : Binds) (r : List Stmts) → AllOf (HasOwn bodies) (started_binds x) → AllOf (IsFilled bodies) r → AllOf (IsFilled bodies) (in_binds true x r)
    own_in_binds no_binds r h k = k
    own_in_binds (more_binds name value bs) r h k = own_in_maybe_expr value _ (first_of _ (started_maybe value) _ h) (own_in_binds bs r (rest_of _ (started_maybe value) _ h) k)

    pub own_in_init : (x : Init) (r : List Stmts) → AllOf (HasOwn bodies) (started_init x) → AllOf (IsFilled bodies) r → AllOf (IsFilled bodies) (in_init true x r)
    own_in_init tree.NoInit r h k = k
    own_in_init (tree.ValueInit e) r h k = own_in_expr e r h k
    own_in_init (tree.BindsInit decl bs) r h k = own_in_binds bs r h k

    pub own_in_each : (x : Each) (r : List Stmts) → AllOf (HasOwn bodies) (started_each x) → AllOf (IsFilled bodies) r → AllOf (IsFilled bodies) (in_each true x r)
    own_in_each (tree.TargetEach e) r h k = own_in_expr e r h k
    own_in_each (tree.BindEach decl name) r h k = k

    pub own_in_clauses : (x : Clauses) (r : List Stmts) → AllOf (HasOwn bodies) (started_clauses x) → AllOf (IsFilled bodies) r → AllOf (IsFilled bodies) (in_clauses true x r)
    own_in_clauses no_clauses r h k = k
    own_in_clauses (more_clauses test items cs) r h k = own_in_maybe_expr test _ (first_of _ (started_maybe test) _ h) (own_in_stmts items _ (first_of _ (started_stmts items) _ (rest_of _ (started_maybe test) _ h)) (own_in_clauses cs r (rest_of _ (started_stmts items) _ (rest_of _ (started_maybe test) _ h)) k))

    pub own_in_stmt : (x : Stmt) (r : List Stmts) → AllOf (HasOwn bodies) (started_stmt x) → AllOf (IsFilled bodies) r → AllOf (IsFilled bodies) (in_stmt true x r)
    own_in_stmt (tree.Block items) r h k = own_in_stmts items r h k
    own_in_stmt tree.Empty r h k = k
    own_in_stmt (tree.Debugger semi) r h k = k
    own_in_stmt (tree.Binding decl bs semi) r h k = own_in_binds bs r h k
    own_in_stmt (tree.Value e semi) r h k = own_in_expr e r h k
    own_in_stmt (tree.If test then_stmt else_stmt) r h k = own_in_expr test _ (first_of _ (started test) _ h) (own_in_stmt then_stmt _ (first_of _ (started_stmt then_stmt) _ (rest_of _ (started test) _ h)) (own_in_maybe_stmt else_stmt r (rest_of _ (started_stmt then_stmt) _ (rest_of _ (started test) _ h)) k))
    own_in_stmt (tree.Do body test semi) r h k = own_in_stmt body _ (first_of _ (started_stmt body) _ h) (own_in_expr test r (rest_of _ (started_stmt body) _ h) k)
    own_in_stmt (tree.While test body) r h k = own_in_expr test _ (first_of _ (started test) _ h) (own_in_stmt body r (rest_of _ (started test) _ h) k)
    own_in_stmt (tree.For init test update body) r h k = own_in_init init _ (first_of _ (started_init init) _ h) (own_in_maybe_expr test _ (first_of _ (started_maybe test) _ (rest_of _ (started_init init) _ h)) (own_in_maybe_expr update _ (first_of _ (started_maybe update) _ (rest_of _ (started_maybe test) _ (rest_of _ (started_init init) _ h))) (own_in_stmt body r (rest_of _ (started_maybe update) _ (rest_of _ (started_maybe test) _ (rest_of _ (started_init init) _ h))) k)))
    own_in_stmt (tree.ForIn each over body) r h k = own_in_each each _ (first_of _ (started_each each) _ h) (own_in_expr over _ (first_of _ (started over) _ (rest_of _ (started_each each) _ h)) (own_in_stmt body r (rest_of _ (started over) _ (rest_of _ (started_each each) _ h)) k))
    own_in_stmt (tree.Continue at label semi) r h k = k
    own_in_stmt (tree.Break at label semi) r h k = k
    own_in_stmt (tree.Return value semi) r h k = own_in_maybe_expr value r h k
    own_in_stmt (tree.Throw e semi) r h k = own_in_expr e r h k
    own_in_stmt (tree.Switch of cs) r h k = own_in_expr of _ (first_of _ (started of) _ h) (own_in_clauses cs r (rest_of _ (started of) _ h) k)
    own_in_stmt (tree.Label name body) r h k = own_in_stmt body r h k
    own_in_stmt (tree.Try body param handler) r h k = own_in_stmts body _ (first_of _ (started_stmts body) _ h) (own_in_stmts handler r (rest_of _ (started_stmts body) _ h) k)
    own_in_stmt (tree.Declared f) r h k = own_in_function f r h k

    pub own_in_stmts : (x : Stmts) (r : List Stmts) → AllOf (HasOwn bodies) (started_stmts x) → AllOf (IsFilled bodies) r → AllOf (IsFilled bodies) (in_stmts true x r)
    own_in_stmts no_stmts r h k = k
    own_in_stmts (more_stmts s ss) r h k = own_in_stmt s _ (first_of _ (started_stmt s) _ h) (own_in_stmts ss r (rest_of _ (started_stmt s) _ h) k)

    pub own_in_maybe_stmt : (x : MaybeStmt) (r : List Stmts) → AllOf (HasOwn bodies) (started_else x) → AllOf (IsFilled bodies) r → AllOf (IsFilled bodies) (in_maybe_stmt true x r)
    own_in_maybe_stmt no_stmt r h k = k
    own_in_maybe_stmt (some_stmt s) r h k = own_in_stmt s r h k
