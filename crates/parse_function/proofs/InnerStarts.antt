-- What holds of all functions that start in a part of a tree holds of those that start in each function directly in it.
use Rattle.std.specs.Prelude.{Contains}
use Rattle.std.proofs.Common.{◌≡◌, ◌<◌, ℕ, zero, suc, List, [], ◌∷◌, ◌++◌, length, get_or, subst, arith, Bool}
use Rattle.script_grammar.specs.Tree.{Expr, Exprs, no_exprs, more_exprs, MaybeExpr, no_expr, some_expr, MaybeArgs, no_args, some_args, Parts, no_parts, more_parts, Items, no_items, more_items, Operands, no_operands, more_operands, Tail, Tails, no_tails, more_tails, Key, Prop, Props, no_props, more_props, Function, function, Params, no_params, more_params, Body, Binds, no_binds, more_binds, Init, Each, Clauses, no_clauses, more_clauses, Stmt, Stmts, no_stmts, more_stmts, MaybeStmt, no_stmt, some_stmt}
use Rattle.script_grammar.specs.Tree as tree
use Rattle.stencil_data.specs.declared.functions.FuncKind.{FuncKind}
use Rattle.scope_analysis.specs.DeclaredNames.{has_initializer}
use Rattle.scope_analysis.specs.Functions.{Inner, inner_expr, inner_exprs, inner_maybe, inner_args, inner_parts, inner_items, inner_operands, inner_tails, inner_tail, inner_key, inner_prop, inner_props, inner_binds, inner_init, inner_each, inner_stmt, inner_stmts, inner_else, inner_clauses, inner_params, inner_body, params_around, inner_function, inner_script}
use Rattle.grammar_start_laws.specs.Own.{AllOf}
use Rattle.grammar_start_laws.specs.Started.{Started, started, started_exprs, started_maybe, started_args, started_parts, started_items, started_operands, started_tails, started_tail, started_key, started_prop, started_props, started_function, started_params, started_body, started_binds, started_init, started_each, started_clauses, started_stmt, started_stmts, started_else}
use Rattle.grammar_start_laws.proofs.OwnBodies.{first_of, rest_of}
use Rattle.grammar_alone_laws.specs.Functions.{IsFunctionIn, directly, inside}

module _ (P : Started → Type 0) where
  abbrev pub AllInside : List Inner → Type 0
  AllInside [] = Unit {0}
  AllInside (i ∷ is) = AllOf P (started_function i.func) × AllInside is

  both : (is js : List Inner) → AllInside is → AllInside js → AllInside (is ++ js)
  both [] js h k = k
  both (i ∷ is) js h k = (h.0, both is js h.1 k)

  mutual
    in_expr : (x : Expr) (around : List ℕ) → AllOf P (started x) → AllInside (inner_expr x around)
    in_expr (tree.This at) around p = tt
    in_expr (tree.Name name) around p = tt
    in_expr (tree.Null at) around p = tt
    in_expr (tree.True at) around p = tt
    in_expr (tree.False at) around p = tt
    in_expr (tree.Number at value) around p = tt
    in_expr (tree.Str at end text) around p = tt
    in_expr (tree.Template at first parts) around p = in_parts parts around p
    in_expr (tree.Array at items comma) around p = in_items items around p
    in_expr (tree.Object at props comma) around p = in_props props around p
    in_expr (tree.Func at f) around p = (p, tt)
    in_expr (tree.Paren at inner) around p = in_expr inner around p
    in_expr (tree.Chain head tails) around p = both _ _ (in_expr head around (first_of P (started head) _ p)) (in_tails tails around (rest_of P (started head) _ p))
    in_expr (tree.New at callee args) around p = both _ _ (in_expr callee around (first_of P (started callee) _ p)) (in_args args around (rest_of P (started callee) _ p))
    in_expr (tree.Unary at op of is_word) around p = in_expr of around p
    in_expr (tree.Update at op prefix of) around p = in_expr of around p
    in_expr (tree.Binary first rest) around p = both _ _ (in_expr first around (first_of P (started first) _ p)) (in_operands rest around (rest_of P (started first) _ p))
    in_expr (tree.Cond test then_value else_value) around p =
        let behind = rest_of P (started test) _ p in
        both _ _ (both _ _ (in_expr test around (first_of P (started test) _ p)) (in_expr then_value around (first_of P (started then_value) _ behind))) (in_expr else_value around (rest_of P (started then_value) _ behind))
    in_expr (tree.Assign op target value) around p = both _ _ (in_expr target around (first_of P (started target) _ p)) (in_expr value around (rest_of P (started target) _ p))
    in_expr (tree.Comma items) around p = in_exprs items around p

    in_exprs : (x : Exprs) (around : List ℕ) → AllOf P (started_exprs x) → AllInside (inner_exprs x around)
    in_exprs no_exprs around p = tt
    in_exprs (more_exprs e es) around p = both _ _ (in_expr e around (first_of P (started e) _ p)) (in_exprs es around (rest_of P (started e) _ p))

    in_maybe : (x : MaybeExpr) (around : List ℕ) → AllOf P (started_maybe x) → AllInside (inner_maybe x around)
    in_maybe no_expr around p = tt
    in_maybe (some_expr e) around p = in_expr e around p

    in_args : (x : MaybeArgs) (around : List ℕ) → AllOf P (started_args x) → AllInside (inner_args x around)
    in_args no_args around p = tt
    in_args (some_args es comma) around p = in_exprs es around p

    in_parts : (x : Parts) (around : List ℕ) → AllOf P (started_parts x) → AllInside (inner_parts x around)
    in_parts no_parts around p = tt
    in_parts (more_parts value behind rest) around p = both _ _ (in_expr value around (first_of P (started value) _ p)) (in_parts rest around (rest_of P (started value) _ p))

    in_items : (x : Items) (around : List ℕ) → AllOf P (started_items x) → AllInside (inner_items x around)
    in_items no_items around p = tt
    in_items (more_items i is) around p = both _ _ (in_maybe i around (first_of P (started_maybe i) _ p)) (in_items is around (rest_of P (started_maybe i) _ p))

    in_operands : (x : Operands) (around : List ℕ) → AllOf P (started_operands x) → AllInside (inner_operands x around)
    in_operands no_operands around p = tt
    in_operands (more_operands op is_word value rest) around p = both _ _ (in_expr value around (first_of P (started value) _ p)) (in_operands rest around (rest_of P (started value) _ p))

    in_tails : (x : Tails) (around : List ℕ) → AllOf P (started_tails x) → AllInside (inner_tails x around)
    in_tails no_tails around p = tt
    in_tails (more_tails t ts) around p = both _ _ (in_tail t around (first_of P (started_tail t) _ p)) (in_tails ts around (rest_of P (started_tail t) _ p))

    in_tail : (x : Tail) (around : List ℕ) → AllOf P (started_tail x) → AllInside (inner_tail x around)
    in_tail (tree.Dot text) around p = tt
    in_tail (tree.Index e) around p = in_expr e around p
    in_tail (tree.Call es comma) around p = in_exprs es around p

    in_key : (x : Key) (around : List ℕ) → AllOf P (started_key x) → AllInside (inner_key x around)
    in_key (tree.WordKey n) around p = tt
    in_key (tree.StrKey n) around p = tt
    in_key (tree.NumberKey at value) around p = tt
    in_key (tree.ComputedKey e) around p = in_expr e around p

    in_prop : (x : Prop) (around : List ℕ) → AllOf P (started_prop x) → AllInside (inner_prop x around)
    in_prop (tree.Short n) around p = tt
    in_prop (tree.Pair key value) around p = both _ _ (in_key key around (first_of P (started_key key) _ p)) (in_expr value around (rest_of P (started_key key) _ p))
    in_prop (tree.Method key f) around p = both _ _ (in_key key around (first_of P (started_key key) _ p)) (rest_of P (started_key key) _ p, tt)
    in_prop (tree.Get key f) around p = both _ _ (in_key key around (first_of P (started_key key) _ p)) (rest_of P (started_key key) _ p, tt)
    in_prop (tree.Set key f) around p = both _ _ (in_key key around (first_of P (started_key key) _ p)) (rest_of P (started_key key) _ p, tt)

    in_props : (x : Props) (around : List ℕ) → AllOf P (started_props x) → AllInside (inner_props x around)
    in_props no_props around p = tt
    in_props (more_props q qs) around p = both _ _ (in_prop q around (first_of P (started_prop q) _ p)) (in_props qs around (rest_of P (started_prop q) _ p))

  in_binds : (x : Binds) (around : List ℕ) → AllOf P (started_binds x) → AllInside (inner_binds x around)
  in_binds no_binds around p = tt
  in_binds (more_binds name value bs) around p = both _ _ (in_maybe value around (first_of P (started_maybe value) _ p)) (in_binds bs around (rest_of P (started_maybe value) _ p))

  in_init : (x : Init) (around : List ℕ) → AllOf P (started_init x) → AllInside (inner_init x around)
  in_init tree.NoInit around p = tt
  in_init (tree.ValueInit e) around p = in_expr e around p
  in_init (tree.BindsInit decl bs) around p = in_binds bs around p

  in_each : (x : Each) (around : List ℕ) → AllOf P (started_each x) → AllInside (inner_each x around)
  in_each (tree.TargetEach e) around p = in_expr e around p
  in_each (tree.BindEach decl name) around p = tt

  mutual
    in_stmts : (x : Stmts) (next : ℕ) (around : List ℕ) → AllOf P (started_stmts x) → AllInside (inner_stmts x next around)
    in_stmts no_stmts next around p = tt
    in_stmts (more_stmts s ss) next around p = both _ _ (in_stmt s next around (first_of P (started_stmt s) _ p)) (in_stmts ss _ around (rest_of P (started_stmt s) _ p))

    in_else : (x : MaybeStmt) (next : ℕ) (around : List ℕ) → AllOf P (started_else x) → AllInside (inner_else x next around)
    in_else no_stmt next around p = tt
    in_else (some_stmt s) next around p = in_stmt s next around p

    in_clauses : (x : Clauses) (next : ℕ) (around : List ℕ) → AllOf P (started_clauses x) → AllInside (inner_clauses x next around)
    in_clauses no_clauses next around p = tt
    in_clauses (more_clauses test items cs) next around p =
        let behind = rest_of P (started_maybe test) _ p in
        both _ _ (both _ _ (in_maybe test around (first_of P (started_maybe test) _ p)) (in_stmts items next around (first_of P (started_stmts items) _ behind))) (in_clauses cs _ around (rest_of P (started_stmts items) _ behind))

    in_stmt : (x : Stmt) (next : ℕ) (around : List ℕ) → AllOf P (started_stmt x) → AllInside (inner_stmt x next around)
    in_stmt (tree.Block items) next around p = in_stmts items _ _ p
    in_stmt tree.Empty next around p = tt
    in_stmt (tree.Debugger semi) next around p = tt
    in_stmt (tree.Binding decl bs semi) next around p = in_binds bs around p
    in_stmt (tree.Value e semi) next around p = in_expr e around p
    in_stmt (tree.If test then_stmt else_stmt) next around p =
        let behind = rest_of P (started test) _ p in
        both _ _ (both _ _ (in_expr test around (first_of P (started test) _ p)) (in_stmt then_stmt next around (first_of P (started_stmt then_stmt) _ behind))) (in_else else_stmt _ around (rest_of P (started_stmt then_stmt) _ behind))
    in_stmt (tree.Do body test semi) next around p = both _ _ (in_stmt body next around (first_of P (started_stmt body) _ p)) (in_expr test around (rest_of P (started_stmt body) _ p))
    in_stmt (tree.While test body) next around p = both _ _ (in_expr test around (first_of P (started test) _ p)) (in_stmt body next around (rest_of P (started test) _ p))
    in_stmt (tree.For init test update body) next around p =
        let behind = rest_of P (started_init init) _ p in
        let last = rest_of P (started_maybe test) _ behind in
        both _ _ (both _ _ (both _ _ (in_init init _ (first_of P (started_init init) _ p)) (in_maybe test _ (first_of P (started_maybe test) _ behind))) (in_maybe update _ (first_of P (started_maybe update) _ last))) (in_stmt body _ _ (rest_of P (started_maybe update) _ last))
    in_stmt (tree.ForIn each over body) next around p =
        let behind = rest_of P (started_each each) _ p in
        both _ _ (both _ _ (in_each each _ (first_of P (started_each each) _ p)) (in_expr over _ (first_of P (started over) _ behind))) (in_stmt body _ _ (rest_of P (started over) _ behind))
    in_stmt (tree.Continue at label semi) next around p = tt
    in_stmt (tree.Break at label semi) next around p = tt
    in_stmt (tree.Return value semi) next around p = in_maybe value around p
    in_stmt (tree.Throw e semi) next around p = in_expr e around p
    in_stmt (tree.Switch of cs) next around p = both _ _ (in_expr of around (first_of P (started of) _ p)) (in_clauses cs _ _ (rest_of P (started of) _ p))
    in_stmt (tree.Label name body) next around p = in_stmt body next around p
    in_stmt (tree.Try body param handler) next around p = both _ _ (in_stmts body _ _ (first_of P (started_stmts body) _ p)) (in_stmts handler _ _ (rest_of P (started_stmts body) _ p))
    in_stmt (tree.Declared f) next around p = (p, tt)

  in_params : (x : Params) (around : List ℕ) → AllOf P (started_params x) → AllInside (inner_params x around)
  in_params no_params around p = tt
  in_params (more_params name value rest ps) around p = both _ _ (in_maybe value around (first_of P (started_maybe value) _ p)) (in_params ps around (rest_of P (started_maybe value) _ p))

  in_body : (initialized : Bool) (x : Body) (next : ℕ) (around : List ℕ) → AllOf P (started_body x) → AllInside (inner_body initialized x next around)
  in_body initialized (tree.ShortBody value) next around p = in_expr value around p
  in_body initialized (tree.BracedBody items) next around p = in_stmts items _ _ p

  in_function : (kind : FuncKind) (name : _) (f : Function) → AllOf P (started_function f) → AllInside (inner_function kind name f)
  in_function kind name (function form start end who ps comma bare body) p =
      both _ _ (in_params ps (params_around kind name) (first_of P (started_params ps) _ p.1)) (in_body (has_initializer ps) body _ (params_around kind name) (rest_of P (started_params ps) _ p.1))

  inside_at : (i : Inner) (is : List Inner) → AllInside is → Contains is i → AllOf P (started_function i.func)
  inside_at i is h c = at is c.0 h c.1 c.2
    where
      at : (is : List Inner) (k : ℕ) → AllInside is → k < length is → get_or is k i ≡ i → AllOf P (started_function i.func)
      at [] k h lt e = absurd (omega (arith, lt))
      at (j ∷ is) zero h lt e = subst (λ (x : Inner). AllOf P (started_function x.func)) e h.0
      at (j ∷ is) (suc k) h lt e = at is k h.1 (omega (arith, lt)) e

  -- of each function of a script, at any depth
  pub in_every : (items : Stmts) → AllOf P (started_stmts items) → (i : Inner) → IsFunctionIn items i → AllOf P (started_function i.func)
  in_every items p i (directly i' a) = inside_at i' (inner_script items) (in_stmts items 1 (0 ∷ []) p) a
  in_every items p i (inside outer i' o a) = inside_at i' (inner_function outer.kind outer.name outer.func) (in_function outer.kind outer.name outer.func (in_every items p outer o)) a
