-- A walk over the functions directly in a part of a tree: what holds of each of them and of where it is printed holds of all, and of the
-- part's print.
use Rattle.std.proofs.Common.{ℕ, suc, List, [], ◌∷◌, ◌++◌, Bool, true, false, Option, sym, subst, append_assoc}
use Rattle.script_grammar.specs.declared.token.FuncForm.{FuncForm}
use Rattle.script_grammar.specs.Tree.{Expr, Exprs, no_exprs, more_exprs, MaybeExpr, no_expr, some_expr, MaybeArgs, no_args, some_args, Parts, no_parts, more_parts, Items, no_items, more_items, Operands, no_operands, more_operands, Tail, Tails, no_tails, more_tails, Key, Prop, Props, no_props, more_props, Function, function, Params, no_params, more_params, Body, Binds, no_binds, more_binds, Init, Each, Clauses, no_clauses, more_clauses, Stmt, Stmts, no_stmts, more_stmts, MaybeStmt, no_stmt, some_stmt}
use Rattle.script_grammar.specs.Tree as tree
use Rattle.script_grammar.specs.Pieces.{whole, Piece, from, glue, until}
use Rattle.script_grammar.specs.Print.{print, print_list, print_more, print_maybe, print_args, print_parts, print_items, print_more_items, print_operands, print_tails, print_tail, print_key, print_props, print_more_props, print_prop, print_func, print_function, print_declared, print_params, print_more_params, print_initializer, print_body, print_binds, print_more_binds, print_stmts, print_else, print_init, print_each, print_clauses, print_test, print_stmt, parenthesized, param_depth, above, print_catch_param, ellipsis, arrow_pieces}
use Rattle.script_grammar.specs.Proper.{Proper, IsFuncExpression, ProperExprs, ProperMaybe, ProperOption, ProperArgs, ProperParts, ProperItems, ProperOperands, ProperTails, ProperTail, ProperKey, ProperProp, ProperProps, ProperFunction, ProperParams, ProperBody, ProperBinds, ProperInit, ProperEach, ProperClauses, ProperStmts, ProperElse, ProperStmt}
use Rattle.stencil_data.specs.declared.functions.FuncKind.{FuncKind}
use Rattle.stencil_data.specs.declared.functions.FuncKind.TheVariants as func
use Rattle.scope_analysis.specs.DeclaredNames.{Text, has_initializer}
use Rattle.scope_analysis.specs.Functions.{Inner, expression_kind, function_form, named_inner, nameless_inner, inner_expr, inner_exprs, inner_maybe, inner_args, inner_parts, inner_items, inner_operands, inner_tails, inner_tail, inner_key, inner_prop, inner_props, inner_binds, inner_init, inner_each, inner_stmt, inner_stmts, inner_else, inner_clauses, inner_params, inner_body, params_around, inner_function, inner_script}

-- Found is ps says something of these functions and of these places. It goes from parts to what is put together of them, and it holds of
-- each form of a function.
pub record Walk (Found : List Inner → List Piece → Type 0) : Type 0 where
  pub none : (ps : List Piece) → Found [] ps
  pub before : (is : List Inner) (rs ps : List Piece) → Found is ps → Found is (rs ++ ps)
  pub after : (is : List Inner) (rs ps : List Piece) → Found is ps → Found is (ps ++ rs)
  pub both : (is js : List Inner) (ps qs : List Piece) → Found is ps → Found js qs → Found (is ++ js) (ps ++ qs)
  -- what else is asked of the first or the last place
  pub from_place : (is : List Inner) (n : ℕ) (ps : List Piece) → Found is ps → Found is (from n ps)
  pub glue_place : (is : List Inner) (ps : List Piece) → Found is ps → Found is (glue ps)
  pub until_place : (is : List Inner) (n : ℕ) (ps : List Piece) → Found is ps → Found is (until n ps)
  -- a function as an expression, as a declaration, and as a method
  pub expression : (d at : ℕ) (f : Function) (around : List ℕ) → IsFuncExpression at f → ProperFunction whole f → Found (named_inner (expression_kind (function_form f)) f around) (print_func whole d at f)
  pub declaration : (d : ℕ) (f : Function) (around : List ℕ) → ProperFunction whole f → Found (named_inner func.Declared f around) (print_declared whole d f)
  pub method : (d : ℕ) (kind : FuncKind) (f : Function) (around : List ℕ) → ProperFunction whole f → Found (nameless_inner kind f around) (print_function whole d f)

module _ (Found : List Inner → List Piece → Type 0) (w : Walk Found) where
  none : {ps : List Piece} → Found [] ps
  none {ps} = w.none ps

  before : {is : List Inner} {ps : List Piece} (rs : List Piece) → Found is ps → Found is (rs ++ ps)
  before {is} {ps} rs h = w.before is rs ps h

  past : {is : List Inner} {ps : List Piece} {p : Piece} → Found is ps → Found is (p ∷ ps)
  past {p = p} h = before (p ∷ []) h

  after : {is : List Inner} {ps : List Piece} (rs : List Piece) → Found is ps → Found is (ps ++ rs)
  after {is} {ps} rs h = w.after is rs ps h

  both : {is js : List Inner} {ps qs : List Piece} → Found is ps → Found js qs → Found (is ++ js) (ps ++ qs)
  both {is} {js} {ps} {qs} h k = w.both is js ps qs h k

  from_walked : {is : List Inner} {ps : List Piece} (n : ℕ) → Found is ps → Found is (from n ps)
  from_walked {is} {ps} n h = w.from_place is n ps h

  glue_walked : {is : List Inner} {ps : List Piece} → Found is ps → Found is (glue ps)
  glue_walked {is} {ps} h = w.glue_place is ps h

  until_walked : {is : List Inner} {ps : List Piece} (n : ℕ) → Found is ps → Found is (until n ps)
  until_walked {is} {ps} n h = w.until_place is n ps h

  -- three and four parts, listed from the left
  three : {is js ks : List Inner} {ps qs rs : List Piece} (p : Piece) → Found is ps → Found js qs → Found ks rs → Found ((is ++ js) ++ ks) (ps ++ (p ∷ (qs ++ rs)))
  three {is} {js} {ks} {ps} {qs} {rs} p h k l = subst (λ (xs : List Inner). Found xs (ps ++ (p ∷ (qs ++ rs)))) (sym (append_assoc is js ks)) (both h (past {p = p} (both k l)))

  four : {is js ks xs : List Inner} {ps qs rs ss : List Piece} (p q : Piece) → Found is ps → Found js qs → Found ks rs → Found xs ss
      → Found (((is ++ js) ++ ks) ++ xs) (ps ++ (p ∷ (qs ++ (q ∷ (rs ++ ss)))))
  four {is} {js} {ks} {xs} {ps} {qs} {rs} {ss} p q h k l m =
      subst (λ (ys : List Inner). Found ys (ps ++ (p ∷ (qs ++ (q ∷ (rs ++ ss)))))) (sym (append_assoc (is ++ js) ks xs)) (three p h k (past {p = q} (both l m)))

  -- ---- expressions

  mutual
    in_expr : (d : ℕ) (x : Expr) (around : List ℕ) → Proper whole x → Found (inner_expr x around) (print whole d x)
    in_expr d (tree.This at) around p = none
    in_expr d (tree.Name name) around p = none
    in_expr d (tree.Null at) around p = none
    in_expr d (tree.True at) around p = none
    in_expr d (tree.False at) around p = none
    in_expr d (tree.Number at value) around p = none
    in_expr d (tree.Str at end text) around p = none
    in_expr d (tree.Template at first parts) around p = past (in_parts d parts around p)
    in_expr d (tree.Array at items comma) around p = past (after _ (in_items d items around p.1))
    in_expr d (tree.Object at props comma) around p = past (after _ (in_props d props around p.1))
    in_expr d (tree.Func at f) around p = w.expression d at f around p.0 p.1
    in_expr d (tree.Paren at inner) around p = past (after _ (in_expr (suc d) inner around p))
    in_expr d (tree.Chain head tails) around p = both (in_expr d head around p.1) (in_tails d tails around p.3)
    in_expr d (tree.New at callee args) around p = past (both (in_expr (suc d) callee around p.1) (in_args (suc d) args around p.2))
    in_expr d (tree.Unary at op of is_word) around p = past (in_expr (suc d) of around p.2)
    in_expr d (tree.Update at op true of) around p = past (in_expr (suc d) of around p.2)
    in_expr d (tree.Update at op false of) around p = after _ (from_walked at (in_expr d of around p.2))
    in_expr d (tree.Binary first rest) around p = both (in_expr d first around p.3) (in_operands d rest _ around p.4)
    in_expr d (tree.Cond test then_value else_value) around p = three _ (in_expr d test around p.1) (in_expr (suc d) then_value around p.3) (past (in_expr (suc d) else_value around p.5))
    in_expr d (tree.Assign op target value) around p = both (in_expr d target around p.2) (past (in_expr (suc d) value around p.4))
    in_expr d (tree.Comma items) around p = in_list (above d) items around p.1

    in_list : (d : ℕ) (x : Exprs) (around : List ℕ) → ProperExprs whole x → Found (inner_exprs x around) (print_list whole d x)
    in_list d no_exprs around p = none
    in_list d (more_exprs e es) around p = both (in_expr (suc d) e around p.1) (in_more d es around p.2)

    in_more : (d : ℕ) (x : Exprs) (around : List ℕ) → ProperExprs whole x → Found (inner_exprs x around) (print_more whole d x)
    in_more d no_exprs around p = none
    in_more d (more_exprs e es) around p = past (both (in_expr (suc d) e around p.1) (in_more d es around p.2))

    in_maybe : (d : ℕ) (x : MaybeExpr) (around : List ℕ) → ProperMaybe whole x → Found (inner_maybe x around) (print_maybe whole d x)
    in_maybe d no_expr around p = none
    in_maybe d (some_expr e) around p = in_expr d e around p.1

    in_option : (d : ℕ) (x : MaybeExpr) (around : List ℕ) → ProperOption whole x → Found (inner_maybe x around) (print_maybe whole d x)
    in_option d no_expr around p = none
    in_option d (some_expr e) around p = in_expr d e around p

    in_args : (d : ℕ) (x : MaybeArgs) (around : List ℕ) → ProperArgs whole x → Found (inner_args x around) (print_args whole d x)
    in_args d no_args around p = none
    in_args d (some_args es comma) around p = past (after _ (in_list d es around p.1))

    in_parts : (d : ℕ) (x : Parts) (around : List ℕ) → ProperParts whole x → Found (inner_parts x around) (print_parts whole d x)
    in_parts d no_parts around p = none
    in_parts d (more_parts value behind_it rest) around p = both (in_expr (suc d) value around p.0) (past (in_parts d rest around p.1))

    in_items : (d : ℕ) (x : Items) (around : List ℕ) → ProperItems whole x → Found (inner_items x around) (print_items whole d x)
    in_items d no_items around p = none
    in_items d (more_items i is) around p = both (in_maybe (suc d) i around p.0) (in_more_items d is around p.1)

    in_more_items : (d : ℕ) (x : Items) (around : List ℕ) → ProperItems whole x → Found (inner_items x around) (print_more_items whole d x)
    in_more_items d no_items around p = none
    in_more_items d (more_items i is) around p = past (both (in_maybe (suc d) i around p.0) (in_more_items d is around p.1))

    in_operands : (d : ℕ) (x : Operands) (n : ℕ) (around : List ℕ) → ProperOperands whole n x → Found (inner_operands x around) (print_operands whole d x)
    in_operands d no_operands n around p = none
    in_operands d (more_operands op is_word value rest) n around p = past (both (in_expr d value around p.2) (in_operands d rest n around p.3))

    in_tails : (d : ℕ) (x : Tails) (around : List ℕ) → ProperTails whole x → Found (inner_tails x around) (print_tails whole d x)
    in_tails d no_tails around p = none
    in_tails d (more_tails t ts) around p = both (in_tail d t around p.0) (in_tails d ts around p.1)

    in_tail : (d : ℕ) (x : Tail) (around : List ℕ) → ProperTail whole x → Found (inner_tail x around) (print_tail whole d x)
    in_tail d (tree.Dot text) around p = none
    in_tail d (tree.Index e) around p = past (after _ (in_expr (suc d) e around p))
    in_tail d (tree.Call es comma) around p = past (after _ (in_list d es around p.1))

    in_key : (d : ℕ) (x : Key) (around : List ℕ) → ProperKey whole x → Found (inner_key x around) (print_key whole d x)
    in_key d (tree.WordKey n) around p = none
    in_key d (tree.StrKey n) around p = none
    in_key d (tree.NumberKey at value) around p = none
    in_key d (tree.ComputedKey e) around p = past (after _ (in_expr (suc d) e around p.1))

    in_prop : (d : ℕ) (x : Prop) (around : List ℕ) → ProperProp whole x → Found (inner_prop x around) (print_prop whole d x)
    in_prop d (tree.Short n) around p = none
    in_prop d (tree.Pair key value) around p = both (in_key d key around p.0) (past (in_expr (suc d) value around p.2))
    in_prop d (tree.Method key f) around p = both (in_key d key around p.0) (w.method d _ f around p.2)
    in_prop d (tree.Get key f) around p = past (both (in_key d key around p.0) (w.method d _ f around p.2))
    in_prop d (tree.Set key f) around p = past (both (in_key d key around p.0) (w.method d _ f around p.2))

    in_props : (d : ℕ) (x : Props) (around : List ℕ) → ProperProps whole x → Found (inner_props x around) (print_props whole d x)
    in_props d no_props around p = none
    in_props d (more_props q qs) around p = both (in_prop d q around p.0) (in_more_props d qs around p.1)

    in_more_props : (d : ℕ) (x : Props) (around : List ℕ) → ProperProps whole x → Found (inner_props x around) (print_more_props whole d x)
    in_more_props d no_props around p = none
    in_more_props d (more_props q qs) around p = past (both (in_prop d q around p.0) (in_more_props d qs around p.1))

  -- ---- names with initializers, and heads of loops

  in_initializer : (d : ℕ) (x : MaybeExpr) (around : List ℕ) → ProperMaybe whole x → Found (inner_maybe x around) (print_initializer whole d x)
  in_initializer d no_expr around p = none
  in_initializer d (some_expr e) around p = past (in_expr (suc d) e around p.1)

  in_more_binds : (d : ℕ) (x : Binds) (around : List ℕ) → ProperBinds whole x → Found (inner_binds x around) (print_more_binds whole d x)
  in_more_binds d no_binds around p = none
  in_more_binds d (more_binds name value bs) around p = past (past (both (in_initializer d value around p.0) (in_more_binds d bs around p.1)))

  in_binds : (d : ℕ) (x : Binds) (around : List ℕ) → ProperBinds whole x → Found (inner_binds x around) (print_binds whole d x)
  in_binds d no_binds around p = none
  in_binds d (more_binds name value bs) around p = past (both (in_initializer d value around p.0) (in_more_binds d bs around p.1))

  in_init : (d : ℕ) (x : Init) (around : List ℕ) → ProperInit whole x → Found (inner_init x around) (print_init whole d x)
  in_init d tree.NoInit around p = none
  in_init d (tree.ValueInit e) around p = in_expr (suc d) e around p.1
  in_init d (tree.BindsInit decl bs) around p = past (in_binds d bs around p.2)

  in_each : (d : ℕ) (x : Each) (around : List ℕ) → ProperEach whole x → Found (inner_each x around) (print_each whole d x)
  in_each d (tree.TargetEach e) around p = in_expr (suc d) e around p.1
  in_each d (tree.BindEach decl name) around p = none

  in_test : (d : ℕ) (x : MaybeExpr) (around : List ℕ) → ProperOption whole x → Found (inner_maybe x around) (print_test whole d x)
  in_test d no_expr around p = none
  in_test d (some_expr e) around p = past (in_expr (suc d) e around p)

  -- ---- statements

  mutual
    in_stmts : (d : ℕ) (x : Stmts) (next : ℕ) (around : List ℕ) (inside : Bool) → ProperStmts whole inside x → Found (inner_stmts x next around) (print_stmts whole d x)
    in_stmts d no_stmts next around inside p = none
    in_stmts d (more_stmts s ss) next around inside p = both (in_stmt (suc d) s next around inside p.0) (in_stmts d ss _ around inside p.1)

    in_else : (d : ℕ) (x : MaybeStmt) (next : ℕ) (around : List ℕ) (inside : Bool) → ProperElse whole inside x → Found (inner_else x next around) (print_else whole d x)
    in_else d no_stmt next around inside p = none
    in_else d (some_stmt s) next around inside p = past (in_stmt (suc d) s next around inside p.1)

    in_clauses : (d : ℕ) (x : Clauses) (next : ℕ) (around : List ℕ) (inside : Bool) → ProperClauses whole inside x → Found (inner_clauses x next around) (print_clauses whole d x)
    in_clauses d no_clauses next around inside p = none
    in_clauses d (more_clauses test items cs) next around inside p = three _ (in_test d test around p.0) (in_stmts d items next around inside p.1) (in_clauses d cs _ around inside p.2)

    in_stmt : (d : ℕ) (x : Stmt) (next : ℕ) (around : List ℕ) (inside : Bool) → ProperStmt whole inside x → Found (inner_stmt x next around) (print_stmt whole d x)
    in_stmt d (tree.Block items) next around inside p = past (after _ (in_stmts d items _ _ inside p))
    in_stmt d tree.Empty next around inside p = none
    in_stmt d (tree.Debugger semi) next around inside p = none
    in_stmt d (tree.Binding decl bs semi) next around inside p = past (after _ (in_binds d bs around p.1))
    in_stmt d (tree.Value e semi) next around inside p = after _ (in_expr (suc d) e around p.2)
    in_stmt d (tree.If test then_stmt else_stmt) next around inside p = past (past (three _ (in_expr (suc d) test around p.0) (in_stmt (suc d) then_stmt next around inside p.2) (in_else d else_stmt _ around inside p.4)))
    in_stmt d (tree.Do body test semi) next around inside p = past (both (in_stmt (suc d) body next around inside p.1) (past (past (after _ (in_expr (suc d) test around p.2)))))
    in_stmt d (tree.While test body) next around inside p = past (past (both (in_expr (suc d) test around p.0) (past (in_stmt (suc d) body next around inside p.2))))
    in_stmt d (tree.For init test update body) next around inside p =
        past (past (four _ _ (in_init d init _ p.0) (in_option (suc d) test _ p.1) (in_option (suc d) update _ p.2) (past (in_stmt (suc d) body _ _ inside p.4))))
    in_stmt d (tree.ForIn each over body) next around inside p =
        past (past (three _ (in_each d each _ p.0) (in_expr (suc d) over _ p.1) (past (in_stmt (suc d) body _ _ inside p.3))))
    in_stmt d (tree.Continue at label semi) next around inside p = none
    in_stmt d (tree.Break at label semi) next around inside p = none
    in_stmt d (tree.Return value semi) next around inside p = past (after _ (glue_walked (in_option (suc d) value around p.1)))
    in_stmt d (tree.Throw e semi) next around inside p = past (after _ (glue_walked (in_expr (suc d) e around p)))
    in_stmt d (tree.Switch of cs) next around inside p = past (past (both (in_expr (suc d) of around p.0) (past (past (after _ (in_clauses d cs _ _ inside p.2))))))
    in_stmt d (tree.Label name body) next around inside p = past (past (in_stmt (suc d) body next around inside p.1))
    in_stmt d (tree.Try body param handler) next around inside p =
        past (past (both (in_stmts d body _ _ inside p.0)
        (past (past (before (print_catch_param param d) (past (after _ (in_stmts d handler _ _ inside p.1))))))))
    in_stmt d (tree.Declared f) next around inside p = w.declaration d f around p.1

  -- ---- functions

  mutual
    in_params : (q d : ℕ) (x : Params) (around : List ℕ) → ProperParams whole x → Found (inner_params x around) (print_params whole q d x)
    in_params q d no_params around p = none
    in_params q d (more_params name value rest ps) around p = before (ellipsis rest q) (past (both (in_initializer q value around p.0) (in_more_params q d ps around p.1)))

    in_more_params : (q d : ℕ) (x : Params) (around : List ℕ) → ProperParams whole x → Found (inner_params x around) (print_more_params whole q d x)
    in_more_params q d no_params around p = none
    in_more_params q d (more_params name value rest ps) around p = past (before (ellipsis rest q) (past (both (in_initializer q value around p.0) (in_more_params q d ps around p.1))))

  in_listed : {is : List Inner} (bare : Bool) (start d : ℕ) (comma : Bool) {ps : List Piece} → Found is ps → Found is (parenthesized bare start d ps comma)
  in_listed true start d comma k = k
  in_listed false start d comma k = past (after _ k)

  in_body : (d end : ℕ) (form : FuncForm) (initialized : Bool) (x : Body) (next : ℕ) (around : List ℕ) → ProperBody whole form x → Found (inner_body initialized x next around) (print_body whole d end x)
  in_body d end form initialized (tree.ShortBody value) next around p = until_walked end (in_expr (suc d) value around p.3)
  in_body d end form initialized (tree.BracedBody items) next around p = past (after _ (in_stmts d items _ _ true p))

  -- The functions directly in a function, as it is printed from its parameters on.
  pub in_function : (d : ℕ) (kind : FuncKind) (name : Option Text) (f : Function) → ProperFunction whole f → Found (inner_function kind name f) (print_function whole d f)
  in_function d kind name (function form start end who ps comma bare body) p =
      both (in_listed bare start d comma (in_params (param_depth form bare d) d ps (params_around kind name) p.3))
      (before (arrow_pieces form d) (in_body d end form (has_initializer ps) body _ (params_around kind name) p.4))

  -- The functions directly in a script.
  pub in_script : (items : Stmts) → ProperStmts whole false items → Found (inner_script items) (print_stmts whole 0 items)
  in_script items p = in_stmts 0 items 1 (0 ∷ []) false p
