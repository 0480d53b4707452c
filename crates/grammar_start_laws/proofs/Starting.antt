-- The functions of a tree start at places of their own, in the order of the source.
use Rattle.std.proofs.Common.{ℕ, suc, inl, ◌∷◌, ◌++◌, Bool, true, false, refl}
use Rattle.script_grammar.specs.declared.token.FuncForm.{FuncForm}
use Rattle.script_grammar.specs.declared.token.FuncForm.TheVariants as form
use Rattle.script_grammar.specs.Tree.{Named, Expr, Exprs, no_exprs, more_exprs, MaybeExpr, no_expr, some_expr, MaybeArgs, no_args, some_args, Parts, no_parts, more_parts, Items, no_items, more_items, Operands, no_operands, more_operands, Tail, Tails, no_tails, more_tails, Key, Prop, Props, no_props, more_props, Function, function, Params, no_params, more_params, Body, Binds, no_binds, more_binds, Init, Each, Clauses, no_clauses, more_clauses, Stmt, Stmts, no_stmts, more_stmts, MaybeStmt, no_stmt, some_stmt}
use Rattle.script_grammar.specs.Tree as tree
use Rattle.script_grammar.specs.Pieces.{whole}
use Rattle.script_grammar.specs.Print.{print, print_list, print_more, print_maybe, print_args, print_parts, print_items, print_more_items, print_operands, print_tails, print_tail, print_key, print_props, print_more_props, print_prop, print_func, print_function, print_declared, print_params, print_more_params, print_initializer, print_body, print_binds, print_more_binds, print_stmts, print_else, print_init, print_each, print_clauses, print_test, print_stmt, parenthesized, arrow_pieces, param_depth, above}
use Rattle.script_grammar.specs.Proper.{Proper, ProperExprs, ProperMaybe, ProperOption, ProperArgs, ProperParts, ProperItems, ProperOperands, ProperTails, ProperTail, ProperKey, ProperProp, ProperProps, ProperFunction, ProperParams, ProperBody, ProperBinds, ProperInit, ProperEach, ProperClauses, ProperStmts, ProperElse, ProperStmt, BareIf}
use Rattle.grammar_start_laws.specs.Started.{started, started_exprs, started_maybe, started_args, started_parts, started_items, started_operands, started_tails, started_tail, started_key, started_prop, started_props, started_function, started_params, started_body, started_binds, started_init, started_each, started_clauses, started_stmt, started_stmts, started_else}
use Rattle.grammar_start_laws.specs.Keeping.{Keeps}
use Rattle.grammar_start_laws.proofs.KeepingLaws.{none, here, past, behind, both, ahead, keeps_from, keeps_glue, keeps_until}

-- a function starts where its parameters do, in front of those inside them
keeps_listed : (bare : Bool) (f : FuncForm) (start d : ℕ) (body : Body) (ps : Params) (comma : Bool) → BareIf bare f start ps comma → Keeps (started_params ps) (print_params whole (param_depth f bare d) d ps)
    → Keeps (record { start = start; body = body } ∷ started_params ps) (parenthesized bare start d (print_params whole (param_depth f bare d) d ps) comma)
keeps_listed false f start d body ps comma b k = here _ _ _ _ (inl refl) (ahead _ _ _ k)
keeps_listed true form.Arrow start d body (more_params name no_expr false no_params) comma b k = here _ _ _ _ (inl b.1) (none _)
keeps_listed true form.Arrow start d body (more_params name no_expr false (more_params n v r ps)) comma b k = absurd b
keeps_listed true form.Arrow start d body (more_params name no_expr true ps) comma b k = absurd b
keeps_listed true form.Arrow start d body (more_params name (some_expr e) rest ps) comma b k = absurd b
keeps_listed true form.Arrow start d body no_params comma b k = absurd b
keeps_listed true form.Script start d body ps comma b k = absurd b
keeps_listed true form.Function start d body ps comma b k = absurd b
keeps_listed true form.Method start d body ps comma b k = absurd b
keeps_listed true form.Getter start d body ps comma b k = absurd b
keeps_listed true form.Setter start d body ps comma b k = absurd b

-- a function's parameters, an arrow's mark and the body
keeps_parts_of : (bare : Bool) (f : FuncForm) (start end d : ℕ) (ps : Params) (comma : Bool) (body : Body) → BareIf bare f start ps comma → Keeps (started_params ps) (print_params whole (param_depth f bare d) d ps) → Keeps (started_body body) (print_body whole d end body)
    → Keeps (record { start = start; body = body } ∷ (started_params ps ++ started_body body)) (parenthesized bare start d (print_params whole (param_depth f bare d) d ps) comma ++ (arrow_pieces f d ++ print_body whole d end body))
keeps_parts_of bare f start end d ps comma body b k h = both _ _ _ _ (keeps_listed bare f start d body ps comma b k) (behind _ _ _ h)

mutual
  keeps : (d : ℕ) (x : Expr) → Proper whole x → Keeps (started x) (print whole d x)
  keeps d (tree.This at) p = none _
  keeps d (tree.Name name) p = none _
  keeps d (tree.Null at) p = none _
  keeps d (tree.True at) p = none _
  keeps d (tree.False at) p = none _
  keeps d (tree.Number at value) p = none _
  keeps d (tree.Str at end text) p = none _
  keeps d (tree.Template at first parts) p = past _ _ _ (keeps_parts d parts p)
  keeps d (tree.Array at items comma) p = past _ _ _ (ahead _ _ _ (keeps_items d items p.1))
  keeps d (tree.Object at props comma) p = past _ _ _ (ahead _ _ _ (keeps_props d props p.1))
  keeps d (tree.Func at f) p = keeps_func d at f p.1
  keeps d (tree.Paren at inner) p = past _ _ _ (ahead _ _ _ (keeps (suc d) inner p))
  keeps d (tree.Chain head tails) p = both _ _ _ _ (keeps d head p.1) (keeps_tails d tails p.3)
  keeps d (tree.New at callee args) p = past _ _ _ (both _ _ _ _ (keeps (suc d) callee p.1) (keeps_args (suc d) args p.2))
  keeps d (tree.Unary at op of is_word) p = past _ _ _ (keeps (suc d) of p.2)
  keeps d (tree.Update at op true of) p = past _ _ _ (keeps (suc d) of p.2)
  keeps d (tree.Update at op false of) p = ahead _ _ _ (keeps_from _ at _ (keeps d of p.2))
  keeps d (tree.Binary first rest) p = both _ _ _ _ (keeps d first p.3) (keeps_operands d rest _ p.4)
  keeps d (tree.Cond test then_value else_value) p = both _ _ _ _ (keeps d test p.1) (past _ _ _ (both _ _ _ _ (keeps (suc d) then_value p.3) (past _ _ _ (keeps (suc d) else_value p.5))))
  keeps d (tree.Assign op target value) p = both _ _ _ _ (keeps d target p.2) (past _ _ _ (keeps (suc d) value p.4))
  keeps d (tree.Comma items) p = keeps_list (above d) items p.1

  keeps_list : (d : ℕ) (x : Exprs) → ProperExprs whole x → Keeps (started_exprs x) (print_list whole d x)
  keeps_list d no_exprs p = none _
  keeps_list d (more_exprs e es) p = both _ _ _ _ (keeps (suc d) e p.1) (keeps_more d es p.2)

  keeps_more : (d : ℕ) (x : Exprs) → ProperExprs whole x → Keeps (started_exprs x) (print_more whole d x)
  keeps_more d no_exprs p = none _
  keeps_more d (more_exprs e es) p = past _ _ _ (both _ _ _ _ (keeps (suc d) e p.1) (keeps_more d es p.2))

  keeps_maybe : (d : ℕ) (x : MaybeExpr) → ProperMaybe whole x → Keeps (started_maybe x) (print_maybe whole d x)
  keeps_maybe d no_expr p = none _
  keeps_maybe d (some_expr e) p = keeps d e p.1

  keeps_option : (d : ℕ) (x : MaybeExpr) → ProperOption whole x → Keeps (started_maybe x) (print_maybe whole d x)
  keeps_option d no_expr p = none _
  keeps_option d (some_expr e) p = keeps d e p

  keeps_args : (d : ℕ) (x : MaybeArgs) → ProperArgs whole x → Keeps (started_args x) (print_args whole d x)
  keeps_args d no_args p = none _
  keeps_args d (some_args es comma) p = past _ _ _ (ahead _ _ _ (keeps_list d es p.1))

  keeps_parts : (d : ℕ) (x : Parts) → ProperParts whole x → Keeps (started_parts x) (print_parts whole d x)
  keeps_parts d no_parts p = none _
  keeps_parts d (more_parts value behind_it rest) p = both _ _ _ _ (keeps (suc d) value p.0) (past _ _ _ (keeps_parts d rest p.1))

  keeps_items : (d : ℕ) (x : Items) → ProperItems whole x → Keeps (started_items x) (print_items whole d x)
  keeps_items d no_items p = none _
  keeps_items d (more_items i is) p = both _ _ _ _ (keeps_maybe (suc d) i p.0) (keeps_more_items d is p.1)

  keeps_more_items : (d : ℕ) (x : Items) → ProperItems whole x → Keeps (started_items x) (print_more_items whole d x)
  keeps_more_items d no_items p = none _
  keeps_more_items d (more_items i is) p = past _ _ _ (both _ _ _ _ (keeps_maybe (suc d) i p.0) (keeps_more_items d is p.1))

  keeps_operands : (d : ℕ) (x : Operands) (n : ℕ) → ProperOperands whole n x → Keeps (started_operands x) (print_operands whole d x)
  keeps_operands d no_operands n p = none _
  keeps_operands d (more_operands op is_word value rest) n p = past _ _ _ (both _ _ _ _ (keeps d value p.2) (keeps_operands d rest n p.3))

  keeps_tails : (d : ℕ) (x : Tails) → ProperTails whole x → Keeps (started_tails x) (print_tails whole d x)
  keeps_tails d no_tails p = none _
  keeps_tails d (more_tails t ts) p = both _ _ _ _ (keeps_tail d t p.0) (keeps_tails d ts p.1)

  keeps_tail : (d : ℕ) (x : Tail) → ProperTail whole x → Keeps (started_tail x) (print_tail whole d x)
  keeps_tail d (tree.Dot text) p = none _
  keeps_tail d (tree.Index e) p = past _ _ _ (ahead _ _ _ (keeps (suc d) e p))
  keeps_tail d (tree.Call es comma) p = past _ _ _ (ahead _ _ _ (keeps_list d es p.1))

  keeps_key : (d : ℕ) (x : Key) → ProperKey whole x → Keeps (started_key x) (print_key whole d x)
  keeps_key d (tree.WordKey n) p = none _
  keeps_key d (tree.StrKey n) p = none _
  keeps_key d (tree.NumberKey at value) p = none _
  keeps_key d (tree.ComputedKey e) p = past _ _ _ (ahead _ _ _ (keeps (suc d) e p.1))

  keeps_prop : (d : ℕ) (x : Prop) → ProperProp whole x → Keeps (started_prop x) (print_prop whole d x)
  keeps_prop d (tree.Short n) p = none _
  keeps_prop d (tree.Pair key value) p = both _ _ _ _ (keeps_key d key p.0) (past _ _ _ (keeps (suc d) value p.2))
  keeps_prop d (tree.Method key f) p = both _ _ _ _ (keeps_key d key p.0) (keeps_function d f p.2)
  keeps_prop d (tree.Get key f) p = past _ _ _ (both _ _ _ _ (keeps_key d key p.0) (keeps_function d f p.2))
  keeps_prop d (tree.Set key f) p = past _ _ _ (both _ _ _ _ (keeps_key d key p.0) (keeps_function d f p.2))

  keeps_props : (d : ℕ) (x : Props) → ProperProps whole x → Keeps (started_props x) (print_props whole d x)
  keeps_props d no_props p = none _
  keeps_props d (more_props q qs) p = both _ _ _ _ (keeps_prop d q p.0) (keeps_more_props d qs p.1)

  keeps_more_props : (d : ℕ) (x : Props) → ProperProps whole x → Keeps (started_props x) (print_more_props whole d x)
  keeps_more_props d no_props p = none _
  keeps_more_props d (more_props q qs) p = past _ _ _ (both _ _ _ _ (keeps_prop d q p.0) (keeps_more_props d qs p.1))

  keeps_func : (d at : ℕ) (x : Function) → ProperFunction whole x → Keeps (started_function x) (print_func whole d at x)
  keeps_func d at (function form start end name ps comma bare body) p = behind _ _ _ (keeps_parts_of bare form start end d ps comma body p.2 (keeps_params (param_depth form bare d) d ps p.3) (keeps_body d end body form p.4))

  keeps_function : (d : ℕ) (x : Function) → ProperFunction whole x → Keeps (started_function x) (print_function whole d x)
  keeps_function d (function form start end name ps comma bare body) p = keeps_parts_of bare form start end d ps comma body p.2 (keeps_params (param_depth form bare d) d ps p.3) (keeps_body d end body form p.4)

  keeps_declared : (d : ℕ) (x : Function) → ProperFunction whole x → Keeps (started_function x) (print_declared whole d x)
  keeps_declared d (function form start end name ps comma bare body) p = past _ _ _ (behind _ _ _ (keeps_parts_of bare form start end d ps comma body p.2 (keeps_params (param_depth form bare d) d ps p.3) (keeps_body d end body form p.4)))

  keeps_params : (q d : ℕ) (x : Params) → ProperParams whole x → Keeps (started_params x) (print_params whole q d x)
  keeps_params q d no_params p = none _
  keeps_params q d (more_params name value rest ps) p = behind _ _ _ (past _ _ _ (both _ _ _ _ (keeps_initializer q value p.0) (keeps_more_params q d ps p.1)))

  keeps_more_params : (q d : ℕ) (x : Params) → ProperParams whole x → Keeps (started_params x) (print_more_params whole q d x)
  keeps_more_params q d no_params p = none _
  keeps_more_params q d (more_params name value rest ps) p = past _ _ _ (behind _ _ _ (past _ _ _ (both _ _ _ _ (keeps_initializer q value p.0) (keeps_more_params q d ps p.1))))

  keeps_initializer : (d : ℕ) (x : MaybeExpr) → ProperMaybe whole x → Keeps (started_maybe x) (print_initializer whole d x)
  keeps_initializer d no_expr p = none _
  keeps_initializer d (some_expr e) p = past _ _ _ (keeps (suc d) e p.1)

  keeps_body : (d end : ℕ) (x : Body) (f : FuncForm) → ProperBody whole f x → Keeps (started_body x) (print_body whole d end x)
  keeps_body d end (tree.BracedBody items) f p = past _ _ _ (ahead _ _ _ (keeps_stmts d items true p))
  keeps_body d end (tree.ShortBody value) f p = keeps_until _ end _ (keeps (suc d) value p.3)

  keeps_binds : (d : ℕ) (x : Binds) → ProperBinds whole x → Keeps (started_binds x) (print_binds whole d x)
  keeps_binds d no_binds p = none _
  keeps_binds d (more_binds name value bs) p = past _ _ _ (both _ _ _ _ (keeps_initializer d value p.0) (keeps_more_binds d bs p.1))

  keeps_more_binds : (d : ℕ) (x : Binds) → ProperBinds whole x → Keeps (started_binds x) (print_more_binds whole d x)
  keeps_more_binds d no_binds p = none _
  keeps_more_binds d (more_binds name value bs) p = past _ _ _ (past _ _ _ (both _ _ _ _ (keeps_initializer d value p.0) (keeps_more_binds d bs p.1)))

  pub keeps_stmts : (d : ℕ) (x : Stmts) (inside : Bool) → ProperStmts whole inside x → Keeps (started_stmts x) (print_stmts whole d x)
  keeps_stmts d no_stmts inside p = none _
  keeps_stmts d (more_stmts s ss) inside p = both _ _ _ _ (keeps_stmt (suc d) s inside p.0) (keeps_stmts d ss inside p.1)

  keeps_else : (d : ℕ) (x : MaybeStmt) (inside : Bool) → ProperElse whole inside x → Keeps (started_else x) (print_else whole d x)
  keeps_else d no_stmt inside p = none _
  keeps_else d (some_stmt s) inside p = past _ _ _ (keeps_stmt (suc d) s inside p.1)

  keeps_init : (d : ℕ) (x : Init) → ProperInit whole x → Keeps (started_init x) (print_init whole d x)
  keeps_init d tree.NoInit p = none _
  keeps_init d (tree.ValueInit e) p = keeps (suc d) e p.1
  keeps_init d (tree.BindsInit decl bs) p = past _ _ _ (keeps_binds d bs p.2)

  keeps_each : (d : ℕ) (x : Each) → ProperEach whole x → Keeps (started_each x) (print_each whole d x)
  keeps_each d (tree.TargetEach e) p = keeps (suc d) e p.1
  keeps_each d (tree.BindEach decl name) p = none _

  keeps_clauses : (d : ℕ) (x : Clauses) (inside : Bool) → ProperClauses whole inside x → Keeps (started_clauses x) (print_clauses whole d x)
  keeps_clauses d no_clauses inside p = none _
  keeps_clauses d (more_clauses test items cs) inside p = both _ _ _ _ (keeps_test d test p.0) (past _ _ _ (both _ _ _ _ (keeps_stmts d items inside p.1) (keeps_clauses d cs inside p.2)))

  keeps_test : (d : ℕ) (x : MaybeExpr) → ProperOption whole x → Keeps (started_maybe x) (print_test whole d x)
  keeps_test d no_expr p = none _
  keeps_test d (some_expr e) p = past _ _ _ (keeps (suc d) e p)

  keeps_stmt : (d : ℕ) (x : Stmt) (inside : Bool) → ProperStmt whole inside x → Keeps (started_stmt x) (print_stmt whole d x)
  keeps_stmt d (tree.Block items) inside p = past _ _ _ (ahead _ _ _ (keeps_stmts d items inside p))
  keeps_stmt d tree.Empty inside p = none _
  keeps_stmt d (tree.Debugger semi) inside p = none _
  keeps_stmt d (tree.Binding decl bs semi) inside p = past _ _ _ (ahead _ _ _ (keeps_binds d bs p.1))
  keeps_stmt d (tree.Value e semi) inside p = ahead _ _ _ (keeps (suc d) e p.2)
  keeps_stmt d (tree.If test then_stmt else_stmt) inside p = past _ _ _ (past _ _ _ (both _ _ _ _ (keeps (suc d) test p.0) (past _ _ _ (both _ _ _ _ (keeps_stmt (suc d) then_stmt inside p.2) (keeps_else d else_stmt inside p.4)))))
  keeps_stmt d (tree.Do body test semi) inside p = past _ _ _ (both _ _ _ _ (keeps_stmt (suc d) body inside p.1) (past _ _ _ (past _ _ _ (ahead _ _ _ (keeps (suc d) test p.2)))))
  keeps_stmt d (tree.While test body) inside p = past _ _ _ (past _ _ _ (both _ _ _ _ (keeps (suc d) test p.0) (past _ _ _ (keeps_stmt (suc d) body inside p.2))))
  keeps_stmt d (tree.For init test update body) inside p = past _ _ _ (past _ _ _ (both _ _ _ _ (keeps_init d init p.0) (past _ _ _ (both _ _ _ _ (keeps_option (suc d) test p.1) (past _ _ _ (both _ _ _ _ (keeps_option (suc d) update p.2) (past _ _ _ (keeps_stmt (suc d) body inside p.4))))))))
  keeps_stmt d (tree.ForIn each over body) inside p = past _ _ _ (past _ _ _ (both _ _ _ _ (keeps_each d each p.0) (past _ _ _ (both _ _ _ _ (keeps (suc d) over p.1) (past _ _ _ (keeps_stmt (suc d) body inside p.3))))))
  keeps_stmt d (tree.Continue at label semi) inside p = none _
  keeps_stmt d (tree.Break at label semi) inside p = none _
  keeps_stmt d (tree.Return value semi) inside p = past _ _ _ (ahead _ _ _ (keeps_glue _ _ (keeps_option (suc d) value p.1)))
  keeps_stmt d (tree.Throw e semi) inside p = past _ _ _ (ahead _ _ _ (keeps_glue _ _ (keeps (suc d) e p)))
  keeps_stmt d (tree.Switch of cs) inside p = past _ _ _ (past _ _ _ (both _ _ _ _ (keeps (suc d) of p.0) (past _ _ _ (past _ _ _ (ahead _ _ _ (keeps_clauses d cs inside p.2))))))
  keeps_stmt d (tree.Label name body) inside p = past _ _ _ (past _ _ _ (keeps_stmt (suc d) body inside p.1))
  keeps_stmt d (tree.Try body param handler) inside p = past _ _ _ (past _ _ _ (both _ _ _ _ (keeps_stmts d body inside p.0) (past _ _ _ (past _ _ _ (behind _ _ _ (past _ _ _ (ahead _ _ _ (keeps_stmts d handler inside p.1))))))))
  keeps_stmt d (tree.Declared f) inside p = keeps_declared d f p.1
