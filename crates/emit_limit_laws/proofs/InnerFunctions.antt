-- The functions directly in a part of a tree are printed in its print, in the order of the source: each is among the
-- functions that start there, and its notes are among those of the part.
use Rattle.std.proofs.Common.{ℕ, zero, suc, ◌+◌, ◌*◌, ◌≤◌, List, [], ◌∷◌, length, Bool, true, false, cond, Option, None, arith}
use Rattle.script_grammar.specs.declared.token.FuncForm.{FuncForm}
use Rattle.script_grammar.specs.Tree.{Named, Expr, Exprs, no_exprs, more_exprs, MaybeExpr, no_expr, some_expr, MaybeArgs, no_args, some_args, Parts, no_parts, more_parts, Items, no_items, more_items, Operands, no_operands, more_operands, Tail, Tails, no_tails, more_tails, Key, Prop, Props, no_props, more_props, Function, function, Params, no_params, more_params, Body, Binds, no_binds, more_binds, Init, Each, Clauses, no_clauses, more_clauses, Stmt, Stmts, no_stmts, more_stmts, MaybeStmt, no_stmt, some_stmt}
use Rattle.script_grammar.specs.Tree as tree
use Rattle.script_grammar.specs.Kinds.{is_arrow_form}
use Rattle.script_grammar.specs.Pieces.{whole}
use Rattle.script_grammar.specs.Print.{print, print_list, print_more, print_maybe, print_args, print_parts, print_items, print_more_items, print_operands, print_tails, print_tail, print_key, print_props, print_more_props, print_prop, print_func, print_function, print_declared, print_params, print_more_params, print_initializer, print_body, print_binds, print_more_binds, print_stmts, print_else, print_init, print_each, print_clauses, print_test, print_stmt, parenthesized, param_depth, above, func_word, print_name, print_catch_param, ellipsis, arrow_pieces}
use Rattle.script_grammar.specs.Proper.{Proper, ProperExprs, ProperMaybe, ProperOption, ProperArgs, ProperParts, ProperItems, ProperOperands, ProperTails, ProperTail, ProperKey, ProperProp, ProperProps, ProperFunction, ProperParams, ProperBody, ProperBinds, ProperInit, ProperEach, ProperClauses, ProperStmts, ProperElse, ProperStmt}
use Rattle.parse_track.specs.declared.region.Early.{Early}
use Rattle.parse_track.specs.Notes.{notes_expr, notes_exprs, notes_maybe, notes_args, notes_parts, notes_items, notes_operands, notes_tails, notes_tail, notes_key, notes_prop, notes_props, notes_function, notes_params, notes_body, notes_binds, notes_init, notes_each, notes_clauses, notes_stmt, notes_stmts, notes_maybe_stmt}
use Rattle.stencil_data.specs.declared.functions.FuncKind.{FuncKind}
use Rattle.scope_analysis.specs.DeclaredNames.{Text, Declaration, has_initializer, lexical_names, top_lexical_names, init_lexical_names, each_lexical_names, clauses_lexical_names}
use Rattle.scope_analysis.specs.Scopes.{callee_names, body_var_names, catch_names}
use Rattle.scope_analysis.specs.Functions.{Inner, enclosed, inner_expr, inner_exprs, inner_maybe, inner_args, inner_parts, inner_items, inner_operands, inner_tails, inner_tail, inner_key, inner_prop, inner_props, inner_binds, inner_init, inner_each, inner_stmt, inner_stmts, inner_else, inner_clauses, inner_params, inner_body, params_around, inner_function, inner_script}
use Rattle.grammar_start_laws.specs.Started.{Started, started, started_exprs, started_maybe, started_args, started_parts, started_items, started_operands, started_tails, started_tail, started_key, started_prop, started_props, started_function, started_params, started_body, started_binds, started_init, started_each, started_clauses, started_stmt, started_stmts, started_else}
use Rattle.emit_limit_laws.specs.Inside.{Inside, started_inside}
use Rattle.emit_limit_laws.proofs.InsideLaws.{none, inside_from, inside_glue, inside_until, both, before, past, after, noted, three, four, alone}

-- ---- levels

deeper : {n : ℕ} (d : ℕ) → n ≤ 4 * d → n ≤ 4 * suc d
deeper d h = omega (arith, h)

-- in a comma list
level : {n : ℕ} (d : ℕ) → n ≤ 4 * d → n ≤ 4 * suc (above d)
level zero h = omega (arith, h)
level (suc d) h = h

enclosed_length : (ds : List Declaration) (next : ℕ) (around : List ℕ) → length (enclosed ds next around) ≤ 1 + length around
enclosed_length [] next around = omega arith
enclosed_length (d ∷ ds) next around = omega arith

-- inside one scope more, and inside two
within_one : (c d : ℕ) (ds : List Declaration) (next : ℕ) (around : List ℕ) → length around + c ≤ 4 * d → length (enclosed ds next around) + c ≤ 4 * suc d
within_one c d ds next around h = let e = enclosed_length ds next around in omega (arith, e, h)

within_two : (c d : ℕ) (ds es : List Declaration) (next later : ℕ) (around : List ℕ) → length around + c ≤ 4 * d → length (enclosed es later (enclosed ds next around)) + c ≤ 4 * suc d
within_two c d ds es next later around h =
    let e = enclosed_length ds next around in
    let f = enclosed_length es later (enclosed ds next around) in
    omega (arith, e, f, h)

-- ---- expressions

-- a function as an expression or as a declaration, and one from its parameters on
inside_func : {c : ℕ} (d : ℕ) (at : ℕ) (kind : FuncKind) (name : Option Text) (f : Function) (around : List ℕ) → ProperFunction whole f → length around + c ≤ 4 * d
    → Inside c (record { func = f; kind = kind; name = name; around = around } ∷ []) (print_func whole d at f) (started_function f) (notes_function f)
inside_func {c} d at kind name (function form start end who ps comma bare body) around p h = before (func_word form at who d) (alone _ (record { func = function form start end who ps comma bare body; kind = kind; name = name; around = around }) p h)

inside_declared : {c : ℕ} (d : ℕ) (kind : FuncKind) (name : Option Text) (f : Function) (around : List ℕ) → ProperFunction whole f → length around + c ≤ 4 * d
    → Inside c (record { func = f; kind = kind; name = name; around = around } ∷ []) (print_declared whole d f) (started_function f) (notes_function f)
inside_declared {c} d kind name (function form start end who ps comma bare body) around p h = past (before (print_name who d) (alone _ (record { func = function form start end who ps comma bare body; kind = kind; name = name; around = around }) p h))

inside_method : {c : ℕ} (d : ℕ) (kind : FuncKind) (f : Function) (around : List ℕ) → ProperFunction whole f → length around + c ≤ 4 * d
    → Inside c (record { func = f; kind = kind; name = None; around = around } ∷ []) (print_function whole d f) (started_function f) (notes_function f)
inside_method d kind f around p h = alone _ (record { func = f; kind = kind; name = None; around = around }) p h

mutual
  in_expr : (c d : ℕ) (x : Expr) (around : List ℕ) → Proper whole x → length around + c ≤ 4 * d → Inside c (inner_expr x around) (print whole d x) (started x) (notes_expr x)
  in_expr c d (tree.This at) around p h = none
  in_expr c d (tree.Name name) around p h = none
  in_expr c d (tree.Null at) around p h = none
  in_expr c d (tree.True at) around p h = none
  in_expr c d (tree.False at) around p h = none
  in_expr c d (tree.Number at value) around p h = none
  in_expr c d (tree.Str at end text) around p h = none
  in_expr c d (tree.Template at first parts) around p h = past (in_parts c d parts around p h)
  in_expr c d (tree.Array at items comma) around p h = past (after _ (in_items c d items around p.1 h))
  in_expr c d (tree.Object at props comma) around p h = noted _ (past (after _ (in_props c d props around p.1 h)))
  in_expr c d (tree.Func at f) around p h = inside_func d at _ _ f around p.1 h
  in_expr c d (tree.Paren at inner) around p h = past (after _ (in_expr c (suc d) inner around p (deeper d h)))
  in_expr c d (tree.Chain head tails) around p h = both (in_expr c d head around p.1 h) (in_tails c d tails around p.3 h)
  in_expr c d (tree.New at callee args) around p h = past (both (in_expr c (suc d) callee around p.1 (deeper d h)) (in_args c (suc d) args around p.2 (deeper d h)))
  in_expr c d (tree.Unary at op of is_word) around p h = noted _ (past (in_expr c (suc d) of around p.2 (deeper d h)))
  in_expr c d (tree.Update at op true of) around p h = noted _ (past (in_expr c (suc d) of around p.2 (deeper d h)))
  in_expr c d (tree.Update at op false of) around p h = noted _ (after _ (inside_from at (in_expr c d of around p.2 h)))
  in_expr c d (tree.Binary first rest) around p h = both (in_expr c d first around p.3 h) (in_operands c d rest _ around p.4 h)
  in_expr c d (tree.Cond test then_value else_value) around p h = three _ (in_expr c d test around p.1 h) (in_expr c (suc d) then_value around p.3 (deeper d h)) (past (in_expr c (suc d) else_value around p.5 (deeper d h)))
  in_expr c d (tree.Assign op target value) around p h = noted _ (both (in_expr c d target around p.2 h) (past (in_expr c (suc d) value around p.4 (deeper d h))))
  in_expr c d (tree.Comma items) around p h = in_list c (above d) items around p.1 (level d h)

  in_list : (c d : ℕ) (x : Exprs) (around : List ℕ) → ProperExprs whole x → length around + c ≤ 4 * suc d → Inside c (inner_exprs x around) (print_list whole d x) (started_exprs x) (notes_exprs x)
  in_list c d no_exprs around p h = none
  in_list c d (more_exprs e es) around p h = both (in_expr c (suc d) e around p.1 h) (in_more c d es around p.2 h)

  in_more : (c d : ℕ) (x : Exprs) (around : List ℕ) → ProperExprs whole x → length around + c ≤ 4 * suc d → Inside c (inner_exprs x around) (print_more whole d x) (started_exprs x) (notes_exprs x)
  in_more c d no_exprs around p h = none
  in_more c d (more_exprs e es) around p h = past (both (in_expr c (suc d) e around p.1 h) (in_more c d es around p.2 h))

  in_maybe : (c d : ℕ) (x : MaybeExpr) (around : List ℕ) → ProperMaybe whole x → length around + c ≤ 4 * d → Inside c (inner_maybe x around) (print_maybe whole d x) (started_maybe x) (notes_maybe x)
  in_maybe c d no_expr around p h = none
  in_maybe c d (some_expr e) around p h = in_expr c d e around p.1 h

  in_option : (c d : ℕ) (x : MaybeExpr) (around : List ℕ) → ProperOption whole x → length around + c ≤ 4 * d → Inside c (inner_maybe x around) (print_maybe whole d x) (started_maybe x) (notes_maybe x)
  in_option c d no_expr around p h = none
  in_option c d (some_expr e) around p h = in_expr c d e around p h

  in_args : (c d : ℕ) (x : MaybeArgs) (around : List ℕ) → ProperArgs whole x → length around + c ≤ 4 * d → Inside c (inner_args x around) (print_args whole d x) (started_args x) (notes_args x)
  in_args c d no_args around p h = none
  in_args c d (some_args es comma) around p h = noted _ (past (after _ (in_list c d es around p.1 (deeper d h))))

  in_parts : (c d : ℕ) (x : Parts) (around : List ℕ) → ProperParts whole x → length around + c ≤ 4 * d → Inside c (inner_parts x around) (print_parts whole d x) (started_parts x) (notes_parts x)
  in_parts c d no_parts around p h = none
  in_parts c d (more_parts value behind_it rest) around p h = both (in_expr c (suc d) value around p.0 (deeper d h)) (past (in_parts c d rest around p.1 h))

  in_items : (c d : ℕ) (x : Items) (around : List ℕ) → ProperItems whole x → length around + c ≤ 4 * d → Inside c (inner_items x around) (print_items whole d x) (started_items x) (notes_items x)
  in_items c d no_items around p h = none
  in_items c d (more_items i is) around p h = both (in_maybe c (suc d) i around p.0 (deeper d h)) (in_more_items c d is around p.1 h)

  in_more_items : (c d : ℕ) (x : Items) (around : List ℕ) → ProperItems whole x → length around + c ≤ 4 * d → Inside c (inner_items x around) (print_more_items whole d x) (started_items x) (notes_items x)
  in_more_items c d no_items around p h = none
  in_more_items c d (more_items i is) around p h = past (both (in_maybe c (suc d) i around p.0 (deeper d h)) (in_more_items c d is around p.1 h))

  in_operands : (c d : ℕ) (x : Operands) (n : ℕ) (around : List ℕ) → ProperOperands whole n x → length around + c ≤ 4 * d → Inside c (inner_operands x around) (print_operands whole d x) (started_operands x) (notes_operands x)
  in_operands c d no_operands n around p h = none
  in_operands c d (more_operands op is_word value rest) n around p h = past (both (in_expr c d value around p.2 h) (in_operands c d rest n around p.3 h))

  in_tails : (c d : ℕ) (x : Tails) (around : List ℕ) → ProperTails whole x → length around + c ≤ 4 * d → Inside c (inner_tails x around) (print_tails whole d x) (started_tails x) (notes_tails x)
  in_tails c d no_tails around p h = none
  in_tails c d (more_tails t ts) around p h = both (in_tail c d t around p.0 h) (in_tails c d ts around p.1 h)

  in_tail : (c d : ℕ) (x : Tail) (around : List ℕ) → ProperTail whole x → length around + c ≤ 4 * d → Inside c (inner_tail x around) (print_tail whole d x) (started_tail x) (notes_tail x)
  in_tail c d (tree.Dot text) around p h = none
  in_tail c d (tree.Index e) around p h = past (after _ (in_expr c (suc d) e around p (deeper d h)))
  in_tail c d (tree.Call es comma) around p h = noted _ (past (after _ (in_list c d es around p.1 (deeper d h))))

  in_key : (c d : ℕ) (x : Key) (around : List ℕ) → ProperKey whole x → length around + c ≤ 4 * d → Inside c (inner_key x around) (print_key whole d x) (started_key x) (notes_key x)
  in_key c d (tree.WordKey n) around p h = none
  in_key c d (tree.StrKey n) around p h = none
  in_key c d (tree.NumberKey at value) around p h = none
  in_key c d (tree.ComputedKey e) around p h = past (after _ (in_expr c (suc d) e around p.1 (deeper d h)))

  in_prop : (c d : ℕ) (x : Prop) (around : List ℕ) → ProperProp whole x → length around + c ≤ 4 * d → Inside c (inner_prop x around) (print_prop whole d x) (started_prop x) (notes_prop x)
  in_prop c d (tree.Short n) around p h = none
  in_prop c d (tree.Pair key value) around p h = both (in_key c d key around p.0 h) (past (in_expr c (suc d) value around p.2 (deeper d h)))
  in_prop c d (tree.Method key f) around p h = both (in_key c d key around p.0 h) (inside_method d _ f around p.2 h)
  in_prop c d (tree.Get key f) around p h = past (both (in_key c d key around p.0 h) (inside_method d _ f around p.2 h))
  in_prop c d (tree.Set key f) around p h = past (both (in_key c d key around p.0 h) (inside_method d _ f around p.2 h))

  in_props : (c d : ℕ) (x : Props) (around : List ℕ) → ProperProps whole x → length around + c ≤ 4 * d → Inside c (inner_props x around) (print_props whole d x) (started_props x) (notes_props x)
  in_props c d no_props around p h = none
  in_props c d (more_props q qs) around p h = both (in_prop c d q around p.0 h) (in_more_props c d qs around p.1 h)

  in_more_props : (c d : ℕ) (x : Props) (around : List ℕ) → ProperProps whole x → length around + c ≤ 4 * d → Inside c (inner_props x around) (print_more_props whole d x) (started_props x) (notes_props x)
  in_more_props c d no_props around p h = none
  in_more_props c d (more_props q qs) around p h = past (both (in_prop c d q around p.0 h) (in_more_props c d qs around p.1 h))

-- ---- names with initializers, and heads of loops

in_initializer : (c d : ℕ) (x : MaybeExpr) (around : List ℕ) → ProperMaybe whole x → length around + c ≤ 4 * suc d → Inside c (inner_maybe x around) (print_initializer whole d x) (started_maybe x) (notes_maybe x)
in_initializer c d no_expr around p h = none
in_initializer c d (some_expr e) around p h = past (in_expr c (suc d) e around p.1 h)

in_more_binds : (c d : ℕ) (x : Binds) (around : List ℕ) → ProperBinds whole x → length around + c ≤ 4 * suc d → Inside c (inner_binds x around) (print_more_binds whole d x) (started_binds x) (notes_binds x)
in_more_binds c d no_binds around p h = none
in_more_binds c d (more_binds name value bs) around p h = past (past (both (in_initializer c d value around p.0 h) (in_more_binds c d bs around p.1 h)))

in_binds : (c d : ℕ) (x : Binds) (around : List ℕ) → ProperBinds whole x → length around + c ≤ 4 * suc d → Inside c (inner_binds x around) (print_binds whole d x) (started_binds x) (notes_binds x)
in_binds c d no_binds around p h = none
in_binds c d (more_binds name value bs) around p h = past (both (in_initializer c d value around p.0 h) (in_more_binds c d bs around p.1 h))

in_init : (c d : ℕ) (x : Init) (around : List ℕ) → ProperInit whole x → length around + c ≤ 4 * suc d → Inside c (inner_init x around) (print_init whole d x) (started_init x) (notes_init x)
in_init c d tree.NoInit around p h = none
in_init c d (tree.ValueInit e) around p h = in_expr c (suc d) e around p.1 h
in_init c d (tree.BindsInit decl bs) around p h = noted _ (past (in_binds c d bs around p.2 h))

in_each : (c d : ℕ) (x : Each) (around : List ℕ) → ProperEach whole x → length around + c ≤ 4 * suc d → Inside c (inner_each x around) (print_each whole d x) (started_each x) (notes_each x)
in_each c d (tree.TargetEach e) around p h = noted _ (in_expr c (suc d) e around p.1 h)
in_each c d (tree.BindEach decl name) around p h = none

in_test : (c d : ℕ) (x : MaybeExpr) (around : List ℕ) → ProperOption whole x → length around + c ≤ 4 * suc d → Inside c (inner_maybe x around) (print_test whole d x) (started_maybe x) (notes_maybe x)
in_test c d no_expr around p h = none
in_test c d (some_expr e) around p h = past (in_expr c (suc d) e around p h)

-- ---- statements

mutual
  in_stmts : (c d : ℕ) (x : Stmts) (next : ℕ) (around : List ℕ) (inside : Bool) → ProperStmts whole inside x → length around + c ≤ 4 * suc d → Inside c (inner_stmts x next around) (print_stmts whole d x) (started_stmts x) (notes_stmts x)
  in_stmts c d no_stmts next around inside p h = none
  in_stmts c d (more_stmts s ss) next around inside p h = both (in_stmt c (suc d) s next around inside p.0 h) (in_stmts c d ss _ around inside p.1 h)

  in_else : (c d : ℕ) (x : MaybeStmt) (next : ℕ) (around : List ℕ) (inside : Bool) → ProperElse whole inside x → length around + c ≤ 4 * suc d → Inside c (inner_else x next around) (print_else whole d x) (started_else x) (notes_maybe_stmt x)
  in_else c d no_stmt next around inside p h = none
  in_else c d (some_stmt s) next around inside p h = past (in_stmt c (suc d) s next around inside p.1 h)

  in_clauses : (c d : ℕ) (x : Clauses) (next : ℕ) (around : List ℕ) (inside : Bool) → ProperClauses whole inside x → length around + c ≤ 4 * suc d → Inside c (inner_clauses x next around) (print_clauses whole d x) (started_clauses x) (notes_clauses x)
  in_clauses c d no_clauses next around inside p h = none
  in_clauses c d (more_clauses test items cs) next around inside p h = three _ (in_test c d test around p.0 h) (in_stmts c d items next around inside p.1 h) (in_clauses c d cs _ around inside p.2 h)

  in_stmt : (c d : ℕ) (x : Stmt) (next : ℕ) (around : List ℕ) (inside : Bool) → ProperStmt whole inside x → length around + c ≤ 4 * d → Inside c (inner_stmt x next around) (print_stmt whole d x) (started_stmt x) (notes_stmt x)
  in_stmt c d (tree.Block items) next around inside p h = past (after _ (in_stmts c d items _ _ inside p (within_one c d (lexical_names items) next around h)))
  in_stmt c d tree.Empty next around inside p h = none
  in_stmt c d (tree.Debugger semi) next around inside p h = none
  in_stmt c d (tree.Binding decl bs semi) next around inside p h = noted _ (past (after _ (in_binds c d bs around p.1 (deeper d h))))
  in_stmt c d (tree.Value e semi) next around inside p h = after _ (in_expr c (suc d) e around p.2 (deeper d h))
  in_stmt c d (tree.If test then_stmt else_stmt) next around inside p h = past (past (three _ (in_expr c (suc d) test around p.0 (deeper d h)) (in_stmt c (suc d) then_stmt next around inside p.2 (deeper d h)) (in_else c d else_stmt _ around inside p.4 (deeper d h))))
  in_stmt c d (tree.Do body test semi) next around inside p h = past (both (in_stmt c (suc d) body next around inside p.1 (deeper d h)) (past (past (after _ (in_expr c (suc d) test around p.2 (deeper d h))))))
  in_stmt c d (tree.While test body) next around inside p h = past (past (both (in_expr c (suc d) test around p.0 (deeper d h)) (past (in_stmt c (suc d) body next around inside p.2 (deeper d h)))))
  in_stmt c d (tree.For init test update body) next around inside p h =
      let k = within_one c d (init_lexical_names init) next around h in
      past (past (four _ _ (in_init c d init _ p.0 k) (in_option c (suc d) test _ p.1 k) (in_option c (suc d) update _ p.2 k) (past (in_stmt c (suc d) body _ _ inside p.4 k))))
  in_stmt c d (tree.ForIn each over body) next around inside p h =
      let k = within_one c d (each_lexical_names each) next around h in
      past (past (three _ (in_each c d each _ p.0 k) (in_expr c (suc d) over _ p.1 k) (past (in_stmt c (suc d) body _ _ inside p.3 k))))
  in_stmt c d (tree.Continue at label semi) next around inside p h = none
  in_stmt c d (tree.Break at label semi) next around inside p h = none
  in_stmt c d (tree.Return value semi) next around inside p h = past (after _ (inside_glue (in_option c (suc d) value around p.1 (deeper d h))))
  in_stmt c d (tree.Throw e semi) next around inside p h = past (after _ (inside_glue (in_expr c (suc d) e around p (deeper d h))))
  in_stmt c d (tree.Switch of cs) next around inside p h = past (past (both (in_expr c (suc d) of around p.0 (deeper d h)) (past (past (after _ (in_clauses c d cs _ _ inside p.2 (within_one c d (clauses_lexical_names cs) next around h)))))))
  in_stmt c d (tree.Label name body) next around inside p h = past (past (in_stmt c (suc d) body next around inside p.1 (deeper d h)))
  in_stmt c d (tree.Try body param handler) next around inside p h =
      past (past (both (in_stmts c d body _ _ inside p.0 (within_one c d (lexical_names body) next around h))
      (past (past (before (print_catch_param param d) (past (after _ (in_stmts c d handler _ _ inside p.1 (within_two c d (catch_names param) (lexical_names handler) _ _ around h)))))))))
  in_stmt c d (tree.Declared f) next around inside p h = inside_declared d _ _ f around p.1 h

-- ---- functions

mutual
  in_params : (c q d : ℕ) (x : Params) (around : List ℕ) → ProperParams whole x → length around + c ≤ 4 * suc q → Inside c (inner_params x around) (print_params whole q d x) (started_params x) (notes_params x)
  in_params c q d no_params around p h = none
  in_params c q d (more_params name value rest ps) around p h = before (ellipsis rest q) (past (both (in_initializer c q value around p.0 h) (in_more_params c q d ps around p.1 h)))

  in_more_params : (c q d : ℕ) (x : Params) (around : List ℕ) → ProperParams whole x → length around + c ≤ 4 * suc q → Inside c (inner_params x around) (print_more_params whole q d x) (started_params x) (notes_params x)
  in_more_params c q d no_params around p h = none
  in_more_params c q d (more_params name value rest ps) around p h = past (before (ellipsis rest q) (past (both (in_initializer c q value around p.0 h) (in_more_params c q d ps around p.1 h))))

in_listed : {c : ℕ} {is : List Inner} {fs : List Started} {ns : List Early} (bare : Bool) (form : FuncForm) (start d : ℕ) (ps : Params) (comma : Bool) → Inside c is (print_params whole (param_depth form bare d) d ps) fs ns
    → Inside c is (parenthesized bare start d (print_params whole (param_depth form bare d) d ps) comma) fs ns
in_listed true form start d ps comma k = k
in_listed false form start d ps comma k = past (after _ k)

depth_of_params : (form : FuncForm) (bare : Bool) (d : ℕ) → d ≤ param_depth form bare d
depth_of_params form true d = omega arith
depth_of_params form false d = either (is_arrow_form form)
  where
    either : (b : Bool) → d ≤ cond b (suc d) d
    either true = omega arith
    either false = omega arith

-- where a body begins, of the scopes around it at most two are entered
in_body : (c d end : ℕ) (form : FuncForm) (initialized : Bool) (x : Body) (next : ℕ) (around : List ℕ) → ProperBody whole form x → length around + c ≤ 4 * d + 2
    → Inside c (inner_body initialized x next around) (print_body whole d end x) (started_body x) (notes_body x)
in_body c d end form initialized (tree.ShortBody value) next around p h = inside_until end (in_expr c (suc d) value around p.3 (omega (arith, h)))
in_body c d end form initialized (tree.BracedBody items) next around p h =
    past (after _ (in_stmts c d items _ _ true p (two_more (body_var_names initialized items) (top_lexical_names items) _ _ around h)))
  where
    two_more : (ds es : List Declaration) (m n : ℕ) (around : List ℕ) → length around + c ≤ 4 * d + 2 → length (enclosed es n (enclosed ds m around)) + c ≤ 4 * suc d
    two_more ds es m n around h =
        let e = enclosed_length ds m around in
        let f = enclosed_length es n (enclosed ds m around) in
        omega (arith, e, f, h)

-- The functions directly in a function are printed inside it, and start after it.
pub in_function : (d : ℕ) (kind : FuncKind) (name : Option Text) (f : Function) → ProperFunction whole f
    → Inside (4 * d) (inner_function kind name f) (print_function whole d f) (started_inside f) (notes_function f)
in_function d kind name (function form start end who ps comma bare body) p =
    let few = enclosed_length (callee_names kind name) 0 [] in
    let level = depth_of_params form bare d in
    noted _ (both (in_listed bare form start d ps comma (in_params (4 * d) (param_depth form bare d) d ps (params_around kind name) p.3 (omega (arith, few, level))))
    (before (arrow_pieces form d) (noted _ (in_body (4 * d) d end form (has_initializer ps) body _ (params_around kind name) p.4 (omega (arith, few))))))

-- The functions directly in a script.
pub in_script : (items : Stmts) → ProperStmts whole false items → Inside 0 (inner_script items) (print_stmts whole 0 items) (started_stmts items) (notes_stmts items)
in_script items p = in_stmts 0 0 items 1 (0 ∷ []) false p (omega arith)
