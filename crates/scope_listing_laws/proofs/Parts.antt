-- The functions in each part of a tree, listed in both ways.
use Rattle.std.proofs.Common.{ℕ, true, List, Option, Bool}
use Rattle.stencil_data.specs.declared.functions.FuncKind.{FuncKind}
use Rattle.script_grammar.specs.declared.token.FuncForm.TheVariants as form
use Rattle.script_grammar.specs.Braced as braced
use Rattle.script_grammar.specs.Pieces.{whole}
use Rattle.script_grammar.specs.Proper.{Proper, ProperExprs, ProperMaybe, ProperOption, ProperArgs, ProperParts, ProperItems, ProperOperands, ProperTails, ProperTail, ProperKey, ProperProp, ProperProps, ProperFunction, ProperParams, ProperBinds, ProperInit, ProperEach, ProperClauses, ProperStmts, ProperElse, ProperStmt}
use Rattle.script_grammar.specs.Tree.{Expr, Exprs, no_exprs, more_exprs, MaybeExpr, no_expr, some_expr, MaybeArgs, no_args, some_args, Parts, no_parts, more_parts, Items, no_items, more_items, Operands, no_operands, more_operands, Tail, Tails, no_tails, more_tails, Key, Prop, Props, no_props, more_props, Function, function, Params, no_params, more_params, BracedBody, ShortBody, Binds, no_binds, more_binds, Init, Each, Clauses, no_clauses, more_clauses, Stmt, Stmts, no_stmts, more_stmts, MaybeStmt, no_stmt, some_stmt}
use Rattle.script_grammar.specs.Tree as tree
use Rattle.scope_analysis.specs.DeclaredNames.{Text}
use Rattle.scope_analysis.specs.Functions.{params_around, inner_expr, inner_exprs, inner_maybe, inner_args, inner_parts, inner_items, inner_operands, inner_tails, inner_tail, inner_key, inner_prop, inner_props, inner_binds, inner_init, inner_each, inner_stmt, inner_stmts, inner_else, inner_clauses, inner_params}
use Rattle.parse_handlers.specs.Inner as found
use Rattle.scope_listing_laws.specs.Listing.{Mirrors, outside_body}
use Rattle.scope_listing_laws.proofs.Joining.{Lists, none, both, closed, inside_of, IsMirrored, expression, declaration, method}

mutual
  pub lists : (x : Expr) (around : List ℕ) → Proper whole x → Lists (found.in_expr x) (braced.in_expr true x) (inner_expr x around)
  lists (tree.This at) around p = none
  lists (tree.Name name) around p = none
  lists (tree.Null at) around p = none
  lists (tree.True at) around p = none
  lists (tree.False at) around p = none
  lists (tree.Number at value) around p = none
  lists (tree.Str at end text) around p = none
  lists (tree.Template at first parts) around p = lists_parts parts around p
  lists (tree.Array at items comma) around p = lists_items items around p.1
  lists (tree.Object at props comma) around p = lists_props props around p.1
  lists (tree.Func at f) around p = expression at f around p.0 (p.1, mirrors_outside f p.1)
  lists (tree.Paren at value) around p = lists value around p
  lists (tree.Chain head tails) around p = both (lists head around p.1) (lists_tails tails around p.3)
  lists (tree.New at callee args) around p = both (lists callee around p.1) (lists_args args around p.2)
  lists (tree.Unary at op operand is_word) around p = lists operand around p.2
  lists (tree.Update at op prefix operand) around p = lists operand around p.2
  lists (tree.Binary first rest) around p = both (lists first around p.3) (lists_operands rest _ around p.4)
  lists (tree.Cond test then_value else_value) around p = both (both (lists test around p.1) (lists then_value around p.3)) (lists else_value around p.5)
  lists (tree.Assign op target value) around p = both (lists target around p.2) (lists value around p.4)
  lists (tree.Comma items) around p = lists_exprs items around p.1

  lists_exprs : (x : Exprs) (around : List ℕ) → ProperExprs whole x → Lists (found.in_exprs x) (braced.in_exprs true x) (inner_exprs x around)
  lists_exprs no_exprs around p = none
  lists_exprs (more_exprs e rest) around p = both (lists e around p.1) (lists_exprs rest around p.2)

  lists_maybe : (x : MaybeExpr) (around : List ℕ) → ProperMaybe whole x → Lists (found.in_maybe_expr x) (braced.in_maybe_expr true x) (inner_maybe x around)
  lists_maybe no_expr around p = none
  lists_maybe (some_expr e) around p = lists e around p.1

  lists_option : (x : MaybeExpr) (around : List ℕ) → ProperOption whole x → Lists (found.in_maybe_expr x) (braced.in_maybe_expr true x) (inner_maybe x around)
  lists_option no_expr around p = none
  lists_option (some_expr e) around p = lists e around p

  lists_args : (x : MaybeArgs) (around : List ℕ) → ProperArgs whole x → Lists (found.in_maybe_args x) (braced.in_maybe_args true x) (inner_args x around)
  lists_args no_args around p = none
  lists_args (some_args items comma) around p = lists_exprs items around p.1

  lists_parts : (x : Parts) (around : List ℕ) → ProperParts whole x → Lists (found.in_parts x) (braced.in_parts true x) (inner_parts x around)
  lists_parts no_parts around p = none
  lists_parts (more_parts value behind rest) around p = both (lists value around p.0) (lists_parts rest around p.1)

  lists_items : (x : Items) (around : List ℕ) → ProperItems whole x → Lists (found.in_items x) (braced.in_items true x) (inner_items x around)
  lists_items no_items around p = none
  lists_items (more_items item rest) around p = both (lists_maybe item around p.0) (lists_items rest around p.1)

  lists_operands : (x : Operands) (n : ℕ) (around : List ℕ) → ProperOperands whole n x → Lists (found.in_operands x) (braced.in_operands true x) (inner_operands x around)
  lists_operands no_operands n around p = none
  lists_operands (more_operands op is_word value rest) n around p = both (lists value around p.2) (lists_operands rest n around p.3)

  lists_tails : (x : Tails) (around : List ℕ) → ProperTails whole x → Lists (found.in_tails x) (braced.in_tails true x) (inner_tails x around)
  lists_tails no_tails around p = none
  lists_tails (more_tails tail rest) around p = both (lists_tail tail around p.0) (lists_tails rest around p.1)

  lists_tail : (x : Tail) (around : List ℕ) → ProperTail whole x → Lists (found.in_tail x) (braced.in_tail true x) (inner_tail x around)
  lists_tail (tree.Dot text) around p = none
  lists_tail (tree.Index e) around p = lists e around p
  lists_tail (tree.Call items comma) around p = lists_exprs items around p.1

  lists_key : (x : Key) (around : List ℕ) → ProperKey whole x → Lists (found.in_key x) (braced.in_key true x) (inner_key x around)
  lists_key (tree.WordKey name) around p = none
  lists_key (tree.StrKey name) around p = none
  lists_key (tree.NumberKey at value) around p = none
  lists_key (tree.ComputedKey e) around p = lists e around p.1

  lists_prop : (x : Prop) (around : List ℕ) → ProperProp whole x → Lists (found.in_prop x) (braced.in_prop true x) (inner_prop x around)
  lists_prop (tree.Short name) around p = none
  lists_prop (tree.Pair key value) around p = both (lists_key key around p.0) (lists value around p.2)
  lists_prop (tree.Method key f) around p = both (lists_key key around p.0) (method form.Method f around p.1 (p.2, mirrors_outside f p.2))
  lists_prop (tree.Get key f) around p = both (lists_key key around p.0) (method form.Getter f around p.1 (p.2, mirrors_outside f p.2))
  lists_prop (tree.Set key f) around p = both (lists_key key around p.0) (method form.Setter f around p.1 (p.2, mirrors_outside f p.2))

  lists_props : (x : Props) (around : List ℕ) → ProperProps whole x → Lists (found.in_props x) (braced.in_props true x) (inner_props x around)
  lists_props no_props around p = none
  lists_props (more_props prop rest) around p = both (lists_prop prop around p.0) (lists_props rest around p.1)

  pub lists_params : (x : Params) (around : List ℕ) → ProperParams whole x → Lists (found.in_params x) (braced.in_params true x) (inner_params x around)
  lists_params no_params around p = none
  lists_params (more_params name value rest more) around p = both (lists_maybe value around p.0) (lists_params more around p.1)

  -- what is outside a function's body in braces
  mirrors_outside : (f : Function) → ProperFunction whole f → (kind : FuncKind) (name : Option Text) → Mirrors (inside_of f) (outside_body kind name f)
  mirrors_outside (function form start end _ params comma bare (BracedBody items)) p kind name = closed (both (lists_params params (params_around kind name) p.3) none)
  mirrors_outside (function form start end _ params comma bare (ShortBody value)) p kind name =
      closed (both (lists_params params (params_around kind name) p.3) (lists value (params_around kind name) p.4.3))

mirrored : (f : Function) → ProperFunction whole f → IsMirrored f
mirrored f p = (p, mirrors_outside f p)

lists_binds : (x : Binds) (around : List ℕ) → ProperBinds whole x → Lists (found.in_binds x) (braced.in_binds true x) (inner_binds x around)
lists_binds no_binds around p = none
lists_binds (more_binds name value rest) around p = both (lists_maybe value around p.0) (lists_binds rest around p.1)

lists_init : (x : Init) (around : List ℕ) → ProperInit whole x → Lists (found.in_init x) (braced.in_init true x) (inner_init x around)
lists_init tree.NoInit around p = none
lists_init (tree.ValueInit e) around p = lists e around p.1
lists_init (tree.BindsInit decl binds) around p = lists_binds binds around p.2

lists_each : (x : Each) (around : List ℕ) → ProperEach whole x → Lists (found.in_each x) (braced.in_each true x) (inner_each x around)
lists_each (tree.TargetEach e) around p = lists e around p.1
lists_each (tree.BindEach decl name) around p = none

mutual
  lists_clauses : (x : Clauses) (inside : Bool) (next : ℕ) (around : List ℕ) → ProperClauses whole inside x → Lists (found.in_clauses x) (braced.in_clauses true x) (inner_clauses x next around)
  lists_clauses no_clauses inside next around p = none
  lists_clauses (more_clauses test items rest) inside next around p =
      both (both (lists_option test around p.0) (lists_stmts items inside next around p.1)) (lists_clauses rest inside _ around p.2)

  lists_stmt : (x : Stmt) (inside : Bool) (next : ℕ) (around : List ℕ) → ProperStmt whole inside x → Lists (found.in_stmt x) (braced.in_stmt true x) (inner_stmt x next around)
  lists_stmt (tree.Block items) inside next around p = lists_stmts items inside _ _ p
  lists_stmt tree.Empty inside next around p = none
  lists_stmt (tree.Debugger semi) inside next around p = none
  lists_stmt (tree.Binding decl binds semi) inside next around p = lists_binds binds around p.1
  lists_stmt (tree.Value e semi) inside next around p = lists e around p.2
  lists_stmt (tree.If test then_stmt else_stmt) inside next around p =
      both (both (lists test around p.0) (lists_stmt then_stmt inside next around p.2)) (lists_else else_stmt inside _ around p.4)
  lists_stmt (tree.Do body test semi) inside next around p = both (lists_stmt body inside next around p.1) (lists test around p.2)
  lists_stmt (tree.While test body) inside next around p = both (lists test around p.0) (lists_stmt body inside next around p.2)
  lists_stmt (tree.For init test update body) inside next around p =
      both (both (both (lists_init init _ p.0) (lists_option test _ p.1)) (lists_option update _ p.2)) (lists_stmt body inside _ _ p.4)
  lists_stmt (tree.ForIn each over body) inside next around p = both (both (lists_each each _ p.0) (lists over _ p.1)) (lists_stmt body inside _ _ p.3)
  lists_stmt (tree.Continue at label semi) inside next around p = none
  lists_stmt (tree.Break at label semi) inside next around p = none
  lists_stmt (tree.Return value semi) inside next around p = lists_option value around p.1
  lists_stmt (tree.Throw e semi) inside next around p = lists e around p
  lists_stmt (tree.Switch e clauses) inside next around p = both (lists e around p.0) (lists_clauses clauses inside _ _ p.2)
  lists_stmt (tree.Label name body) inside next around p = lists_stmt body inside next around p.1
  lists_stmt (tree.Try body param handler) inside next around p = both (lists_stmts body inside _ _ p.0) (lists_stmts handler inside _ _ p.1)
  lists_stmt (tree.Declared f) inside next around p = declaration f around p.0 (mirrored f p.1)

  pub lists_stmts : (x : Stmts) (inside : Bool) (next : ℕ) (around : List ℕ) → ProperStmts whole inside x → Lists (found.in_stmts x) (braced.in_stmts true x) (inner_stmts x next around)
  lists_stmts no_stmts inside next around p = none
  lists_stmts (more_stmts s rest) inside next around p = both (lists_stmt s inside next around p.0) (lists_stmts rest inside _ around p.1)

  lists_else : (x : MaybeStmt) (inside : Bool) (next : ℕ) (around : List ℕ) → ProperElse whole inside x → Lists (found.in_maybe_stmt x) (braced.in_maybe_stmt true x) (inner_else x next around)
  lists_else no_stmt inside next around p = none
  lists_else (some_stmt s) inside next around p = lists_stmt s inside next around p.1
