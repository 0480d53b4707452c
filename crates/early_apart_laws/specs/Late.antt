-- The early errors that a function's parameters decide and its body has: `use strict` in the body of a function with an initializer or a
-- rest parameter. Those of a part are listed for each function in it, at whatever depth, in the order in which the functions start: those
-- inside a function come after its own. ECMA-262, 15.2.1.
use Rattle.std.specs.Prelude.{List, [], ◌++◌, ◌||◌}
use Rattle.script_grammar.specs.Tree.{Expr, Exprs, no_exprs, more_exprs, MaybeExpr, no_expr, some_expr, MaybeArgs, no_args, some_args, Parts}
use Rattle.script_grammar.specs.Tree.{no_parts, more_parts, Items, no_items, more_items, Operands, no_operands, more_operands, Tail, Tails, no_tails}
use Rattle.script_grammar.specs.Tree.{more_tails, Key, Prop, Props, no_props, more_props, Function, function, Params, no_params, more_params, Body}
use Rattle.script_grammar.specs.Tree.{Binds, no_binds, more_binds, Init, Each, Clauses, no_clauses, more_clauses, Stmt, Stmts, no_stmts, more_stmts}
use Rattle.script_grammar.specs.Tree.{MaybeStmt, no_stmt, some_stmt}
use Rattle.script_grammar.specs.Tree as tree
use Rattle.parse_track.specs.declared.region.Early.{Early}
use Rattle.parse_track.specs.Tells.{has_initializer}
use Rattle.parse_track.specs.Notes.{has_rest, body_errors}

abbrev mutual
  pub late : Expr → List Early
  late (tree.This at) = []
  late (tree.Name name) = []
  late (tree.Null at) = []
  late (tree.True at) = []
  late (tree.False at) = []
  late (tree.Number at value) = []
  late (tree.Str at end text) = []
  late (tree.Template at first parts) = late_parts parts
  late (tree.Array at items comma) = late_items items
  late (tree.Object at props comma) = late_props props
  late (tree.Func at f) = late_function f
  late (tree.Paren at inner) = late inner
  late (tree.Chain head tails) = late head ++ late_tails tails
  late (tree.New at callee args) = late callee ++ late_args args
  late (tree.Unary at op of is_word) = late of
  late (tree.Update at op prefix of) = late of
  late (tree.Binary first rest) = late first ++ late_operands rest
  late (tree.Cond test then_value else_value) = late test ++ (late then_value ++ late else_value)
  late (tree.Assign op target value) = late target ++ late value
  late (tree.Comma items) = late_exprs items

  pub late_exprs : Exprs → List Early
  late_exprs no_exprs = []
  late_exprs (more_exprs e es) = late e ++ late_exprs es

  pub late_maybe : MaybeExpr → List Early
  late_maybe no_expr = []
  late_maybe (some_expr e) = late e

  pub late_args : MaybeArgs → List Early
  late_args no_args = []
  late_args (some_args es comma) = late_exprs es

  pub late_parts : Parts → List Early
  late_parts no_parts = []
  late_parts (more_parts value behind rest) = late value ++ late_parts rest

  pub late_items : Items → List Early
  late_items no_items = []
  late_items (more_items i is) = late_maybe i ++ late_items is

  pub late_operands : Operands → List Early
  late_operands no_operands = []
  late_operands (more_operands op is_word value rest) = late value ++ late_operands rest

  pub late_tails : Tails → List Early
  late_tails no_tails = []
  late_tails (more_tails t ts) = late_tail t ++ late_tails ts

  pub late_tail : Tail → List Early
  late_tail (tree.Dot text) = []
  late_tail (tree.Index e) = late e
  late_tail (tree.Call es comma) = late_exprs es

  pub late_key : Key → List Early
  late_key (tree.WordKey n) = []
  late_key (tree.StrKey n) = []
  late_key (tree.NumberKey at value) = []
  late_key (tree.ComputedKey e) = late e

  pub late_prop : Prop → List Early
  late_prop (tree.Short n) = []
  late_prop (tree.Pair key value) = late_key key ++ late value
  late_prop (tree.Method key f) = late_key key ++ late_function f
  late_prop (tree.Get key f) = late_key key ++ late_function f
  late_prop (tree.Set key f) = late_key key ++ late_function f

  pub late_props : Props → List Early
  late_props no_props = []
  late_props (more_props p ps) = late_prop p ++ late_props ps

  pub late_function : Function → List Early
  late_function (function form start end name params comma bare body) =
      body_errors (has_initializer params || has_rest params) body ++ (late_params params ++ late_body body)

  pub late_params : Params → List Early
  late_params no_params = []
  late_params (more_params name value rest ps) = late_maybe value ++ late_params ps

  pub late_body : Body → List Early
  late_body (tree.BracedBody items) = late_stmts items
  late_body (tree.ShortBody value) = late value

  pub late_binds : Binds → List Early
  late_binds no_binds = []
  late_binds (more_binds name value bs) = late_maybe value ++ late_binds bs

  pub late_init : Init → List Early
  late_init tree.NoInit = []
  late_init (tree.ValueInit e) = late e
  late_init (tree.BindsInit decl bs) = late_binds bs

  pub late_each : Each → List Early
  late_each (tree.TargetEach e) = late e
  late_each (tree.BindEach decl name) = []

  pub late_clauses : Clauses → List Early
  late_clauses no_clauses = []
  late_clauses (more_clauses test items cs) = late_maybe test ++ (late_stmts items ++ late_clauses cs)

  pub late_stmt : Stmt → List Early
  late_stmt (tree.Block items) = late_stmts items
  late_stmt tree.Empty = []
  late_stmt (tree.Debugger semi) = []
  late_stmt (tree.Binding decl bs semi) = late_binds bs
  late_stmt (tree.Value e semi) = late e
  late_stmt (tree.If test then_stmt else_stmt) = late test ++ (late_stmt then_stmt ++ late_else else_stmt)
  late_stmt (tree.Do body test semi) = late_stmt body ++ late test
  late_stmt (tree.While test body) = late test ++ late_stmt body
  late_stmt (tree.For init test update body) = late_init init ++ (late_maybe test ++ (late_maybe update ++ late_stmt body))
  late_stmt (tree.ForIn each over body) = late_each each ++ (late over ++ late_stmt body)
  late_stmt (tree.Continue at label semi) = []
  late_stmt (tree.Break at label semi) = []
  late_stmt (tree.Return value semi) = late_maybe value
  late_stmt (tree.Throw e semi) = late e
  late_stmt (tree.Switch of cs) = late of ++ late_clauses cs
  late_stmt (tree.Label name body) = late_stmt body
  late_stmt (tree.Try body param handler) = late_stmts body ++ late_stmts handler
  late_stmt (tree.Declared f) = late_function f

  pub late_stmts : Stmts → List Early
  late_stmts no_stmts = []
  late_stmts (more_stmts s ss) = late_stmt s ++ late_stmts ss

  pub late_else : MaybeStmt → List Early
  late_else no_stmt = []
  late_else (some_stmt s) = late_stmt s
