-- The functions of a tree, each with the offset where its parameters start and its body, in the order of these offsets: those
-- inside a function stand after it.
use Rattle.std.specs.Prelude.{ℕ, List, [], ◌∷◌, ◌++◌}
use Rattle.script_grammar.specs.Tree.{Expr, Exprs, no_exprs, more_exprs, MaybeExpr, no_expr, some_expr, MaybeArgs, no_args, some_args}
use Rattle.script_grammar.specs.Tree.{Parts, no_parts, more_parts, Items, no_items, more_items, Operands, no_operands, more_operands, Tail}
use Rattle.script_grammar.specs.Tree.{Tails, no_tails, more_tails, Key, Prop, Props, no_props, more_props, Function, function, Params}
use Rattle.script_grammar.specs.Tree.{no_params, more_params, Body, Binds, no_binds, more_binds, Init, Each, Clauses, no_clauses}
use Rattle.script_grammar.specs.Tree.{more_clauses, Stmt, Stmts, no_stmts, more_stmts, MaybeStmt, no_stmt, some_stmt}
use Rattle.script_grammar.specs.Tree as tree

pub record Started : Type 0 where
  pub start : ℕ
  pub body : Body

abbrev mutual
  pub started : Expr → List Started
  started (tree.This at) = []
  started (tree.Name name) = []
  started (tree.Null at) = []
  started (tree.True at) = []
  started (tree.False at) = []
  started (tree.Number at value) = []
  started (tree.Str at end text) = []
  started (tree.Template at first parts) = started_parts parts
  started (tree.Array at items comma) = started_items items
  started (tree.Object at props comma) = started_props props
  started (tree.Func at f) = started_function f
  started (tree.Paren at inner) = started inner
  started (tree.Chain head tails) = started head ++ started_tails tails
  started (tree.New at callee args) = started callee ++ started_args args
  started (tree.Unary at op of is_word) = started of
  started (tree.Update at op prefix of) = started of
  started (tree.Binary first rest) = started first ++ started_operands rest
  started (tree.Cond test then_value else_value) = started test ++ (started then_value ++ started else_value)
  started (tree.Assign op target value) = started target ++ started value
  started (tree.Comma items) = started_exprs items

  pub started_exprs : Exprs → List Started
  started_exprs no_exprs = []
  started_exprs (more_exprs e es) = started e ++ started_exprs es

  pub started_maybe : MaybeExpr → List Started
  started_maybe no_expr = []
  started_maybe (some_expr e) = started e

  pub started_args : MaybeArgs → List Started
  started_args no_args = []
  started_args (some_args es comma) = started_exprs es

  pub started_parts : Parts → List Started
  started_parts no_parts = []
  started_parts (more_parts value behind rest) = started value ++ started_parts rest

  pub started_items : Items → List Started
  started_items no_items = []
  started_items (more_items i is) = started_maybe i ++ started_items is

  pub started_operands : Operands → List Started
  started_operands no_operands = []
  started_operands (more_operands op is_word value rest) = started value ++ started_operands rest

  pub started_tails : Tails → List Started
  started_tails no_tails = []
  started_tails (more_tails t ts) = started_tail t ++ started_tails ts

  pub started_tail : Tail → List Started
  started_tail (tree.Dot text) = []
  started_tail (tree.Index e) = started e
  started_tail (tree.Call es comma) = started_exprs es

  pub started_key : Key → List Started
  started_key (tree.WordKey n) = []
  started_key (tree.StrKey n) = []
  started_key (tree.NumberKey at value) = []
  started_key (tree.ComputedKey e) = started e

  pub started_prop : Prop → List Started
  started_prop (tree.Short n) = []
  started_prop (tree.Pair key value) = started_key key ++ started value
  started_prop (tree.Method key f) = started_key key ++ started_function f
  started_prop (tree.Get key f) = started_key key ++ started_function f
  started_prop (tree.Set key f) = started_key key ++ started_function f

  pub started_props : Props → List Started
  started_props no_props = []
  started_props (more_props p ps) = started_prop p ++ started_props ps

  pub started_function : Function → List Started
  started_function (function form start end name params comma bare body) = record { start = start; body = body }
      ∷ (started_params params ++ started_body body)

  pub started_params : Params → List Started
  started_params no_params = []
  started_params (more_params name value rest ps) = started_maybe value ++ started_params ps

  pub started_body : Body → List Started
  started_body (tree.BracedBody items) = started_stmts items
  started_body (tree.ShortBody value) = started value

  pub started_binds : Binds → List Started
  started_binds no_binds = []
  started_binds (more_binds name value bs) = started_maybe value ++ started_binds bs

  pub started_init : Init → List Started
  started_init tree.NoInit = []
  started_init (tree.ValueInit e) = started e
  started_init (tree.BindsInit decl bs) = started_binds bs

  pub started_each : Each → List Started
  started_each (tree.TargetEach e) = started e
  started_each (tree.BindEach decl name) = []

  pub started_clauses : Clauses → List Started
  started_clauses no_clauses = []
  started_clauses (more_clauses test items cs) = started_maybe test ++ (started_stmts items ++ started_clauses cs)

  pub started_stmt : Stmt → List Started
  started_stmt (tree.Block items) = started_stmts items
  started_stmt tree.Empty = []
  started_stmt (tree.Debugger semi) = []
  started_stmt (tree.Binding decl bs semi) = started_binds bs
  started_stmt (tree.Value e semi) = started e
  started_stmt (tree.If test then_stmt else_stmt) = started test ++ (started_stmt then_stmt ++ started_else else_stmt)
  started_stmt (tree.Do body test semi) = started_stmt body ++ started test
  started_stmt (tree.While test body) = started test ++ started_stmt body
  started_stmt (tree.For init test update body) = started_init init ++ (started_maybe test ++ (started_maybe update ++ started_stmt body))
  started_stmt (tree.ForIn each over body) = started_each each ++ (started over ++ started_stmt body)
  started_stmt (tree.Continue at label semi) = []
  started_stmt (tree.Break at label semi) = []
  started_stmt (tree.Return value semi) = started_maybe value
  started_stmt (tree.Throw e semi) = started e
  started_stmt (tree.Switch of cs) = started of ++ started_clauses cs
  started_stmt (tree.Label name body) = started_stmt body
  started_stmt (tree.Try body param handler) = started_stmts body ++ started_stmts handler
  started_stmt (tree.Declared f) = started_function f

  pub started_stmts : Stmts → List Started
  started_stmts no_stmts = []
  started_stmts (more_stmts s ss) = started_stmt s ++ started_stmts ss

  pub started_else : MaybeStmt → List Started
  started_else no_stmt = []
  started_else (some_stmt s) = started_stmt s
