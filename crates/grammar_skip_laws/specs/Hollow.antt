-- A tree in which the braced bodies of some functions directly in it have no statements: of those whose start is chosen. What
-- else is in these functions stays, and so do the functions in them.
use Rattle.std.specs.Prelude.{ℕ, Bool, true, false}
use Rattle.script_grammar.specs.Tree.{Expr, Exprs, no_exprs, more_exprs, MaybeExpr, no_expr, some_expr, MaybeArgs, no_args, some_args}
use Rattle.script_grammar.specs.Tree.{Parts, no_parts, more_parts, Items, no_items, more_items, Operands, no_operands, more_operands, Tail}
use Rattle.script_grammar.specs.Tree.{Tails, no_tails, more_tails, Key, Prop, Props, no_props, more_props, Function, function, Params}
use Rattle.script_grammar.specs.Tree.{no_params, more_params, Body, Binds, no_binds, more_binds, Init, Each, Clauses, no_clauses}
use Rattle.script_grammar.specs.Tree.{more_clauses, Stmt, Stmts, no_stmts, more_stmts, MaybeStmt, no_stmt, some_stmt}
use Rattle.script_grammar.specs.Tree as tree

module _ (chosen : ℕ → Bool) where
  -- a function in the part: its own body, where it is chosen
  abbrev pub hollow_body : Bool → Body → Body
  hollow_body true (tree.BracedBody items) = tree.BracedBody no_stmts
  hollow_body true (tree.ShortBody value) = tree.ShortBody value
  hollow_body false body = body

  abbrev pub hollow_function : Function → Function
  hollow_function (function form start end name params comma bare body) = function form start end name params comma bare
      (hollow_body (chosen start) body)

  abbrev mutual
    pub hollow : Expr → Expr
    hollow (tree.Template at first parts) = tree.Template at first (hollow_parts parts)
    hollow (tree.Array at items comma) = tree.Array at (hollow_items items) comma
    hollow (tree.Object at props comma) = tree.Object at (hollow_props props) comma
    hollow (tree.Func at f) = tree.Func at (hollow_function f)
    hollow (tree.Paren at inner) = tree.Paren at (hollow inner)
    hollow (tree.Chain head tails) = tree.Chain (hollow head) (hollow_tails tails)
    hollow (tree.New at callee args) = tree.New at (hollow callee) (hollow_args args)
    hollow (tree.Unary at op of is_word) = tree.Unary at op (hollow of) is_word
    hollow (tree.Update at op prefix of) = tree.Update at op prefix (hollow of)
    hollow (tree.Binary first rest) = tree.Binary (hollow first) (hollow_operands rest)
    hollow (tree.Cond test then_value else_value) = tree.Cond (hollow test) (hollow then_value) (hollow else_value)
    hollow (tree.Assign op target value) = tree.Assign op (hollow target) (hollow value)
    hollow (tree.Comma items) = tree.Comma (hollow_exprs items)
    hollow (tree.This at) = tree.This at
    hollow (tree.Name name) = tree.Name name
    hollow (tree.Null at) = tree.Null at
    hollow (tree.True at) = tree.True at
    hollow (tree.False at) = tree.False at
    hollow (tree.Number at value) = tree.Number at value
    hollow (tree.Str at end text) = tree.Str at end text

    pub hollow_exprs : Exprs → Exprs
    hollow_exprs no_exprs = no_exprs
    hollow_exprs (more_exprs e es) = more_exprs (hollow e) (hollow_exprs es)

    pub hollow_maybe : MaybeExpr → MaybeExpr
    hollow_maybe no_expr = no_expr
    hollow_maybe (some_expr e) = some_expr (hollow e)

    pub hollow_args : MaybeArgs → MaybeArgs
    hollow_args no_args = no_args
    hollow_args (some_args es comma) = some_args (hollow_exprs es) comma

    pub hollow_parts : Parts → Parts
    hollow_parts no_parts = no_parts
    hollow_parts (more_parts value behind rest) = more_parts (hollow value) behind (hollow_parts rest)

    pub hollow_items : Items → Items
    hollow_items no_items = no_items
    hollow_items (more_items i is) = more_items (hollow_maybe i) (hollow_items is)

    pub hollow_operands : Operands → Operands
    hollow_operands no_operands = no_operands
    hollow_operands (more_operands op is_word value rest) = more_operands op is_word (hollow value) (hollow_operands rest)

    pub hollow_tails : Tails → Tails
    hollow_tails no_tails = no_tails
    hollow_tails (more_tails t ts) = more_tails (hollow_tail t) (hollow_tails ts)

    pub hollow_tail : Tail → Tail
    hollow_tail (tree.Dot text) = tree.Dot text
    hollow_tail (tree.Index e) = tree.Index (hollow e)
    hollow_tail (tree.Call es comma) = tree.Call (hollow_exprs es) comma

    pub hollow_key : Key → Key
    hollow_key (tree.WordKey n) = tree.WordKey n
    hollow_key (tree.StrKey n) = tree.StrKey n
    hollow_key (tree.NumberKey at value) = tree.NumberKey at value
    hollow_key (tree.ComputedKey e) = tree.ComputedKey (hollow e)

    pub hollow_prop : Prop → Prop
    hollow_prop (tree.Short n) = tree.Short n
    hollow_prop (tree.Pair key value) = tree.Pair (hollow_key key) (hollow value)
    hollow_prop (tree.Method key f) = tree.Method (hollow_key key) (hollow_function f)
    hollow_prop (tree.Get key f) = tree.Get (hollow_key key) (hollow_function f)
    hollow_prop (tree.Set key f) = tree.Set (hollow_key key) (hollow_function f)

    pub hollow_props : Props → Props
    hollow_props no_props = no_props
    hollow_props (more_props p ps) = more_props (hollow_prop p) (hollow_props ps)

  abbrev pub hollow_params : Params → Params
  hollow_params no_params = no_params
  hollow_params (more_params name value rest ps) = more_params name (hollow_maybe value) rest (hollow_params ps)

  abbrev pub hollow_binds : Binds → Binds
  hollow_binds no_binds = no_binds
  hollow_binds (more_binds name value bs) = more_binds name (hollow_maybe value) (hollow_binds bs)

  abbrev pub hollow_init : Init → Init
  hollow_init tree.NoInit = tree.NoInit
  hollow_init (tree.ValueInit e) = tree.ValueInit (hollow e)
  hollow_init (tree.BindsInit decl bs) = tree.BindsInit decl (hollow_binds bs)

  abbrev pub hollow_each : Each → Each
  hollow_each (tree.TargetEach e) = tree.TargetEach (hollow e)
  hollow_each (tree.BindEach decl name) = tree.BindEach decl name

  abbrev mutual
    pub hollow_stmt : Stmt → Stmt
    hollow_stmt (tree.Block items) = tree.Block (hollow_stmts items)
    hollow_stmt tree.Empty = tree.Empty
    hollow_stmt (tree.Debugger semi) = tree.Debugger semi
    hollow_stmt (tree.Binding decl bs semi) = tree.Binding decl (hollow_binds bs) semi
    hollow_stmt (tree.Value e semi) = tree.Value (hollow e) semi
    hollow_stmt (tree.If test then_stmt else_stmt) = tree.If (hollow test) (hollow_stmt then_stmt) (hollow_else else_stmt)
    hollow_stmt (tree.Do body test semi) = tree.Do (hollow_stmt body) (hollow test) semi
    hollow_stmt (tree.While test body) = tree.While (hollow test) (hollow_stmt body)
    hollow_stmt (tree.For init test update body) = tree.For (hollow_init init) (hollow_maybe test) (hollow_maybe update) (hollow_stmt body)
    hollow_stmt (tree.ForIn each over body) = tree.ForIn (hollow_each each) (hollow over) (hollow_stmt body)
    hollow_stmt (tree.Continue at label semi) = tree.Continue at label semi
    hollow_stmt (tree.Break at label semi) = tree.Break at label semi
    hollow_stmt (tree.Return value semi) = tree.Return (hollow_maybe value) semi
    hollow_stmt (tree.Throw value semi) = tree.Throw (hollow value) semi
    hollow_stmt (tree.Switch of cs) = tree.Switch (hollow of) (hollow_clauses cs)
    hollow_stmt (tree.Label name body) = tree.Label name (hollow_stmt body)
    hollow_stmt (tree.Try body param handler) = tree.Try (hollow_stmts body) param (hollow_stmts handler)
    hollow_stmt (tree.Declared f) = tree.Declared (hollow_function f)

    pub hollow_stmts : Stmts → Stmts
    hollow_stmts no_stmts = no_stmts
    hollow_stmts (more_stmts s ss) = more_stmts (hollow_stmt s) (hollow_stmts ss)

    pub hollow_else : MaybeStmt → MaybeStmt
    hollow_else no_stmt = no_stmt
    hollow_else (some_stmt s) = some_stmt (hollow_stmt s)

    pub hollow_clauses : Clauses → Clauses
    hollow_clauses no_clauses = no_clauses
    hollow_clauses (more_clauses test items cs) = more_clauses (hollow_maybe test) (hollow_stmts items) (hollow_clauses cs)

  -- a function's own statements, or its own expression
  abbrev pub hollow_own : Body → Body
  hollow_own (tree.BracedBody items) = tree.BracedBody (hollow_stmts items)
  hollow_own (tree.ShortBody value) = tree.ShortBody (hollow value)

  -- a function whose own body stays
  abbrev pub hollow_inside : Function → Function
  hollow_inside (function form start end name ps comma bare body) = function form start end name (hollow_params ps) comma bare (hollow_own body)
