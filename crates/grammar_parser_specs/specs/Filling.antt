-- A tree with other bodies: the braced bodies of its outermost functions are those that are given for the offsets where the
-- functions start.
use Rattle.std.specs.Prelude.{ℕ}
use Rattle.script_grammar.specs.Tree.{Expr, Exprs, no_exprs, more_exprs, MaybeExpr, no_expr, some_expr, MaybeArgs, no_args, some_args}
use Rattle.script_grammar.specs.Tree.{Parts, no_parts, more_parts, Items, no_items, more_items, Operands, no_operands, more_operands, Tail}
use Rattle.script_grammar.specs.Tree.{Tails, no_tails, more_tails, Key, Prop, Props, no_props, more_props, Function, function, Params}
use Rattle.script_grammar.specs.Tree.{no_params, more_params, Body, Binds, no_binds, more_binds, Init, Each, Clauses, no_clauses}
use Rattle.script_grammar.specs.Tree.{more_clauses, Stmt, Stmts, no_stmts, more_stmts, MaybeStmt, no_stmt, some_stmt}
use Rattle.script_grammar.specs.Tree as tree

module _ (bodies : ℕ → Body) where
  abbrev mutual
    pub fill : Expr → Expr
    fill (tree.Template at first parts) = tree.Template at first (fill_parts parts)
    fill (tree.Array at items comma) = tree.Array at (fill_items items) comma
    fill (tree.Object at props comma) = tree.Object at (fill_props props) comma
    fill (tree.Func at f) = tree.Func at (fill_function f)
    fill (tree.Paren at inner) = tree.Paren at (fill inner)
    fill (tree.Chain head tails) = tree.Chain (fill head) (fill_tails tails)
    fill (tree.New at callee args) = tree.New at (fill callee) (fill_args args)
    fill (tree.Unary at op of is_word) = tree.Unary at op (fill of) is_word
    fill (tree.Update at op prefix of) = tree.Update at op prefix (fill of)
    fill (tree.Binary first rest) = tree.Binary (fill first) (fill_operands rest)
    fill (tree.Cond test then_value else_value) = tree.Cond (fill test) (fill then_value) (fill else_value)
    fill (tree.Assign op target value) = tree.Assign op (fill target) (fill value)
    fill (tree.Comma items) = tree.Comma (fill_exprs items)
    fill (tree.This at) = tree.This at
    fill (tree.Name name) = tree.Name name
    fill (tree.Null at) = tree.Null at
    fill (tree.True at) = tree.True at
    fill (tree.False at) = tree.False at
    fill (tree.Number at value) = tree.Number at value
    fill (tree.Str at end text) = tree.Str at end text

    pub fill_exprs : Exprs → Exprs
    fill_exprs no_exprs = no_exprs
    fill_exprs (more_exprs e es) = more_exprs (fill e) (fill_exprs es)

    pub fill_maybe : MaybeExpr → MaybeExpr
    fill_maybe no_expr = no_expr
    fill_maybe (some_expr e) = some_expr (fill e)

    pub fill_args : MaybeArgs → MaybeArgs
    fill_args no_args = no_args
    fill_args (some_args es comma) = some_args (fill_exprs es) comma

    pub fill_parts : Parts → Parts
    fill_parts no_parts = no_parts
    fill_parts (more_parts value behind rest) = more_parts (fill value) behind (fill_parts rest)

    pub fill_items : Items → Items
    fill_items no_items = no_items
    fill_items (more_items i is) = more_items (fill_maybe i) (fill_items is)

    pub fill_operands : Operands → Operands
    fill_operands no_operands = no_operands
    fill_operands (more_operands op is_word value rest) = more_operands op is_word (fill value) (fill_operands rest)

    pub fill_tails : Tails → Tails
    fill_tails no_tails = no_tails
    fill_tails (more_tails t ts) = more_tails (fill_tail t) (fill_tails ts)

    pub fill_tail : Tail → Tail
    fill_tail (tree.Dot text) = tree.Dot text
    fill_tail (tree.Index e) = tree.Index (fill e)
    fill_tail (tree.Call es comma) = tree.Call (fill_exprs es) comma

    pub fill_key : Key → Key
    fill_key (tree.WordKey n) = tree.WordKey n
    fill_key (tree.StrKey n) = tree.StrKey n
    fill_key (tree.NumberKey at value) = tree.NumberKey at value
    fill_key (tree.ComputedKey e) = tree.ComputedKey (fill e)

    pub fill_prop : Prop → Prop
    fill_prop (tree.Short n) = tree.Short n
    fill_prop (tree.Pair key value) = tree.Pair (fill_key key) (fill value)
    fill_prop (tree.Method key f) = tree.Method (fill_key key) (fill_function f)
    fill_prop (tree.Get key f) = tree.Get (fill_key key) (fill_function f)
    fill_prop (tree.Set key f) = tree.Set (fill_key key) (fill_function f)

    pub fill_props : Props → Props
    fill_props no_props = no_props
    fill_props (more_props p ps) = more_props (fill_prop p) (fill_props ps)

    pub fill_function : Function → Function
    fill_function (function form start end name params comma bare body) = function form start end name (fill_params params) comma bare
        (fill_body start body)

    pub fill_params : Params → Params
    fill_params no_params = no_params
    fill_params (more_params name value rest ps) = more_params name (fill_maybe value) rest (fill_params ps)

    pub fill_body : ℕ → Body → Body
    fill_body start (tree.BracedBody items) = bodies start
    fill_body start (tree.ShortBody value) = tree.ShortBody (fill value)

  abbrev pub fill_binds : Binds → Binds
  fill_binds no_binds = no_binds
  fill_binds (more_binds name value bs) = more_binds name (fill_maybe value) (fill_binds bs)

  abbrev pub fill_init : Init → Init
  fill_init tree.NoInit = tree.NoInit
  fill_init (tree.ValueInit e) = tree.ValueInit (fill e)
  fill_init (tree.BindsInit decl bs) = tree.BindsInit decl (fill_binds bs)

  abbrev pub fill_each : Each → Each
  fill_each (tree.TargetEach e) = tree.TargetEach (fill e)
  fill_each (tree.BindEach decl name) = tree.BindEach decl name

  abbrev mutual
    pub fill_stmt : Stmt → Stmt
    fill_stmt (tree.Block items) = tree.Block (fill_stmts items)
    fill_stmt tree.Empty = tree.Empty
    fill_stmt (tree.Debugger semi) = tree.Debugger semi
    fill_stmt (tree.Binding decl bs semi) = tree.Binding decl (fill_binds bs) semi
    fill_stmt (tree.Value e semi) = tree.Value (fill e) semi
    fill_stmt (tree.If test then_stmt else_stmt) = tree.If (fill test) (fill_stmt then_stmt) (fill_else else_stmt)
    fill_stmt (tree.Do body test semi) = tree.Do (fill_stmt body) (fill test) semi
    fill_stmt (tree.While test body) = tree.While (fill test) (fill_stmt body)
    fill_stmt (tree.For init test update body) = tree.For (fill_init init) (fill_maybe test) (fill_maybe update) (fill_stmt body)
    fill_stmt (tree.ForIn each over body) = tree.ForIn (fill_each each) (fill over) (fill_stmt body)
    fill_stmt (tree.Continue at label semi) = tree.Continue at label semi
    fill_stmt (tree.Break at label semi) = tree.Break at label semi
    fill_stmt (tree.Return value semi) = tree.Return (fill_maybe value) semi
    fill_stmt (tree.Throw value semi) = tree.Throw (fill value) semi
    fill_stmt (tree.Switch of cs) = tree.Switch (fill of) (fill_clauses cs)
    fill_stmt (tree.Label name body) = tree.Label name (fill_stmt body)
    fill_stmt (tree.Try body param handler) = tree.Try (fill_stmts body) param (fill_stmts handler)
    fill_stmt (tree.Declared f) = tree.Declared (fill_function f)

    pub fill_stmts : Stmts → Stmts
    fill_stmts no_stmts = no_stmts
    fill_stmts (more_stmts s ss) = more_stmts (fill_stmt s) (fill_stmts ss)

    pub fill_else : MaybeStmt → MaybeStmt
    fill_else no_stmt = no_stmt
    fill_else (some_stmt s) = some_stmt (fill_stmt s)

    pub fill_clauses : Clauses → Clauses
    fill_clauses no_clauses = no_clauses
    fill_clauses (more_clauses test items cs) = more_clauses (fill_maybe test) (fill_stmts items) (fill_clauses cs)
