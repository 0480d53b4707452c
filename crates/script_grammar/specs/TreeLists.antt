-- The lists and options inside trees, from `List` and `Option`.
use Rattle.std.specs.Prelude.{ℕ, List, [], ◌∷◌, Bool, Option, Some, None}
use Rattle.script_grammar.specs.Tree.{Named, Expr, Exprs, no_exprs, more_exprs, MaybeExpr, no_expr, some_expr, MaybeArgs, no_args}
use Rattle.script_grammar.specs.Tree.{some_args, Parts, no_parts, more_parts, Items, no_items, more_items, Operands, no_operands}
use Rattle.script_grammar.specs.Tree.{more_operands, Tail, Tails, no_tails, more_tails, Prop, Props, no_props, more_props, Params}
use Rattle.script_grammar.specs.Tree.{no_params, more_params, Binds, no_binds, more_binds, Clauses, no_clauses, more_clauses, Stmt, Stmts}
use Rattle.script_grammar.specs.Tree.{no_stmts, more_stmts, MaybeStmt, no_stmt, some_stmt}

-- arguments, and whether a comma stands after them
pub record Args : Type 0 where
  pub items : List Expr
  pub comma : Bool

pub record Operand : Type 0 where
  pub op : ℕ
  pub is_word : Bool
  pub value : Expr

pub record Part : Type 0 where
  pub value : Expr
  pub behind : List ℕ

pub record Param : Type 0 where
  pub name : Named
  pub value : Option Expr
  pub rest : Bool

pub record Bind : Type 0 where
  pub name : Named
  pub value : Option Expr

pub record Clause : Type 0 where
  pub test : Option Expr
  pub items : List Stmt

abbrev pub exprs_of : List Expr → Exprs
exprs_of [] = no_exprs
exprs_of (e ∷ es) = more_exprs e (exprs_of es)

abbrev pub maybe_expr_of : Option Expr → MaybeExpr
maybe_expr_of None = no_expr
maybe_expr_of (Some e) = some_expr e

abbrev pub maybe_args_of : Option Args → MaybeArgs
maybe_args_of None = no_args
maybe_args_of (Some a) = some_args (exprs_of a.items) a.comma

abbrev pub parts_of : List Part → Parts
parts_of [] = no_parts
parts_of (p ∷ ps) = more_parts p.value p.behind (parts_of ps)

abbrev pub items_of : List (Option Expr) → Items
items_of [] = no_items
items_of (i ∷ is) = more_items (maybe_expr_of i) (items_of is)

abbrev pub operands_of : List Operand → Operands
operands_of [] = no_operands
operands_of (o ∷ os) = more_operands o.op o.is_word o.value (operands_of os)

abbrev pub tails_of : List Tail → Tails
tails_of [] = no_tails
tails_of (t ∷ ts) = more_tails t (tails_of ts)

abbrev pub props_of : List Prop → Props
props_of [] = no_props
props_of (p ∷ ps) = more_props p (props_of ps)

abbrev pub params_of : List Param → Params
params_of [] = no_params
params_of (p ∷ ps) = more_params p.name (maybe_expr_of p.value) p.rest (params_of ps)

abbrev pub binds_of : List Bind → Binds
binds_of [] = no_binds
binds_of (b ∷ bs) = more_binds b.name (maybe_expr_of b.value) (binds_of bs)

abbrev pub stmts_of : List Stmt → Stmts
stmts_of [] = no_stmts
stmts_of (s ∷ ss) = more_stmts s (stmts_of ss)

abbrev pub maybe_stmt_of : Option Stmt → MaybeStmt
maybe_stmt_of None = no_stmt
maybe_stmt_of (Some s) = some_stmt s

abbrev pub clauses_of : List Clause → Clauses
clauses_of [] = no_clauses
clauses_of (c ∷ cs) = more_clauses (maybe_expr_of c.test) (stmts_of c.items) (clauses_of cs)
