-- How many try statements stand in a script or a function, those in the functions inside left out.
use Rattle.std.specs.Prelude.{ℕ, suc, ◌+◌}
use Rattle.script_grammar.specs.Tree.{Function, function, Body, BracedBody, ShortBody, Clauses, no_clauses, more_clauses, Stmt, Stmts, no_stmts}
use Rattle.script_grammar.specs.Tree.{more_stmts, MaybeStmt, no_stmt, some_stmt, Block, Empty, Debugger, Binding, Value, If, Do, While, For, ForIn}
use Rattle.script_grammar.specs.Tree.{Continue, Break, Return, Throw, Switch, Label, Try, Declared}

abbrev mutual
  pub tries_stmt : Stmt → ℕ
  tries_stmt (Block items) = tries_stmts items
  tries_stmt Empty = 0
  tries_stmt (Debugger semi) = 0
  tries_stmt (Binding kind binds semi) = 0
  tries_stmt (Value value semi) = 0
  tries_stmt (If test then_stmt else_stmt) = tries_stmt then_stmt + tries_else else_stmt
  tries_stmt (Do body test semi) = tries_stmt body
  tries_stmt (While test body) = tries_stmt body
  tries_stmt (For init test update body) = tries_stmt body
  tries_stmt (ForIn each over body) = tries_stmt body
  tries_stmt (Continue at label semi) = 0
  tries_stmt (Break at label semi) = 0
  tries_stmt (Return value semi) = 0
  tries_stmt (Throw value semi) = 0
  tries_stmt (Switch of clauses) = tries_clauses clauses
  tries_stmt (Label name body) = tries_stmt body
  tries_stmt (Try body param handler) = suc (tries_stmts body) + tries_stmts handler
  tries_stmt (Declared f) = 0

  pub tries_stmts : Stmts → ℕ
  tries_stmts no_stmts = 0
  tries_stmts (more_stmts s rest) = tries_stmt s + tries_stmts rest

  pub tries_else : MaybeStmt → ℕ
  tries_else no_stmt = 0
  tries_else (some_stmt s) = tries_stmt s

  pub tries_clauses : Clauses → ℕ
  tries_clauses no_clauses = 0
  tries_clauses (more_clauses test items rest) = tries_stmts items + tries_clauses rest

abbrev pub tries_body : Body → ℕ
tries_body (ShortBody value) = 0
tries_body (BracedBody items) = tries_stmts items

abbrev pub tries_function : Function → ℕ
tries_function (function _ _ _ _ ps _ _ body) = tries_body body
