-- How many names the scopes of statements have.
use Rattle.std.specs.Prelude.{ℕ, ◌+◌, Bool, length}
use Rattle.script_grammar.specs.Tree.{Body, BracedBody, ShortBody, Clauses, no_clauses, more_clauses, Stmt, Stmts, no_stmts, more_stmts, MaybeStmt}
use Rattle.script_grammar.specs.Tree.{no_stmt, some_stmt, Block, Empty, Debugger, Binding, Value, If, Do, While, For, ForIn, Continue, Break, Return}
use Rattle.script_grammar.specs.Tree.{Throw, Switch, Label, Try, Declared}
use Rattle.scope_analysis.specs.DeclaredNames.{lexical_names, clauses_lexical_names, init_lexical_names, each_lexical_names, top_lexical_names}
use Rattle.scope_analysis.specs.Scopes.{catch_names, body_var_names}

abbrev mutual
  pub names_stmt : Stmt → ℕ
  names_stmt (Block items) = length (lexical_names items) + names_stmts items
  names_stmt Empty = 0
  names_stmt (Debugger semi) = 0
  names_stmt (Binding kind binds semi) = 0
  names_stmt (Value value semi) = 0
  names_stmt (If test then_stmt else_stmt) = names_stmt then_stmt + names_else else_stmt
  names_stmt (Do body test semi) = names_stmt body
  names_stmt (While test body) = names_stmt body
  names_stmt (For init test update body) = length (init_lexical_names init) + names_stmt body
  names_stmt (ForIn each over body) = length (each_lexical_names each) + names_stmt body
  names_stmt (Continue at label semi) = 0
  names_stmt (Break at label semi) = 0
  names_stmt (Return value semi) = 0
  names_stmt (Throw value semi) = 0
  names_stmt (Switch of clauses) = length (clauses_lexical_names clauses) + names_clauses clauses
  names_stmt (Label name body) = names_stmt body
  names_stmt (Try body param handler) =
      (length (lexical_names body) + names_stmts body) + (length (catch_names param) + (length (lexical_names handler) + names_stmts handler))
  names_stmt (Declared f) = 0

  pub names_stmts : Stmts → ℕ
  names_stmts no_stmts = 0
  names_stmts (more_stmts s rest) = names_stmt s + names_stmts rest

  pub names_else : MaybeStmt → ℕ
  names_else no_stmt = 0
  names_else (some_stmt s) = names_stmt s

  pub names_clauses : Clauses → ℕ
  names_clauses no_clauses = 0
  names_clauses (more_clauses test items rest) = names_stmts items + names_clauses rest

-- and those of a body: its var names, where a parameter has an initializer, its lexical names, and those of its statements
abbrev pub body_names : Bool → Body → ℕ
body_names initialized (ShortBody value) = 0
body_names initialized (BracedBody items) = length (body_var_names initialized items) + (length (top_lexical_names items) + names_stmts items)
