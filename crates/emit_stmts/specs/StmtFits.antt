-- When the counts of a statement fit: those of its expressions; the scopes that are entered one in another, of which
-- there may be n; and the values that stay on the stack around a try. All scripts fit. This project's own choice.
use Rattle.std.specs.Prelude.{ℕ, ◌+◌, ◌-◌, ◌<◌, ◌^◌, List, [], ◌∷◌}
use Rattle.script_grammar.specs.Tree.{Binds, no_binds, more_binds, Init, NoInit, ValueInit, BindsInit, Each, TargetEach, BindEach, Clauses}
use Rattle.script_grammar.specs.Tree.{no_clauses, more_clauses, Stmt, Stmts, no_stmts, more_stmts, MaybeStmt, no_stmt, some_stmt, Block}
use Rattle.script_grammar.specs.Tree.{Empty, Debugger, Binding, Value, If, Do, While, For, ForIn, Continue, Break, Return, Throw, Switch}
use Rattle.script_grammar.specs.Tree.{Label, Try, Declared}
use Rattle.scope_analysis.specs.DeclaredNames.{Declaration, lexical_names, clauses_lexical_names, init_lexical_names, each_lexical_names}
use Rattle.scope_analysis.specs.Scopes.{catch_names}
use Rattle.emit_exprs.specs.Fitting.{ExprFits, MaybeExprFits}

-- a scope of these declarations may be entered
abbrev pub HasRoom : List Declaration → ℕ → Type 0
HasRoom [] room = Unit {0}
HasRoom (d ∷ ds) room = 0 < room

-- what is left inside it
abbrev pub room_in : List Declaration → ℕ → ℕ
room_in [] room = room
room_in (d ∷ ds) room = room - 1

abbrev pub BindsFit : Binds → Type 0
BindsFit no_binds = Unit {0}
BindsFit (more_binds name value rest) = MaybeExprFits value × BindsFit rest

abbrev pub InitFits : Init → Type 0
InitFits NoInit = Unit {0}
InitFits (ValueInit e) = ExprFits e
InitFits (BindsInit kind binds) = BindsFit binds

abbrev pub EachFits : Each → Type 0
EachFits (TargetEach e) = ExprFits e
EachFits (BindEach kind name) = Unit {0}

-- of statements where n scopes may be entered, and m values stay on the stack
abbrev mutual
  pub StmtFits : ℕ → ℕ → Stmt → Type 0
  StmtFits room kept (Block items) = HasRoom (lexical_names items) room × StmtsFit (room_in (lexical_names items) room) kept items
  StmtFits room kept Empty = Unit {0}
  StmtFits room kept (Debugger semi) = Unit {0}
  StmtFits room kept (Binding kind binds semi) = BindsFit binds
  StmtFits room kept (Value value semi) = ExprFits value
  StmtFits room kept (If test then_stmt else_stmt) = ExprFits test × StmtFits room kept then_stmt × ElseFits room kept else_stmt
  StmtFits room kept (Do body test semi) = StmtFits room kept body × ExprFits test
  StmtFits room kept (While test body) = ExprFits test × StmtFits room kept body
  StmtFits room kept (For init test update body) =
      HasRoom (init_lexical_names init) room × InitFits init × MaybeExprFits test × MaybeExprFits update
      × StmtFits (room_in (init_lexical_names init) room) kept body
  StmtFits room kept (ForIn each over body) =
      HasRoom (each_lexical_names each) room × EachFits each × ExprFits over × StmtFits (room_in (each_lexical_names each) room) (2 + kept) body
  StmtFits room kept (Continue at label semi) = Unit {0}
  StmtFits room kept (Break at label semi) = Unit {0}
  StmtFits room kept (Return value semi) = MaybeExprFits value
  StmtFits room kept (Throw value semi) = ExprFits value
  StmtFits room kept (Switch of clauses) = ExprFits of × HasRoom (clauses_lexical_names clauses) room
      × ClausesFit (room_in (clauses_lexical_names clauses) room) kept clauses
  StmtFits room kept (Label name body) = StmtFits room kept body
  StmtFits room kept (Try body param handler) =
      (kept < 2 ^ 32) × HasRoom (lexical_names body) room × StmtsFit (room_in (lexical_names body) room) kept body
      × HasRoom (catch_names param) room × HasRoom (lexical_names handler) (room_in (catch_names param) room)
      × StmtsFit (room_in (lexical_names handler) (room_in (catch_names param) room)) kept handler
  StmtFits room kept (Declared f) = Unit {0}

  pub StmtsFit : ℕ → ℕ → Stmts → Type 0
  StmtsFit room kept no_stmts = Unit {0}
  StmtsFit room kept (more_stmts s rest) = StmtFits room kept s × StmtsFit room kept rest

  pub ElseFits : ℕ → ℕ → MaybeStmt → Type 0
  ElseFits room kept no_stmt = Unit {0}
  ElseFits room kept (some_stmt s) = StmtFits room kept s

  pub ClausesFit : ℕ → ℕ → Clauses → Type 0
  ClausesFit room kept no_clauses = Unit {0}
  ClausesFit room kept (more_clauses test items rest) = MaybeExprFits test × StmtsFit room kept items × ClausesFit room kept rest
