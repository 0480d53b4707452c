-- The names that parts of a tree declare, in order (ECMA-262, 12th edition, clause 8.1: BoundNames,
-- LexicallyDeclaredNames, VarDeclaredNames and their top-level forms).
use Rattle.std.specs.Prelude.{ℕ, Bool, true, false, not, bytes_eq, if◌then◌else◌, List, [], ◌∷◌, ◌++◌, map, filter, Option, Some, None}
use Rattle.std.specs.List.{list_any}
use Rattle.script_grammar.specs.declared.token.Decl.{Decl}
use Rattle.script_grammar.specs.declared.token.Decl.TheVariants as decl
use Rattle.script_grammar.specs.Tree.{Named, MaybeExpr, no_expr, some_expr, Function, function, Params, no_params, more_params, Binds}
use Rattle.script_grammar.specs.Tree.{no_binds, more_binds, Init, BindsInit, Each, TargetEach, BindEach, Clauses, no_clauses, more_clauses}
use Rattle.script_grammar.specs.Tree.{Stmt, Stmts, no_stmts, more_stmts, MaybeStmt, no_stmt, some_stmt, Block, Empty, Debugger, Binding}
use Rattle.script_grammar.specs.Tree.{Value, If, Do, While, For, ForIn, Continue, Break, Return, Throw, Switch, Label, Try, Declared}
use Rattle.stencil_data.specs.declared.scopes.BindKind.{BindKind}
use Rattle.stencil_data.specs.declared.scopes.BindKind.TheVariants as bind

-- a text
abbrev pub Text : Type 0
Text = List ℕ

-- the text is among these
abbrev pub has_text : List Text → Text → Bool
has_text texts text = list_any (λ t. bytes_eq t text) texts

-- the texts that are not among the first ones
abbrev pub texts_without : List Text → List Text → List Text
texts_without gone texts = filter (λ t. not (has_text gone t)) texts

-- each text once, where it stands first
abbrev pub first_ones_after : List Text → List Text → List Text
first_ones_after seen [] = []
first_ones_after seen (t ∷ ts) = if has_text seen t then first_ones_after seen ts else t ∷ first_ones_after (t ∷ seen) ts

abbrev pub first_ones : List Text → List Text
first_ones texts = first_ones_after [] texts

-- a declared name
pub record Declaration : Type 0 where
  pub text : Text
  pub kind : BindKind

abbrev pub declaration : BindKind → Text → Declaration
declaration kind text = record { text = text; kind = kind }

abbrev pub declarations : BindKind → List Text → List Declaration
declarations kind texts = map (declaration kind) texts

abbrev pub texts_of : List Declaration → List Text
texts_of ds = map (λ (d : Declaration). d.text) ds

abbrev pub bound_names : Binds → List Text
bound_names no_binds = []
bound_names (more_binds name value rest) = name.text ∷ bound_names rest

abbrev pub name_list : Option Named → List Text
name_list None = []
name_list (Some name) = name.text ∷ []

abbrev pub function_name : Function → Option Named
function_name (function _ _ _ name _ _ _ _) = name

-- the names of `let` and `const`; those of `var` are no lexical ones
abbrev pub lexical_binds : Decl → Binds → List Declaration
lexical_binds decl.Var binds = []
lexical_binds decl.Let binds = declarations bind.Let (bound_names binds)
lexical_binds decl.Const binds = declarations bind.Const (bound_names binds)

abbrev pub var_binds : Decl → Binds → List Text
var_binds decl.Var binds = bound_names binds
var_binds decl.Let binds = []
var_binds decl.Const binds = []

-- ---- lexical names

-- of one statement of a block (LexicallyDeclaredNames)
abbrev pub lexical_name : Stmt → List Declaration
lexical_name (Binding kind binds semi) = lexical_binds kind binds
lexical_name (Declared f) = declarations bind.Function (name_list (function_name f))
lexical_name _ = []

-- of a block
abbrev pub lexical_names : Stmts → List Declaration
lexical_names no_stmts = []
lexical_names (more_stmts s rest) = lexical_name s ++ lexical_names rest

-- of a switch's clauses
abbrev pub clauses_lexical_names : Clauses → List Declaration
clauses_lexical_names no_clauses = []
clauses_lexical_names (more_clauses test items rest) = lexical_names items ++ clauses_lexical_names rest

-- of one statement at the top of a script or function body, where function declarations are like `var`
abbrev pub top_lexical_name : Stmt → List Declaration
top_lexical_name (Binding kind binds semi) = lexical_binds kind binds
top_lexical_name _ = []

abbrev pub top_lexical_names : Stmts → List Declaration
top_lexical_names no_stmts = []
top_lexical_names (more_stmts s rest) = top_lexical_name s ++ top_lexical_names rest

-- of a for head
abbrev pub init_lexical_names : Init → List Declaration
init_lexical_names (BindsInit kind binds) = lexical_binds kind binds
init_lexical_names _ = []

abbrev pub each_lexical_names : Each → List Declaration
each_lexical_names (BindEach decl.Var name) = []
each_lexical_names (BindEach decl.Let name) = declaration bind.Let name.text ∷ []
each_lexical_names (BindEach decl.Const name) = declaration bind.Const name.text ∷ []
each_lexical_names (TargetEach target) = []

-- ---- var names

abbrev pub init_var_names : Init → List Text
init_var_names (BindsInit kind binds) = var_binds kind binds
init_var_names _ = []

abbrev pub each_var_names : Each → List Text
each_var_names (BindEach decl.Var name) = name.text ∷ []
each_var_names _ = []

-- of statements at any depth, functions left out (VarDeclaredNames)
abbrev mutual
  pub var_names_in : Stmt → List Text
  var_names_in (Block items) = var_names items
  var_names_in Empty = []
  var_names_in (Debugger semi) = []
  var_names_in (Binding kind binds semi) = var_binds kind binds
  var_names_in (Value value semi) = []
  var_names_in (If test then_stmt else_stmt) = var_names_in then_stmt ++ else_var_names else_stmt
  var_names_in (Do body test semi) = var_names_in body
  var_names_in (While test body) = var_names_in body
  var_names_in (For init test update body) = init_var_names init ++ var_names_in body
  var_names_in (ForIn each over body) = each_var_names each ++ var_names_in body
  var_names_in (Continue at label semi) = []
  var_names_in (Break at label semi) = []
  var_names_in (Return value semi) = []
  var_names_in (Throw value semi) = []
  var_names_in (Switch of clauses) = clauses_var_names clauses
  var_names_in (Label name body) = var_names_in body
  var_names_in (Try body param handler) = var_names body ++ var_names handler
  var_names_in (Declared f) = []

  pub var_names : Stmts → List Text
  var_names no_stmts = []
  var_names (more_stmts s rest) = var_names_in s ++ var_names rest

  pub else_var_names : MaybeStmt → List Text
  else_var_names no_stmt = []
  else_var_names (some_stmt s) = var_names_in s

  pub clauses_var_names : Clauses → List Text
  clauses_var_names no_clauses = []
  clauses_var_names (more_clauses test items rest) = var_names items ++ clauses_var_names rest

-- of one statement at the top (TopLevelVarDeclaredNames)
abbrev pub top_var_names_in : Stmt → List Text
top_var_names_in (Declared f) = name_list (function_name f)
top_var_names_in s = var_names_in s

abbrev pub all_top_var_names : Stmts → List Text
all_top_var_names no_stmts = []
all_top_var_names (more_stmts s rest) = top_var_names_in s ++ all_top_var_names rest

-- the var names of a script or function body, each once, by first declaration
abbrev pub top_var_names : Stmts → List Text
top_var_names items = first_ones (all_top_var_names items)

-- ---- parameters

abbrev pub param_names : Params → List Text
param_names no_params = []
param_names (more_params name value rest more) = name.text ∷ param_names more

abbrev pub is_some_expr : MaybeExpr → Bool
is_some_expr no_expr = false
is_some_expr (some_expr e) = true

-- some parameter has an initializer
abbrev pub has_initializer : Params → Bool
has_initializer no_params = false
has_initializer (more_params name value rest more) = if is_some_expr value then true else has_initializer more
