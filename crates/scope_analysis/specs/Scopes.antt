-- The scopes of a script or function, in source order, with their bindings and slots. The declarative environments are
-- those of ECMA-262, 12th edition (clauses 10.2.11 FunctionDeclarationInstantiation, 14.2.2 blocks, 14.7.4 and 14.7.5 for
-- heads, 14.12 switch, 14.15 catch, 15.2.5 named function expressions, 16.1.7 scripts); that a scope without a binding
-- is left out, the kinds, the order of bindings and the slots are this project's own choice.
use Rattle.std.specs.Prelude.{ℕ, ◌+◌, Bool, if◌then◌else◌, List, [], ◌∷◌, ◌++◌, map, Option, Some, None}
use Rattle.script_grammar.specs.declared.token.FuncForm.{FuncForm}
use Rattle.script_grammar.specs.Kinds.{is_arrow_form}
use Rattle.script_grammar.specs.Tree.{Named, MaybeExpr, Function, function, Params, Body, BracedBody, ShortBody, Init, Each, Clauses}
use Rattle.script_grammar.specs.Tree.{no_clauses, more_clauses, Stmt, Stmts, no_stmts, more_stmts, MaybeStmt, no_stmt, some_stmt, Expr}
use Rattle.script_grammar.specs.Tree.{Block, Empty, Debugger, Binding, Value, If, Do, While, For, ForIn, Continue, Break, Return, Throw}
use Rattle.script_grammar.specs.Tree.{Switch, Label, Try, Declared}
use Rattle.stencil_data.specs.declared.chains.LinkName.{LinkName}
use Rattle.stencil_data.specs.declared.functions.FuncKind.{FuncKind}
use Rattle.stencil_data.specs.declared.functions.FuncKind.TheVariants as func
use Rattle.stencil_data.specs.declared.scopes.BindKind.TheVariants as bind
use Rattle.stencil_data.specs.declared.scopes.ScopeKind.{ScopeKind}
use Rattle.stencil_data.specs.declared.scopes.ScopeKind.TheVariants as scope
use Rattle.stencil_data.specs.declared.scopes.Slot.{Slot}
use Rattle.stencil_data.specs.Named.{NamedScope}
use Rattle.stencil_data.specs.Slots.{Unplaced, slots, frame_after, env_slots}
use Rattle.scope_analysis.specs.DeclaredNames.{Text, has_text, texts_without, texts_of, Declaration, declaration, declarations, name_list}
use Rattle.scope_analysis.specs.DeclaredNames.{lexical_names, clauses_lexical_names, top_lexical_names, init_lexical_names}
use Rattle.scope_analysis.specs.DeclaredNames.{each_lexical_names, top_var_names, param_names, has_initializer}
use Rattle.scope_analysis.specs.Uses.{Uses, uses_both, uses_without, uses_expr, uses_maybe, uses_init, uses_each, uses_stmt, uses_stmts}
use Rattle.scope_analysis.specs.Uses.{uses_clauses, uses_params, uses_body, body_vars, beside_params, this_text, arguments_text}

-- ---- one scope

-- its bindings before they have slots, by the names that inner functions use
abbrev pub unplaced : List Text → List Declaration → List Unplaced
unplaced inner ds = map (λ (d : Declaration). record { kind = d.kind; closed = has_text inner d.text }) ds

abbrev pub placed : List Declaration → List Slot → List LinkName
placed [] ss = []
placed (d ∷ ds) [] = []
placed (d ∷ ds) (s ∷ ss) = record { text = d.text; kind = d.kind; slot = s } ∷ placed ds ss

-- the scope of these declarations, where the scopes around it leave the frame free from a slot on
abbrev pub scope_of : ScopeKind → Option ℕ → ℕ → List Declaration → List Text → NamedScope
scope_of kind parent frame ds inner = record {
  kind = kind;
  parent = parent;
  bindings = placed ds (slots kind frame (unplaced inner ds));
  env_slots = env_slots kind (unplaced inner ds);
}

-- ---- scopes around parts of a tree

-- where a part stands in its function: the scope around it, the number of the first scope in it, the first free frame slot
pub record Within : Type 0 where
  pub parent : Option ℕ
  pub next : ℕ
  pub frame : ℕ

abbrev pub inside : ScopeKind → List Declaration → List Text → Within → Within
inside kind ds inner w = record { parent = Some w.next; next = w.next + 1; frame = frame_after kind w.frame (unplaced inner ds) }

-- after n scopes
abbrev pub behind : ℕ → Within → Within
behind count w = record { parent = w.parent; next = w.next + count; frame = w.frame }

-- a scope that stands even without a binding, and the scopes of what is in it
abbrev pub scope_and : ScopeKind → List Declaration → List Text → (Within → List NamedScope) → Within → List NamedScope
scope_and kind ds inner content w = scope_of kind w.parent w.frame ds inner ∷ content (inside kind ds inner w)

-- a scope that is left out where nothing is declared
abbrev pub scope_around : ScopeKind → List Declaration → List Text → (Within → List NamedScope) → Within → List NamedScope
scope_around kind [] inner content w = content w
scope_around kind (d ∷ ds) inner content w = scope_and kind (d ∷ ds) inner content w

abbrev pub scope_count : List Declaration → ℕ
scope_count [] = 0
scope_count (d ∷ ds) = 1

abbrev pub catch_names : Option Named → List Declaration
catch_names param = declarations bind.Catch (name_list param)

-- ---- how many scopes stand in a statement

abbrev mutual
  pub count_stmt : Stmt → ℕ
  count_stmt (Block items) = scope_count (lexical_names items) + count_stmts items
  count_stmt Empty = 0
  count_stmt (Debugger semi) = 0
  count_stmt (Binding kind binds semi) = 0
  count_stmt (Value value semi) = 0
  count_stmt (If test then_stmt else_stmt) = count_stmt then_stmt + count_else else_stmt
  count_stmt (Do body test semi) = count_stmt body
  count_stmt (While test body) = count_stmt body
  count_stmt (For init test update body) = scope_count (init_lexical_names init) + count_stmt body
  count_stmt (ForIn each over body) = scope_count (each_lexical_names each) + count_stmt body
  count_stmt (Continue at label semi) = 0
  count_stmt (Break at label semi) = 0
  count_stmt (Return value semi) = 0
  count_stmt (Throw value semi) = 0
  count_stmt (Switch of clauses) = scope_count (clauses_lexical_names clauses) + count_clauses clauses
  count_stmt (Label name body) = count_stmt body
  count_stmt (Try body param handler) =
      scope_count (lexical_names body) + count_stmts body +
      (scope_count (catch_names param) + (scope_count (lexical_names handler) + count_stmts handler))
  count_stmt (Declared f) = 0

  pub count_stmts : Stmts → ℕ
  count_stmts no_stmts = 0
  count_stmts (more_stmts s rest) = count_stmt s + count_stmts rest

  pub count_else : MaybeStmt → ℕ
  count_else no_stmt = 0
  count_else (some_stmt s) = count_stmt s

  pub count_clauses : Clauses → ℕ
  count_clauses no_clauses = 0
  count_clauses (more_clauses test items rest) = count_stmts items + count_clauses rest

-- ---- the scopes of statements

-- the names that functions in these parts use
abbrev pub for_inner : Init → MaybeExpr → MaybeExpr → Stmt → List Text
for_inner init test update body = (uses_both (uses_init init) (uses_both (uses_maybe test) (uses_both (uses_maybe update) (uses_stmt body)))).inner

abbrev pub for_in_inner : Each → Expr → Stmt → List Text
for_in_inner each over body = (uses_both (uses_each each) (uses_both (uses_expr over) (uses_stmt body))).inner

abbrev pub block_inner : Stmts → List Text
block_inner items = (uses_stmts items).inner

abbrev pub catch_inner : Stmts → List Text
catch_inner handler = (uses_without (texts_of (lexical_names handler)) (uses_stmts handler)).inner

abbrev mutual
  pub scopes_stmt : Stmt → Within → List NamedScope
  scopes_stmt (Block items) w = scope_around scope.Lexical (lexical_names items) (block_inner items) (scopes_stmts items) w
  scopes_stmt Empty w = []
  scopes_stmt (Debugger semi) w = []
  scopes_stmt (Binding kind binds semi) w = []
  scopes_stmt (Value value semi) w = []
  scopes_stmt (If test then_stmt else_stmt) w = scopes_stmt then_stmt w ++ scopes_else else_stmt (behind (count_stmt then_stmt) w)
  scopes_stmt (Do body test semi) w = scopes_stmt body w
  scopes_stmt (While test body) w = scopes_stmt body w
  scopes_stmt (For init test update body) w = scope_around scope.Lexical (init_lexical_names init) (for_inner init test update body)
      (scopes_stmt body) w
  scopes_stmt (ForIn each over body) w = scope_around scope.Lexical (each_lexical_names each) (for_in_inner each over body) (scopes_stmt body) w
  scopes_stmt (Continue at label semi) w = []
  scopes_stmt (Break at label semi) w = []
  scopes_stmt (Return value semi) w = []
  scopes_stmt (Throw value semi) w = []
  scopes_stmt (Switch of clauses) w = scope_around scope.Lexical (clauses_lexical_names clauses) (uses_clauses clauses).inner
      (scopes_clauses clauses) w
  scopes_stmt (Label name body) w = scopes_stmt body w
  scopes_stmt (Try body param handler) w =
      scope_around scope.Lexical (lexical_names body) (block_inner body) (scopes_stmts body) w
      ++ scope_around scope.SimpleCatch (catch_names param) (catch_inner handler)
      (scope_around scope.Lexical (lexical_names handler) (block_inner handler) (scopes_stmts handler))
      (behind (scope_count (lexical_names body) + count_stmts body) w)
  scopes_stmt (Declared f) w = []

  pub scopes_stmts : Stmts → Within → List NamedScope
  scopes_stmts no_stmts w = []
  scopes_stmts (more_stmts s rest) w = scopes_stmt s w ++ scopes_stmts rest (behind (count_stmt s) w)

  pub scopes_else : MaybeStmt → Within → List NamedScope
  scopes_else no_stmt w = []
  scopes_else (some_stmt s) w = scopes_stmt s w

  pub scopes_clauses : Clauses → Within → List NamedScope
  scopes_clauses no_clauses w = []
  scopes_clauses (more_clauses test items rest) w = scopes_stmts items w ++ scopes_clauses rest (behind (count_stmts items) w)

-- ---- the scopes of a function

-- the name of a function expression, which it binds around itself
abbrev pub callee_names : FuncKind → Option Text → List Declaration
callee_names func.Expression (Some name) = declaration bind.Callee name ∷ []
callee_names _ _ = []

-- `arguments` and `this`, where a function that is no arrow uses them, itself or through arrows
abbrev pub used_special : Uses → List Declaration
used_special u =
    (if has_text (u.own ++ u.inner) arguments_text then declaration bind.Arguments arguments_text ∷ [] else [])
    ++ (if has_text (u.own ++ u.inner) this_text then declaration bind.This this_text ∷ [] else [])

abbrev pub special_names : FuncForm → Uses → List Declaration
special_names form u = if is_arrow_form form then [] else used_special u

-- what is used in the parameters' initializers and the body
abbrev pub function_uses : Params → Body → Uses
function_uses params body = uses_both (uses_params params) (uses_body (has_initializer params) body)

-- the bindings of a function's own scope
abbrev pub function_names : FuncForm → Params → Body → List Declaration
function_names form params body =
    declarations bind.Param (param_names params)
    ++ declarations bind.Var (texts_without (param_names params) (beside_params (has_initializer params) body))
    ++ special_names form (function_uses params body)

-- the var names of a body whose parameters have an initializer
abbrev pub body_var_names : Bool → Stmts → List Declaration
body_var_names initialized items = declarations bind.Var (body_vars initialized items)

abbrev pub body_var_inner : Stmts → List Text
body_var_inner items = (uses_without (texts_of (top_lexical_names items)) (uses_stmts items)).inner

abbrev pub scopes_body : Bool → Body → Within → List NamedScope
scopes_body initialized (ShortBody value) w = []
scopes_body initialized (BracedBody items) w =
    scope_around scope.FunctionBodyVar (body_var_names initialized items) (body_var_inner items)
    (scope_around scope.FunctionLexical (top_lexical_names items) (block_inner items) (scopes_stmts items)) w

-- nothing is around
abbrev pub outermost : Within
outermost = record { parent = None; next = 0; frame = 0 }

-- The scopes of a function of this kind and name; the name in the tree is not looked at.
abbrev pub function_scopes : FuncKind → Option Text → Function → List NamedScope
function_scopes kind name (function form start end _ params comma bare body) =
    scope_around scope.StrictNamedLambda (callee_names kind name)
    (uses_without (texts_of (function_names form params body)) (function_uses params body)).inner
    (scope_and scope.Function (function_names form params body) (function_uses params body).inner (scopes_body (has_initializer params) body))
    outermost

-- The scopes of a script.
abbrev pub global_names : Stmts → List Declaration
global_names items = declarations bind.Var (top_var_names items) ++ top_lexical_names items

abbrev pub script_scopes : Stmts → List NamedScope
script_scopes items = scope_and scope.Global (global_names items) (block_inner items) (scopes_stmts items) outermost
