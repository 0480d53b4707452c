-- The functions directly in a part of a tree, in source order, each with its kind, its name and the scopes around it.
-- This project's own choice, but for which functions there are (ECMA-262, 12th edition, clause 15).
use Rattle.std.specs.Prelude.{ℕ, ◌+◌, Bool, List, [], ◌∷◌, ◌++◌, Option, None, option_map}
use Rattle.script_grammar.specs.declared.token.FuncForm.{FuncForm}
use Rattle.script_grammar.specs.declared.token.FuncForm.TheVariants as form
use Rattle.script_grammar.specs.Tree.{Named, Expr, This, Name, Null, True, False, Number, Str, Template, Array, Object, Func, Paren, Chain}
use Rattle.script_grammar.specs.Tree.{New, Unary, Update, Binary, Cond, Assign, Comma, Exprs, no_exprs, more_exprs, MaybeExpr, no_expr}
use Rattle.script_grammar.specs.Tree.{some_expr, MaybeArgs, no_args, some_args, Parts, no_parts, more_parts, Items, no_items, more_items}
use Rattle.script_grammar.specs.Tree.{Operands, no_operands, more_operands, Tail, Dot, Index, Call, Tails, no_tails, more_tails, Key}
use Rattle.script_grammar.specs.Tree.{WordKey, StrKey, NumberKey, ComputedKey, Prop, Short, Pair, Method, Get, Set, Props, no_props}
use Rattle.script_grammar.specs.Tree.{more_props, Function, function, Params, no_params, more_params, Body, BracedBody, ShortBody, Binds}
use Rattle.script_grammar.specs.Tree.{no_binds, more_binds, Init, NoInit, ValueInit, BindsInit, Each, TargetEach, BindEach, Clauses}
use Rattle.script_grammar.specs.Tree.{no_clauses, more_clauses, Stmt, Stmts, no_stmts, more_stmts, MaybeStmt, no_stmt, some_stmt, Block}
use Rattle.script_grammar.specs.Tree.{Empty, Debugger, Binding, Value, If, Do, While, For, ForIn, Continue, Break, Return, Throw, Switch}
use Rattle.script_grammar.specs.Tree.{Label, Try, Declared}
use Rattle.stencil_data.specs.declared.functions.FuncKind.{FuncKind}
use Rattle.stencil_data.specs.declared.functions.FuncKind.TheVariants as func
use Rattle.scope_analysis.specs.DeclaredNames.{Text, Declaration, function_name, lexical_names, clauses_lexical_names, top_lexical_names}
use Rattle.scope_analysis.specs.DeclaredNames.{init_lexical_names, each_lexical_names, has_initializer}
use Rattle.scope_analysis.specs.Scopes.{scope_count, catch_names, count_stmt, count_stmts, callee_names, body_var_names}

-- a function, how it is written, its name, and the numbers of the scopes around it in its function, innermost first
pub record Inner : Type 0 where
  pub func : Function
  pub kind : FuncKind
  pub name : Option Text
  pub around : List ℕ

abbrev pub expression_kind : FuncForm → FuncKind
expression_kind form.Arrow = func.Arrow
expression_kind _ = func.Expression

abbrev pub function_form : Function → FuncForm
function_form (function form _ _ _ _ _ _ _) = form

abbrev pub named_inner : FuncKind → Function → List ℕ → List Inner
named_inner kind f around = record { func = f; kind = kind; name = option_map (λ (n : Named). n.text) (function_name f); around = around } ∷ []

abbrev pub nameless_inner : FuncKind → Function → List ℕ → List Inner
nameless_inner kind f around = record { func = f; kind = kind; name = None; around = around } ∷ []

-- the scopes around what is in a scope of these declarations, which has the number `next`
abbrev pub enclosed : List Declaration → ℕ → List ℕ → List ℕ
enclosed [] next around = around
enclosed (d ∷ ds) next around = next ∷ around

abbrev mutual
  pub inner_expr : Expr → List ℕ → List Inner
  inner_expr (This at) around = []
  inner_expr (Name name) around = []
  inner_expr (Null at) around = []
  inner_expr (True at) around = []
  inner_expr (False at) around = []
  inner_expr (Number at value) around = []
  inner_expr (Str at end text) around = []
  inner_expr (Template at first parts) around = inner_parts parts around
  inner_expr (Array at items comma) around = inner_items items around
  inner_expr (Object at props comma) around = inner_props props around
  inner_expr (Func at f) around = named_inner (expression_kind (function_form f)) f around
  inner_expr (Paren at inner) around = inner_expr inner around
  inner_expr (Chain head tails) around = inner_expr head around ++ inner_tails tails around
  inner_expr (New at callee args) around = inner_expr callee around ++ inner_args args around
  inner_expr (Unary at op operand is_word) around = inner_expr operand around
  inner_expr (Update at op prefix operand) around = inner_expr operand around
  inner_expr (Binary first rest) around = inner_expr first around ++ inner_operands rest around
  inner_expr (Cond test then_value else_value) around = inner_expr test around ++ inner_expr then_value around ++ inner_expr else_value around
  inner_expr (Assign op target value) around = inner_expr target around ++ inner_expr value around
  inner_expr (Comma items) around = inner_exprs items around

  pub inner_exprs : Exprs → List ℕ → List Inner
  inner_exprs no_exprs around = []
  inner_exprs (more_exprs e rest) around = inner_expr e around ++ inner_exprs rest around

  pub inner_maybe : MaybeExpr → List ℕ → List Inner
  inner_maybe no_expr around = []
  inner_maybe (some_expr e) around = inner_expr e around

  pub inner_args : MaybeArgs → List ℕ → List Inner
  inner_args no_args around = []
  inner_args (some_args items comma) around = inner_exprs items around

  pub inner_parts : Parts → List ℕ → List Inner
  inner_parts no_parts around = []
  inner_parts (more_parts value behind rest) around = inner_expr value around ++ inner_parts rest around

  pub inner_items : Items → List ℕ → List Inner
  inner_items no_items around = []
  inner_items (more_items item rest) around = inner_maybe item around ++ inner_items rest around

  pub inner_operands : Operands → List ℕ → List Inner
  inner_operands no_operands around = []
  inner_operands (more_operands op is_word value rest) around = inner_expr value around ++ inner_operands rest around

  pub inner_tails : Tails → List ℕ → List Inner
  inner_tails no_tails around = []
  inner_tails (more_tails t rest) around = inner_tail t around ++ inner_tails rest around

  pub inner_tail : Tail → List ℕ → List Inner
  inner_tail (Dot text) around = []
  inner_tail (Index e) around = inner_expr e around
  inner_tail (Call items comma) around = inner_exprs items around

  pub inner_key : Key → List ℕ → List Inner
  inner_key (WordKey name) around = []
  inner_key (StrKey name) around = []
  inner_key (NumberKey at value) around = []
  inner_key (ComputedKey e) around = inner_expr e around

  pub inner_prop : Prop → List ℕ → List Inner
  inner_prop (Short name) around = []
  inner_prop (Pair key value) around = inner_key key around ++ inner_expr value around
  inner_prop (Method key f) around = inner_key key around ++ nameless_inner func.Method f around
  inner_prop (Get key f) around = inner_key key around ++ nameless_inner func.Getter f around
  inner_prop (Set key f) around = inner_key key around ++ nameless_inner func.Setter f around

  pub inner_props : Props → List ℕ → List Inner
  inner_props no_props around = []
  inner_props (more_props p rest) around = inner_prop p around ++ inner_props rest around

abbrev pub inner_binds : Binds → List ℕ → List Inner
inner_binds no_binds around = []
inner_binds (more_binds name value rest) around = inner_maybe value around ++ inner_binds rest around

abbrev pub inner_init : Init → List ℕ → List Inner
inner_init NoInit around = []
inner_init (ValueInit e) around = inner_expr e around
inner_init (BindsInit kind binds) around = inner_binds binds around

abbrev pub inner_each : Each → List ℕ → List Inner
inner_each (TargetEach target) around = inner_expr target around
inner_each (BindEach kind name) around = []

-- in statements whose first scope has the number `next`
abbrev mutual
  pub inner_stmt : Stmt → ℕ → List ℕ → List Inner
  inner_stmt (Block items) next around = inner_stmts items (next + scope_count (lexical_names items)) (enclosed (lexical_names items) next around)
  inner_stmt Empty next around = []
  inner_stmt (Debugger semi) next around = []
  inner_stmt (Binding kind binds semi) next around = inner_binds binds around
  inner_stmt (Value value semi) next around = inner_expr value around
  inner_stmt (If test then_stmt else_stmt) next around =
      inner_expr test around ++ inner_stmt then_stmt next around ++ inner_else else_stmt (next + count_stmt then_stmt) around
  inner_stmt (Do body test semi) next around = inner_stmt body next around ++ inner_expr test around
  inner_stmt (While test body) next around = inner_expr test around ++ inner_stmt body next around
  inner_stmt (For init test update body) next around =
      inner_init init (enclosed (init_lexical_names init) next around) ++ inner_maybe test (enclosed (init_lexical_names init) next around)
      ++ inner_maybe update (enclosed (init_lexical_names init) next around)
      ++ inner_stmt body (next + scope_count (init_lexical_names init)) (enclosed (init_lexical_names init) next around)
  inner_stmt (ForIn each over body) next around =
      inner_each each (enclosed (each_lexical_names each) next around) ++ inner_expr over (enclosed (each_lexical_names each) next around)
      ++ inner_stmt body (next + scope_count (each_lexical_names each)) (enclosed (each_lexical_names each) next around)
  inner_stmt (Continue at label semi) next around = []
  inner_stmt (Break at label semi) next around = []
  inner_stmt (Return value semi) next around = inner_maybe value around
  inner_stmt (Throw value semi) next around = inner_expr value around
  inner_stmt (Switch of clauses) next around =
      inner_expr of around ++ inner_clauses clauses (next + scope_count (clauses_lexical_names clauses))
      (enclosed (clauses_lexical_names clauses) next around)
  inner_stmt (Label name body) next around = inner_stmt body next around
  inner_stmt (Try body param handler) next around =
      inner_stmts body (next + scope_count (lexical_names body)) (enclosed (lexical_names body) next around)
      ++ inner_stmts handler
      (next + (scope_count (lexical_names body) + count_stmts body) + scope_count (catch_names param) + scope_count (lexical_names handler))
      (enclosed (lexical_names handler) (next + (scope_count (lexical_names body) + count_stmts body) + scope_count (catch_names param))
      (enclosed (catch_names param) (next + (scope_count (lexical_names body) + count_stmts body)) around))
  inner_stmt (Declared f) next around = named_inner func.Declared f around

  pub inner_stmts : Stmts → ℕ → List ℕ → List Inner
  inner_stmts no_stmts next around = []
  inner_stmts (more_stmts s rest) next around = inner_stmt s next around ++ inner_stmts rest (next + count_stmt s) around

  pub inner_else : MaybeStmt → ℕ → List ℕ → List Inner
  inner_else no_stmt next around = []
  inner_else (some_stmt s) next around = inner_stmt s next around

  pub inner_clauses : Clauses → ℕ → List ℕ → List Inner
  inner_clauses no_clauses next around = []
  inner_clauses (more_clauses test items rest) next around =
      inner_maybe test around ++ inner_stmts items next around ++ inner_clauses rest (next + count_stmts items) around

-- in the initializers of parameters
abbrev pub inner_params : Params → List ℕ → List Inner
inner_params no_params around = []
inner_params (more_params name value rest more) around = inner_maybe value around ++ inner_params more around

abbrev pub inner_body : Bool → Body → ℕ → List ℕ → List Inner
inner_body initialized (ShortBody value) next around = inner_expr value around
inner_body initialized (BracedBody items) next around =
    inner_stmts items (next + scope_count (body_var_names initialized items) + scope_count (top_lexical_names items))
    (enclosed (top_lexical_names items) (next + scope_count (body_var_names initialized items))
    (enclosed (body_var_names initialized items) next around))

-- the scopes around a function's parameters: its own, and that of its name
abbrev pub params_around : FuncKind → Option Text → List ℕ
params_around kind name = scope_count (callee_names kind name) ∷ enclosed (callee_names kind name) 0 []

-- directly in a function of this kind and name
abbrev pub inner_function : FuncKind → Option Text → Function → List Inner
inner_function kind name (function form start end _ params comma bare body) =
    inner_params params (params_around kind name)
    ++ inner_body (has_initializer params) body (scope_count (callee_names kind name) + 1) (params_around kind name)

-- directly in a script
abbrev pub inner_script : Stmts → List Inner
inner_script items = inner_stmts items 1 (0 ∷ [])
