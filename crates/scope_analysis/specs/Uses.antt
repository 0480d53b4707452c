-- The names that parts of a tree use and do not bind: a use is an IdentifierReference (ECMA-262, 12th edition, clause
-- 13.1), a shorthand property among them, and `this`, as a use of the name `.this`. Property names and labels are no uses.
use Rattle.std.specs.Prelude.{Bool, true, false, codes, if◌then◌else◌, List, [], ◌∷◌, ◌++◌}
use Rattle.script_grammar.specs.declared.token.FuncForm.{FuncForm}
use Rattle.script_grammar.specs.Kinds.{is_arrow_form}
use Rattle.script_grammar.specs.Tree.{Expr, This, Name, Null, True, False, Number, Str, Template, Array, Object, Func, Paren, Chain, New}
use Rattle.script_grammar.specs.Tree.{Unary, Update, Binary, Cond, Assign, Comma, Exprs, no_exprs, more_exprs, MaybeExpr, no_expr}
use Rattle.script_grammar.specs.Tree.{some_expr, MaybeArgs, no_args, some_args, Parts, no_parts, more_parts, Items, no_items, more_items}
use Rattle.script_grammar.specs.Tree.{Operands, no_operands, more_operands, Tail, Dot, Index, Call, Tails, no_tails, more_tails, Key}
use Rattle.script_grammar.specs.Tree.{WordKey, StrKey, NumberKey, ComputedKey, Prop, Short, Pair, Method, Get, Set, Props, no_props}
use Rattle.script_grammar.specs.Tree.{more_props, Function, function, Params, no_params, more_params, Body, BracedBody, ShortBody, Binds}
use Rattle.script_grammar.specs.Tree.{no_binds, more_binds, Init, NoInit, ValueInit, BindsInit, Each, TargetEach, BindEach, Clauses}
use Rattle.script_grammar.specs.Tree.{no_clauses, more_clauses, Stmt, Stmts, no_stmts, more_stmts, MaybeStmt, no_stmt, some_stmt, Block}
use Rattle.script_grammar.specs.Tree.{Empty, Debugger, Binding, Value, If, Do, While, For, ForIn, Continue, Break, Return, Throw, Switch}
use Rattle.script_grammar.specs.Tree.{Label, Try, Declared}
use Rattle.scope_analysis.specs.DeclaredNames.{Text, texts_without, texts_of, name_list, function_name, lexical_names}
use Rattle.scope_analysis.specs.DeclaredNames.{clauses_lexical_names, top_lexical_names, init_lexical_names, each_lexical_names}
use Rattle.scope_analysis.specs.DeclaredNames.{top_var_names, param_names, has_initializer}

-- the names used by a part itself, and those that functions in it use and do not bind
pub record Uses : Type 0 where
  pub own : List Text
  pub inner : List Text

abbrev pub no_uses : Uses
no_uses = record { own = []; inner = [] }

abbrev pub use_of : Text → Uses
use_of text = record { own = text ∷ []; inner = [] }

abbrev pub uses_both : Uses → Uses → Uses
uses_both a b = record { own = a.own ++ b.own; inner = a.inner ++ b.inner }

-- what is left where these names are bound around
abbrev pub uses_without : List Text → Uses → Uses
uses_without bound u = record { own = texts_without bound u.own; inner = texts_without bound u.inner }

-- a function uses these names and does not bind them
abbrev pub uses_inside : Uses → Uses
uses_inside u = record { own = []; inner = u.own ++ u.inner }

-- the names under which functions find `this` and their arguments
abbrev pub this_text : Text
this_text = codes ".this"

abbrev pub arguments_text : Text
arguments_text = codes "arguments"

-- a function that is no arrow binds `arguments` and `this`
abbrev pub bound_by_form : FuncForm → List Text
bound_by_form form = if is_arrow_form form then [] else arguments_text ∷ this_text ∷ []

-- the body's uses that the body's own names do not bind: where a parameter has an initializer, the var names are the
-- body's own, else they stand beside the parameters
abbrev pub body_vars : Bool → Stmts → List Text
body_vars initialized items = if initialized then top_var_names items else []

abbrev pub beside_params : Bool → Body → List Text
beside_params true body = []
beside_params false (BracedBody items) = top_var_names items
beside_params false (ShortBody value) = []

abbrev mutual
  pub uses_expr : Expr → Uses
  uses_expr (This at) = use_of this_text
  uses_expr (Name name) = use_of name.text
  uses_expr (Null at) = no_uses
  uses_expr (True at) = no_uses
  uses_expr (False at) = no_uses
  uses_expr (Number at value) = no_uses
  uses_expr (Str at end text) = no_uses
  uses_expr (Template at first parts) = uses_parts parts
  uses_expr (Array at items comma) = uses_items items
  uses_expr (Object at props comma) = uses_props props
  -- a function expression binds its own name around it
  uses_expr (Func at f) = uses_without (name_list (function_name f)) (uses_function f)
  uses_expr (Paren at inner) = uses_expr inner
  uses_expr (Chain head tails) = uses_both (uses_expr head) (uses_tails tails)
  uses_expr (New at callee args) = uses_both (uses_expr callee) (uses_args args)
  uses_expr (Unary at op operand is_word) = uses_expr operand
  uses_expr (Update at op prefix operand) = uses_expr operand
  uses_expr (Binary first rest) = uses_both (uses_expr first) (uses_operands rest)
  uses_expr (Cond test then_value else_value) = uses_both (uses_expr test) (uses_both (uses_expr then_value) (uses_expr else_value))
  uses_expr (Assign op target value) = uses_both (uses_expr target) (uses_expr value)
  uses_expr (Comma items) = uses_exprs items

  pub uses_exprs : Exprs → Uses
  uses_exprs no_exprs = no_uses
  uses_exprs (more_exprs e rest) = uses_both (uses_expr e) (uses_exprs rest)

  pub uses_maybe : MaybeExpr → Uses
  uses_maybe no_expr = no_uses
  uses_maybe (some_expr e) = uses_expr e

  pub uses_args : MaybeArgs → Uses
  uses_args no_args = no_uses
  uses_args (some_args items comma) = uses_exprs items

  pub uses_parts : Parts → Uses
  uses_parts no_parts = no_uses
  uses_parts (more_parts value behind rest) = uses_both (uses_expr value) (uses_parts rest)

  pub uses_items : Items → Uses
  uses_items no_items = no_uses
  uses_items (more_items item rest) = uses_both (uses_maybe item) (uses_items rest)

  pub uses_operands : Operands → Uses
  uses_operands no_operands = no_uses
  uses_operands (more_operands op is_word value rest) = uses_both (uses_expr value) (uses_operands rest)

  pub uses_tails : Tails → Uses
  uses_tails no_tails = no_uses
  uses_tails (more_tails t rest) = uses_both (uses_tail t) (uses_tails rest)

  pub uses_tail : Tail → Uses
  uses_tail (Dot text) = no_uses
  uses_tail (Index e) = uses_expr e
  uses_tail (Call items comma) = uses_exprs items

  pub uses_key : Key → Uses
  uses_key (WordKey name) = no_uses
  uses_key (StrKey name) = no_uses
  uses_key (NumberKey at value) = no_uses
  uses_key (ComputedKey e) = uses_expr e

  pub uses_prop : Prop → Uses
  uses_prop (Short name) = use_of name.text
  uses_prop (Pair key value) = uses_both (uses_key key) (uses_expr value)
  uses_prop (Method key f) = uses_both (uses_key key) (uses_function f)
  uses_prop (Get key f) = uses_both (uses_key key) (uses_function f)
  uses_prop (Set key f) = uses_both (uses_key key) (uses_function f)

  pub uses_props : Props → Uses
  uses_props no_props = no_uses
  uses_props (more_props p rest) = uses_both (uses_prop p) (uses_props rest)

  -- what a function uses and does not bind
  pub uses_function : Function → Uses
  uses_function (function form start end name params comma bare body) =
      uses_inside (uses_without (param_names params ++ beside_params (has_initializer params) body ++ bound_by_form form)
      (uses_both (uses_params params) (uses_body (has_initializer params) body)))

  -- the initializers of parameters
  pub uses_params : Params → Uses
  uses_params no_params = no_uses
  uses_params (more_params name value rest more) = uses_both (uses_maybe value) (uses_params more)

  pub uses_body : Bool → Body → Uses
  uses_body initialized (BracedBody items) = uses_without (texts_of (top_lexical_names items) ++ body_vars initialized items) (uses_stmts items)
  uses_body initialized (ShortBody value) = uses_expr value

  -- the initializers of bindings
  pub uses_binds : Binds → Uses
  uses_binds no_binds = no_uses
  uses_binds (more_binds name value rest) = uses_both (uses_maybe value) (uses_binds rest)

  pub uses_init : Init → Uses
  uses_init NoInit = no_uses
  uses_init (ValueInit e) = uses_expr e
  uses_init (BindsInit kind binds) = uses_binds binds

  pub uses_each : Each → Uses
  uses_each (TargetEach target) = uses_expr target
  uses_each (BindEach kind name) = no_uses

  -- the tests and items of a switch's clauses, under the switch's own scope
  pub uses_clauses : Clauses → Uses
  uses_clauses no_clauses = no_uses
  uses_clauses (more_clauses test items rest) = uses_both (uses_maybe test) (uses_both (uses_stmts items) (uses_clauses rest))

  pub uses_stmt : Stmt → Uses
  -- a block binds its lexical names
  uses_stmt (Block items) = uses_without (texts_of (lexical_names items)) (uses_stmts items)
  uses_stmt Empty = no_uses
  uses_stmt (Debugger semi) = no_uses
  uses_stmt (Binding kind binds semi) = uses_binds binds
  uses_stmt (Value value semi) = uses_expr value
  uses_stmt (If test then_stmt else_stmt) = uses_both (uses_expr test) (uses_both (uses_stmt then_stmt) (uses_else else_stmt))
  uses_stmt (Do body test semi) = uses_both (uses_stmt body) (uses_expr test)
  uses_stmt (While test body) = uses_both (uses_expr test) (uses_stmt body)
  uses_stmt (For init test update body) =
      uses_without (texts_of (init_lexical_names init))
      (uses_both (uses_init init) (uses_both (uses_maybe test) (uses_both (uses_maybe update) (uses_stmt body))))
  uses_stmt (ForIn each over body) =
      uses_without (texts_of (each_lexical_names each)) (uses_both (uses_each each) (uses_both (uses_expr over) (uses_stmt body)))
  uses_stmt (Continue at label semi) = no_uses
  uses_stmt (Break at label semi) = no_uses
  uses_stmt (Return value semi) = uses_maybe value
  uses_stmt (Throw value semi) = uses_expr value
  uses_stmt (Switch of clauses) = uses_both (uses_expr of) (uses_without (texts_of (clauses_lexical_names clauses)) (uses_clauses clauses))
  uses_stmt (Label name body) = uses_stmt body
  uses_stmt (Try body param handler) =
      uses_both (uses_without (texts_of (lexical_names body)) (uses_stmts body))
      (uses_without (name_list param) (uses_without (texts_of (lexical_names handler)) (uses_stmts handler)))
  uses_stmt (Declared f) = uses_function f

  pub uses_stmts : Stmts → Uses
  uses_stmts no_stmts = no_uses
  uses_stmts (more_stmts s rest) = uses_both (uses_stmt s) (uses_stmts rest)

  pub uses_else : MaybeStmt → Uses
  uses_else no_stmt = no_uses
  uses_else (some_stmt s) = uses_stmt s
