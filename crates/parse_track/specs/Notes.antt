-- The early errors of a tree that look at no region: those on targets of assignments, on `const` without an initializer, on
-- `delete` of a name, on `__proto__` twice in an object literal, on too many parameters or arguments, and on `use strict`
-- where a function has an initializer or a rest parameter. Each is its offset and the number of its rule.
use Rattle.std.specs.Prelude.{ℕ, ◌-◌, Bool, true, false, cond, codes, not, ◌||◌, ◌&&◌, nat_eq, bytes_eq, zero, suc, Option, None, Some}
use Rattle.std.specs.Prelude.{List, [], ◌∷◌, ◌++◌}
use Rattle.script_grammar.specs.declared.token.Decl.{Decl}
use Rattle.script_grammar.specs.declared.token.Decl.TheVariants as decl
use Rattle.script_grammar.specs.declared.token.word.TheConstants as word
use Rattle.script_grammar.specs.Tree as tree
use Rattle.script_grammar.specs.Tree.{Named, Expr, MaybeExpr, no_expr, some_expr, Exprs, no_exprs, more_exprs, MaybeArgs, no_args}
use Rattle.script_grammar.specs.Tree.{some_args, Parts, no_parts, more_parts, Items, no_items, more_items, Operands, no_operands}
use Rattle.script_grammar.specs.Tree.{more_operands, Tail, Tails, no_tails, more_tails, Key, Prop, Props, no_props, more_props, function}
use Rattle.script_grammar.specs.Tree.{Params, no_params, more_params, Body, BracedBody, ShortBody, Binds, no_binds, more_binds, Init}
use Rattle.script_grammar.specs.Tree.{NoInit, ValueInit, BindsInit, Each, TargetEach, BindEach, Clauses, no_clauses, more_clauses, Stmt}
use Rattle.script_grammar.specs.Tree.{Stmts, no_stmts, more_stmts, MaybeStmt, no_stmt, some_stmt}
use Rattle.parse_track.specs.declared.region.Early.{Early}
use Rattle.parse_track.specs.EarlyErrors.{sooner, first_error}
use Rattle.parse_track.specs.ClosedNames.{Bound, closed}
use Rattle.parse_track.specs.Tells.{Text, known_texts, has_initializer, tells_script}

abbrev pub error : ℕ → ℕ → List Early
error rule offset = record { offset = offset; rule = rule } ∷ []

abbrev pub error_if : Bool → ℕ → ℕ → List Early
error_if true rule offset = error rule offset
error_if false rule offset = []

-- the offset of an expression's first token, parentheses counted
abbrev pub start_of : Expr → ℕ
start_of (tree.This at) = at
start_of (tree.Name name) = name.at
start_of (tree.Null at) = at
start_of (tree.True at) = at
start_of (tree.False at) = at
start_of (tree.Number at value) = at
start_of (tree.Str at end text) = at
start_of (tree.Template at first parts) = at
start_of (tree.Array at items comma) = at
start_of (tree.Object at props comma) = at
start_of (tree.Func at f) = at
start_of (tree.Paren at value) = at
start_of (tree.Chain head tails) = start_of head
start_of (tree.New at callee args) = at
start_of (tree.Unary at op operand is_word) = at
start_of (tree.Update at op true operand) = at
start_of (tree.Update at op false operand) = start_of operand
start_of (tree.Binary first rest) = start_of first
start_of (tree.Cond test then_value else_value) = start_of test
start_of (tree.Assign op target value) = start_of target
start_of (tree.Comma no_exprs) = 0
start_of (tree.Comma (more_exprs e rest)) = start_of e

-- whether the last of these is a property
abbrev pub ends_in_property : Tails → Bool
ends_in_property no_tails = false
ends_in_property (more_tails (tree.Dot _) no_tails) = true
ends_in_property (more_tails (tree.Index _) no_tails) = true
ends_in_property (more_tails (tree.Call _ _) no_tails) = false
ends_in_property (more_tails _ (more_tails tail rest)) = ends_in_property (more_tails tail rest)

abbrev pub is_reserved : Text → Bool
is_reserved text = bytes_eq text (codes "eval") || bytes_eq text (codes "arguments")

-- AssignmentTargetType of ECMA-262, 13.15.1, 13.4.1 and 14.7.5.1, in strict code: parentheses looked through, a name that is
-- neither `eval` nor `arguments`, or a property access
abbrev pub is_target : Expr → Bool
is_target (tree.Name name) = not (is_reserved name.text)
is_target (tree.Paren at value) = is_target value
is_target (tree.Chain head tails) = ends_in_property tails
is_target _ = false

-- Rule 8.
abbrev pub target_error : Expr → List Early
target_error target = error_if (not (is_target target)) 8 (start_of target)

-- Rule 10: `delete` of a name, parentheses looked through. ECMA-262, 13.5.1.1.
abbrev pub is_name : Expr → Bool
is_name (tree.Name _) = true
is_name (tree.Paren at value) = is_name value
is_name _ = false

abbrev pub delete_error : ℕ → ℕ → Bool → Expr → List Early
delete_error at op is_word operand = error_if (is_word && (nat_eq op word.DELETE && is_name operand)) 10 at

-- Rule 7: `const` without an initializer, which the head of a for-in statement may have. ECMA-262, 14.3.1.1.
abbrev pub const_errors : Decl → Binds → List Early
const_errors decl.Const no_binds = []
const_errors decl.Const (more_binds name no_expr rest) = error 7 name.at ++ const_errors decl.Const rest
const_errors decl.Const (more_binds name (some_expr _) rest) = const_errors decl.Const rest
const_errors decl.Var binds = []
const_errors decl.Let binds = []

-- Rule 12: `__proto__: v`, by a word or a string, twice in one object literal; at each later key. ECMA-262, B.3.1.
abbrev pub proto_key : Key → Option ℕ
proto_key (tree.WordKey name) = cond (bytes_eq name.text (codes "__proto__")) (Some name.at) None
proto_key (tree.StrKey name) = cond (bytes_eq name.text (codes "__proto__")) (Some name.at) None
proto_key (tree.NumberKey _ _) = None
proto_key (tree.ComputedKey _) = None

abbrev pub proto_of : Prop → Option ℕ
proto_of (tree.Pair key value) = proto_key key
proto_of _ = None

abbrev pub proto_error : Bool → Option ℕ → List Early
proto_error true (Some at) = error 12 at
proto_error _ _ = []

abbrev pub is_proto : Option ℕ → Bool
is_proto None = false
is_proto (Some _) = true

abbrev pub later_protos : Bool → Props → List Early
later_protos seen no_props = []
later_protos seen (more_props prop rest) = proto_error seen (proto_of prop) ++ later_protos (seen || is_proto (proto_of prop)) rest

-- Rule 13: the 65,536th parameter or argument. This project's own limit.
abbrev pub limit : ℕ
limit = 65535

abbrev pub args_error : ℕ → Exprs → List Early
args_error left no_exprs = []
args_error zero (more_exprs e rest) = error 13 (start_of e)
args_error (suc left) (more_exprs e rest) = args_error left rest

abbrev pub params_error : ℕ → Params → List Early
params_error left no_params = []
params_error zero (more_params name value rest more) = error 13 name.at
params_error (suc left) (more_params name value rest more) = params_error left more

-- Rule 14: a directive `use strict` spelled without a backslash, in the body of a function with an initializer or a rest
-- parameter. Directives are the leading statements that are one string without parentheses. ECMA-262, 15.2.1, 11.2.1.
abbrev pub has_rest : Params → Bool
has_rest no_params = false
has_rest (more_params name value true more) = true
has_rest (more_params name value false more) = has_rest more

abbrev pub strict_errors : Stmts → List Early
strict_errors (more_stmts (tree.Value (tree.Str at end text) semi) rest) =
    error_if (bytes_eq text (codes "use strict") && nat_eq (end - at) 12) 14 at ++ strict_errors rest
strict_errors _ = []

abbrev pub body_errors : Bool → Body → List Early
body_errors true (BracedBody items) = strict_errors items
body_errors true (ShortBody value) = []
body_errors false body = []

abbrev mutual
  pub notes_expr : Expr → List Early
  notes_expr (tree.This at) = []
  notes_expr (tree.Name name) = []
  notes_expr (tree.Null at) = []
  notes_expr (tree.True at) = []
  notes_expr (tree.False at) = []
  notes_expr (tree.Number at value) = []
  notes_expr (tree.Str at end text) = []
  notes_expr (tree.Template at first parts) = notes_parts parts
  notes_expr (tree.Array at items comma) = notes_items items
  notes_expr (tree.Object at props comma) = later_protos false props ++ notes_props props
  notes_expr (tree.Func at f) = notes_function f
  notes_expr (tree.Paren at value) = notes_expr value
  notes_expr (tree.Chain head tails) = notes_expr head ++ notes_tails tails
  notes_expr (tree.New at callee args) = notes_expr callee ++ notes_args args
  notes_expr (tree.Unary at op operand is_word) = delete_error at op is_word operand ++ notes_expr operand
  notes_expr (tree.Update at op prefix operand) = target_error operand ++ notes_expr operand
  notes_expr (tree.Binary first rest) = notes_expr first ++ notes_operands rest
  notes_expr (tree.Cond test then_value else_value) = notes_expr test ++ (notes_expr then_value ++ notes_expr else_value)
  notes_expr (tree.Assign op target value) = target_error target ++ (notes_expr target ++ notes_expr value)
  notes_expr (tree.Comma items) = notes_exprs items

  pub notes_exprs : Exprs → List Early
  notes_exprs no_exprs = []
  notes_exprs (more_exprs e rest) = notes_expr e ++ notes_exprs rest

  pub notes_maybe : MaybeExpr → List Early
  notes_maybe no_expr = []
  notes_maybe (some_expr e) = notes_expr e

  pub notes_args : MaybeArgs → List Early
  notes_args no_args = []
  notes_args (some_args items comma) = args_error limit items ++ notes_exprs items

  pub notes_parts : Parts → List Early
  notes_parts no_parts = []
  notes_parts (more_parts value behind rest) = notes_expr value ++ notes_parts rest

  pub notes_items : Items → List Early
  notes_items no_items = []
  notes_items (more_items item rest) = notes_maybe item ++ notes_items rest

  pub notes_operands : Operands → List Early
  notes_operands no_operands = []
  notes_operands (more_operands op is_word value rest) = notes_expr value ++ notes_operands rest

  pub notes_tails : Tails → List Early
  notes_tails no_tails = []
  notes_tails (more_tails tail rest) = notes_tail tail ++ notes_tails rest

  pub notes_tail : Tail → List Early
  notes_tail (tree.Dot text) = []
  notes_tail (tree.Index e) = notes_expr e
  notes_tail (tree.Call items comma) = args_error limit items ++ notes_exprs items

  pub notes_key : Key → List Early
  notes_key (tree.WordKey name) = []
  notes_key (tree.StrKey name) = []
  notes_key (tree.NumberKey at value) = []
  notes_key (tree.ComputedKey e) = notes_expr e

  pub notes_prop : Prop → List Early
  notes_prop (tree.Short name) = []
  notes_prop (tree.Pair key value) = notes_key key ++ notes_expr value
  notes_prop (tree.Method key f) = notes_key key ++ notes_function f
  notes_prop (tree.Get key f) = notes_key key ++ notes_function f
  notes_prop (tree.Set key f) = notes_key key ++ notes_function f

  pub notes_props : Props → List Early
  notes_props no_props = []
  notes_props (more_props prop rest) = notes_prop prop ++ notes_props rest

  pub notes_function : tree.Function → List Early
  notes_function (function form start end name params comma bare body) =
      params_error limit params ++ (notes_params params ++ (body_errors (has_initializer params || has_rest params) body ++ notes_body body))

  pub notes_params : Params → List Early
  notes_params no_params = []
  notes_params (more_params name value rest more) = notes_maybe value ++ notes_params more

  pub notes_body : Body → List Early
  notes_body (BracedBody items) = notes_stmts items
  notes_body (ShortBody value) = notes_expr value

  pub notes_binds : Binds → List Early
  notes_binds no_binds = []
  notes_binds (more_binds name value rest) = notes_maybe value ++ notes_binds rest

  pub notes_init : Init → List Early
  notes_init NoInit = []
  notes_init (ValueInit e) = notes_expr e
  notes_init (BindsInit d binds) = const_errors d binds ++ notes_binds binds

  pub notes_each : Each → List Early
  notes_each (TargetEach e) = target_error e ++ notes_expr e
  notes_each (BindEach d name) = []

  pub notes_clauses : Clauses → List Early
  notes_clauses no_clauses = []
  notes_clauses (more_clauses test items rest) = notes_maybe test ++ (notes_stmts items ++ notes_clauses rest)

  pub notes_stmt : Stmt → List Early
  notes_stmt (tree.Block items) = notes_stmts items
  notes_stmt tree.Empty = []
  notes_stmt (tree.Debugger semi) = []
  notes_stmt (tree.Binding d binds semi) = const_errors d binds ++ notes_binds binds
  notes_stmt (tree.Value e semi) = notes_expr e
  notes_stmt (tree.If test then_stmt else_stmt) = notes_expr test ++ (notes_stmt then_stmt ++ notes_maybe_stmt else_stmt)
  notes_stmt (tree.Do body test semi) = notes_stmt body ++ notes_expr test
  notes_stmt (tree.While test body) = notes_expr test ++ notes_stmt body
  notes_stmt (tree.For init test update body) = notes_init init ++ (notes_maybe test ++ (notes_maybe update ++ notes_stmt body))
  notes_stmt (tree.ForIn each over body) = notes_each each ++ (notes_expr over ++ notes_stmt body)
  notes_stmt (tree.Continue at label semi) = []
  notes_stmt (tree.Break at label semi) = []
  notes_stmt (tree.Return value semi) = notes_maybe value
  notes_stmt (tree.Throw e semi) = notes_expr e
  notes_stmt (tree.Switch e clauses) = notes_expr e ++ notes_clauses clauses
  notes_stmt (tree.Label name body) = notes_stmt body
  notes_stmt (tree.Try body param handler) = notes_stmts body ++ notes_stmts handler
  notes_stmt (tree.Declared f) = notes_function f

  pub notes_stmts : Stmts → List Early
  notes_stmts no_stmts = []
  notes_stmts (more_stmts s rest) = notes_stmt s ++ notes_stmts rest

  pub notes_maybe_stmt : MaybeStmt → List Early
  notes_maybe_stmt no_stmt = []
  notes_maybe_stmt (some_stmt s) = notes_stmt s

-- the first of some early errors
abbrev pub first_note : List Early → Option Early
first_note [] = None
first_note (e ∷ es) = sooner (Some e) (first_note es)

-- The first early error of a script: the one of smallest offset, then of smallest rule.
abbrev pub early_error : Stmts → Option Early
early_error items = first_error bytes_eq known_texts (first_note (notes_stmts items)) (tells_script items)

-- the names of a script that inner functions close over, in the order of the source
abbrev pub closed_names : Stmts → List (Bound Text)
closed_names items = closed bytes_eq known_texts (tells_script items)
