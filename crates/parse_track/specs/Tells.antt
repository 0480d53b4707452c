-- What a tree tells: its regions, in the order of the source, with the names that are declared, used and jumped to in them.
-- Each function puts what its part tells in front of what is told after it.
use Rattle.std.specs.Prelude.{ℕ, Bool, true, false, cond, codes, Option, None, Some, List}
use Rattle.script_grammar.specs.declared.token.FuncForm.{FuncForm}
use Rattle.script_grammar.specs.declared.token.Decl.{Decl}
use Rattle.script_grammar.specs.declared.token.Decl.TheVariants as decl
use Rattle.script_grammar.specs.Kinds.{is_arrow_form}
use Rattle.script_grammar.specs.Tree as tree
use Rattle.script_grammar.specs.Tree.{Named, Expr, MaybeExpr, no_expr, some_expr, Exprs, no_exprs, more_exprs, MaybeArgs, no_args}
use Rattle.script_grammar.specs.Tree.{some_args, Parts, no_parts, more_parts, Items, no_items, more_items, Operands, no_operands}
use Rattle.script_grammar.specs.Tree.{more_operands, Tail, Tails, no_tails, more_tails, Key, Prop, Props, no_props, more_props, function}
use Rattle.script_grammar.specs.Tree.{Params, no_params, more_params, Body, BracedBody, ShortBody, Binds, no_binds, more_binds, Init}
use Rattle.script_grammar.specs.Tree.{NoInit, ValueInit, BindsInit, Each, TargetEach, BindEach, Clauses, no_clauses, more_clauses, Stmt}
use Rattle.script_grammar.specs.Tree.{Stmts, no_stmts, more_stmts, MaybeStmt, no_stmt, some_stmt}
use Rattle.parse_track.specs.declared.region.Declare.{Declare}
use Rattle.parse_track.specs.declared.region.Declare.TheVariants as how
use Rattle.parse_track.specs.declared.region.Jump.{Jump}
use Rattle.parse_track.specs.declared.region.Jump.TheVariants as word
use Rattle.parse_track.specs.Told as told
use Rattle.parse_track.specs.Told.{Name, Region, Told, nothing, leaf, inner, KnownNames}

abbrev pub Text : Type 0
Text = List ℕ

-- the names that are known by their spelling; a use of `this` goes by the name `.this`
abbrev pub known_texts : KnownNames Text
known_texts = record { eval = codes "eval"; arguments = codes "arguments"; this = codes ".this" }

abbrev pub spelled : Named → Name Text
spelled name = record { name = name.text; at = name.at }

abbrev pub spelled_label : Option Named → Option (Name Text)
spelled_label None = None
spelled_label (Some name) = Some (spelled name)

abbrev pub tells_use : Text → Told Text → Told Text
tells_use text t = leaf (told.Used text) t

abbrev pub tells_name : Declare → Named → Told Text → Told Text
tells_name how name t = leaf (told.Declared how (spelled name)) t

abbrev pub tells_jump : Jump → ℕ → Option Named → Told Text → Told Text
tells_jump jump at label t = leaf (told.Jumped jump at (spelled_label label)) t

-- A tree has no offset for the regions that are no functions; none of what follows from them looks at it.
abbrev pub tells_region : Region Text → Told Text → Told Text → Told Text
tells_region kind inside t = inner kind 0 inside t

abbrev pub declared_as : Decl → Declare
declared_as decl.Var = how.Var
declared_as decl.Let = how.Lexical
declared_as decl.Const = how.Lexical

-- A function declaration at the top of a script or of a function's body declares a var name, any other a lexical one:
-- TopLevelVarDeclaredNames and LexicallyDeclaredNames of ECMA-262, 8.1.
abbrev pub function_declares : Bool → Declare
function_declares true = how.Var
function_declares false = how.Lexical

abbrev pub function_region : FuncForm → Region Text
function_region form = cond (is_arrow_form form) told.Arrow told.Function

-- a function whose parameters have an initializer has a body that is a region of its own
abbrev pub has_initializer : Params → Bool
has_initializer no_params = false
has_initializer (more_params name no_expr rest more) = has_initializer more
has_initializer (more_params name (some_expr _) rest more) = true

abbrev pub body_region : Bool → Told Text → Told Text
body_region true inside = tells_region told.VarBody inside nothing
body_region false inside = inside

abbrev pub function_name : tree.Function → Option Named
function_name (function _ _ _ name _ _ _ _) = name

-- what a function expression tells, in the region of its name where it has one
abbrev pub in_named : Option Named → (Told Text → Told Text) → Told Text → Told Text
in_named None tell t = tell t
in_named (Some name) tell t = tells_region (told.Lambda (spelled name)) (tell nothing) t

-- a function declaration declares its name
abbrev pub declares_function : Bool → Option Named → Told Text → Told Text
declares_function top None t = t
declares_function top (Some name) t = tells_name (function_declares top) name t

-- After a label a statement that is neither a loop nor a label stands in a block region, so that the label does not
-- seem to label a loop inside it.
abbrev pub labels_on : Stmt → Bool
labels_on (tree.Do _ _ _) = true
labels_on (tree.While _ _) = true
labels_on (tree.For _ _ _ _) = true
labels_on (tree.ForIn _ _ _) = true
labels_on (tree.Label _ _) = true
labels_on _ = false

abbrev pub labelled_region : Bool → Told Text → Told Text
labelled_region true inside = inside
labelled_region false inside = tells_region told.Block inside nothing

abbrev mutual
  pub tells_expr : Expr → Told Text → Told Text
  tells_expr (tree.This at) t = tells_use (codes ".this") t
  tells_expr (tree.Name name) t = tells_use name.text t
  tells_expr (tree.Null at) t = t
  tells_expr (tree.True at) t = t
  tells_expr (tree.False at) t = t
  tells_expr (tree.Number at value) t = t
  tells_expr (tree.Str at end text) t = t
  tells_expr (tree.Template at first parts) t = tells_parts parts t
  tells_expr (tree.Array at items comma) t = tells_array items t
  tells_expr (tree.Object at props comma) t = tells_props props t
  tells_expr (tree.Func at f) t = in_named (function_name f) (tells_function f) t
  tells_expr (tree.Paren at value) t = tells_expr value t
  tells_expr (tree.Chain head tails) t = tells_expr head (tells_tails tails t)
  tells_expr (tree.New at callee args) t = tells_expr callee (tells_args args t)
  tells_expr (tree.Unary at op operand is_word) t = tells_expr operand t
  tells_expr (tree.Update at op prefix operand) t = tells_expr operand t
  tells_expr (tree.Binary first rest) t = tells_expr first (tells_operands rest t)
  tells_expr (tree.Cond test then_value else_value) t = tells_expr test (tells_expr then_value (tells_expr else_value t))
  tells_expr (tree.Assign op target value) t = tells_expr target (tells_expr value t)
  tells_expr (tree.Comma items) t = tells_exprs items t

  pub tells_exprs : Exprs → Told Text → Told Text
  tells_exprs no_exprs t = t
  tells_exprs (more_exprs e rest) t = tells_expr e (tells_exprs rest t)

  pub tells_maybe : MaybeExpr → Told Text → Told Text
  tells_maybe no_expr t = t
  tells_maybe (some_expr e) t = tells_expr e t

  pub tells_args : MaybeArgs → Told Text → Told Text
  tells_args no_args t = t
  tells_args (some_args items comma) t = tells_exprs items t

  pub tells_parts : Parts → Told Text → Told Text
  tells_parts no_parts t = t
  tells_parts (more_parts value behind rest) t = tells_expr value (tells_parts rest t)

  pub tells_array : Items → Told Text → Told Text
  tells_array no_items t = t
  tells_array (more_items item rest) t = tells_maybe item (tells_array rest t)

  pub tells_operands : Operands → Told Text → Told Text
  tells_operands no_operands t = t
  tells_operands (more_operands op is_word value rest) t = tells_expr value (tells_operands rest t)

  pub tells_tails : Tails → Told Text → Told Text
  tells_tails no_tails t = t
  tells_tails (more_tails tail rest) t = tells_tail tail (tells_tails rest t)

  pub tells_tail : Tail → Told Text → Told Text
  tells_tail (tree.Dot text) t = t
  tells_tail (tree.Index e) t = tells_expr e t
  tells_tail (tree.Call items comma) t = tells_exprs items t

  pub tells_key : Key → Told Text → Told Text
  tells_key (tree.WordKey name) t = t
  tells_key (tree.StrKey name) t = t
  tells_key (tree.NumberKey at value) t = t
  tells_key (tree.ComputedKey e) t = tells_expr e t

  pub tells_prop : Prop → Told Text → Told Text
  tells_prop (tree.Short name) t = tells_use name.text t
  tells_prop (tree.Pair key value) t = tells_key key (tells_expr value t)
  tells_prop (tree.Method key f) t = tells_key key (tells_function f t)
  tells_prop (tree.Get key f) t = tells_key key (tells_function f t)
  tells_prop (tree.Set key f) t = tells_key key (tells_function f t)

  pub tells_props : Props → Told Text → Told Text
  tells_props no_props t = t
  tells_props (more_props prop rest) t = tells_prop prop (tells_props rest t)

  -- a function, from where its parameters start
  pub tells_function : tree.Function → Told Text → Told Text
  tells_function (function form start end name params comma bare body) t =
      inner (function_region form) start (tells_params params (body_region (has_initializer params) (tells_body body))) t

  pub tells_params : Params → Told Text → Told Text
  tells_params no_params t = t
  tells_params (more_params name value rest more) t = tells_name how.Param name (tells_maybe value (tells_params more t))

  pub tells_body : Body → Told Text
  tells_body (BracedBody items) = tells_stmts true items nothing
  tells_body (ShortBody value) = tells_expr value nothing

  pub tells_binds : Decl → Binds → Told Text → Told Text
  tells_binds d no_binds t = t
  tells_binds d (more_binds name value rest) t = tells_name (declared_as d) name (tells_maybe value (tells_binds d rest t))

  pub tells_init : Init → Told Text → Told Text
  tells_init NoInit t = t
  tells_init (ValueInit e) t = tells_expr e t
  tells_init (BindsInit d binds) t = tells_binds d binds t

  pub tells_each : Each → Told Text → Told Text
  tells_each (TargetEach e) t = tells_expr e t
  tells_each (BindEach d name) t = tells_name (declared_as d) name t

  pub tells_clauses : Clauses → Told Text → Told Text
  tells_clauses no_clauses t = t
  tells_clauses (more_clauses test items rest) t = tells_maybe test (tells_stmts false items (tells_clauses rest t))

  -- a statement; the test says whether it stands at the top of a script or of a function's body
  pub tells_stmt : Bool → Stmt → Told Text → Told Text
  tells_stmt top (tree.Block items) t = tells_region told.Block (tells_stmts false items nothing) t
  tells_stmt top tree.Empty t = t
  tells_stmt top (tree.Debugger semi) t = t
  tells_stmt top (tree.Binding d binds semi) t = tells_binds d binds t
  tells_stmt top (tree.Value e semi) t = tells_expr e t
  tells_stmt top (tree.If test then_stmt else_stmt) t = tells_expr test (tells_stmt false then_stmt (tells_maybe_stmt else_stmt t))
  tells_stmt top (tree.Do body test semi) t = tells_region told.Loop (tells_stmt false body (tells_expr test nothing)) t
  tells_stmt top (tree.While test body) t = tells_region told.Loop (tells_expr test (tells_stmt false body nothing)) t
  tells_stmt top (tree.For init test update body) t =
      tells_region told.Loop (tells_region told.ForHead
      (tells_init init (tells_maybe test (tells_maybe update (tells_stmt false body nothing)))) nothing) t
  tells_stmt top (tree.ForIn each over body) t =
      tells_region told.Loop (tells_region told.ForHead (tells_each each (tells_expr over (tells_stmt false body nothing))) nothing) t
  tells_stmt top (tree.Continue at label semi) t = tells_jump word.Continue at label t
  tells_stmt top (tree.Break at label semi) t = tells_jump word.Break at label t
  tells_stmt top (tree.Return value semi) t = tells_maybe value t
  tells_stmt top (tree.Throw e semi) t = tells_expr e t
  tells_stmt top (tree.Switch e clauses) t = tells_expr e (tells_region told.Switch (tells_clauses clauses nothing) t)
  tells_stmt top (tree.Label name body) t =
      tells_region (told.Label (spelled name)) (labelled_region (labels_on body) (tells_stmt false body nothing)) t
  tells_stmt top (tree.Try body None handler) t =
      tells_region told.Block (tells_stmts false body nothing) (tells_region told.Block (tells_stmts false handler nothing) t)
  -- a parameter of a catch clause is in a region around its block
  tells_stmt top (tree.Try body (Some name) handler) t =
      tells_region told.Block (tells_stmts false body nothing)
      (tells_region told.Catch (tells_name how.Catch name (tells_region told.Block (tells_stmts false handler nothing) nothing)) t)
  tells_stmt top (tree.Declared f) t = declares_function top (function_name f) (tells_function f t)

  pub tells_stmts : Bool → Stmts → Told Text → Told Text
  tells_stmts top no_stmts t = t
  tells_stmts top (more_stmts s rest) t = tells_stmt top s (tells_stmts top rest t)

  pub tells_maybe_stmt : MaybeStmt → Told Text → Told Text
  tells_maybe_stmt no_stmt t = t
  tells_maybe_stmt (some_stmt s) t = tells_stmt false s t

-- what a script tells
abbrev pub tells_script : Stmts → Told Text
tells_script items = inner told.Script 0 (tells_stmts true items nothing) nothing
