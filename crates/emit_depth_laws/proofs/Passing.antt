-- What an expression tells has no wrong jump of the statement around it.
use Rattle.std.proofs.Common.{◌≡◌, ℕ, [], ◌++◌, bytes_eq, Option, Some, None}
use Rattle.script_grammar.specs.declared.token.Decl.{Decl}
use Rattle.script_grammar.specs.Tree.{Named, Expr, This, Name, Null, True, False, Number, Str, Template, Array, Object, Func, Paren, Chain, New, Unary, Update, Binary, Cond, Assign, Comma, Exprs, no_exprs, more_exprs, MaybeExpr, no_expr, some_expr, MaybeArgs, no_args, some_args, Parts, no_parts, more_parts, Items, no_items, more_items, Operands, no_operands, more_operands, Tail, Dot, Index, Call, Tails, no_tails, more_tails, Key, WordKey, StrKey, NumberKey, ComputedKey, Prop, Short, Pair, Method, Get, Set, Props, no_props, more_props, Function, function, Params, no_params, more_params, Binds, no_binds, more_binds, Init, NoInit, ValueInit, BindsInit, Each, TargetEach, BindEach}
use Rattle.parse_track.specs.EarlyErrors.{JumpContext, within, wrong_label, wrong_jumps}
use Rattle.parse_track.specs.Told.{Region, Lambda, Told, nothing, inner}
use Rattle.parse_track.specs.Tells.{Text, tells_expr, tells_exprs, tells_maybe, tells_args, tells_parts, tells_array, tells_operands, tells_tails, tells_tail, tells_key, tells_prop, tells_props, tells_function, tells_params, tells_binds, tells_init, tells_each, in_named, function_name, function_region, body_region, has_initializer, tells_body, spelled}
use Rattle.emit_depth_laws.proofs.Assigns.{nil_left, nil_right}

-- no jump is wrong
abbrev pub IsClean : JumpContext Text → Told Text → Type 0
IsClean a t = wrong_jumps bytes_eq a t ≡ []

-- in a region, and after it
pub clean_inside : (a : JumpContext Text) (k : Region Text) (at : ℕ) (i t : Told Text) → IsClean a (inner k at i t) → IsClean (within k i a) i
clean_inside a k at i t h = nil_left (wrong_jumps bytes_eq (within k i a) i) (wrong_jumps bytes_eq a t) (nil_right (wrong_label bytes_eq a k) (wrong_jumps bytes_eq (within k i a) i ++ wrong_jumps bytes_eq a t) h)

pub clean_behind : (a : JumpContext Text) (k : Region Text) (at : ℕ) (i t : Told Text) → IsClean a (inner k at i t) → IsClean a t
clean_behind a k at i t h = nil_right (wrong_jumps bytes_eq (within k i a) i) (wrong_jumps bytes_eq a t) (nil_right (wrong_label bytes_eq a k) (wrong_jumps bytes_eq (within k i a) i ++ wrong_jumps bytes_eq a t) h)

pub function_passes : (a : JumpContext Text) (f : Function) (t : Told Text) → IsClean a (tells_function f t) → IsClean a t
function_passes a (function form start end name ps comma bare body) t h = clean_behind a (function_region form) start (tells_params ps (body_region (has_initializer ps) (tells_body body))) t h

named_passes : (a : JumpContext Text) (f : Function) (name : Option Named) (t : Told Text) → IsClean a (in_named name (tells_function f) t) → IsClean a t
named_passes a f None t h = function_passes a f t h
named_passes a f (Some name) t h = clean_behind a (Lambda (spelled name)) 0 (tells_function f nothing) t h

mutual
  pub expr_passes : (a : JumpContext Text) (e : Expr) (t : Told Text) → IsClean a (tells_expr e t) → IsClean a t
  expr_passes a (This at) t h = h
  expr_passes a (Name name) t h = h
  expr_passes a (Null at) t h = h
  expr_passes a (True at) t h = h
  expr_passes a (False at) t h = h
  expr_passes a (Number at value) t h = h
  expr_passes a (Str at end text) t h = h
  expr_passes a (Template at first parts) t h = parts_pass a parts t h
  expr_passes a (Array at items comma) t h = items_pass a items t h
  expr_passes a (Object at props comma) t h = props_pass a props t h
  expr_passes a (Func at f) t h = named_passes a f (function_name f) t h
  expr_passes a (Paren at value) t h = expr_passes a value t h
  expr_passes a (Chain head tails) t h = tails_pass a tails t (expr_passes a head (tells_tails tails t) h)
  expr_passes a (New at callee args) t h = args_pass a args t (expr_passes a callee (tells_args args t) h)
  expr_passes a (Unary at sign operand is_word) t h = expr_passes a operand t h
  expr_passes a (Update at sign prefix operand) t h = expr_passes a operand t h
  expr_passes a (Binary first rest) t h = operands_pass a rest t (expr_passes a first (tells_operands rest t) h)
  expr_passes a (Cond test then_value else_value) t h = expr_passes a else_value t (expr_passes a then_value (tells_expr else_value t) (expr_passes a test (tells_expr then_value (tells_expr else_value t)) h))
  expr_passes a (Assign sign target value) t h = expr_passes a value t (expr_passes a target (tells_expr value t) h)
  expr_passes a (Comma items) t h = exprs_pass a items t h

  exprs_pass : (a : JumpContext Text) (es : Exprs) (t : Told Text) → IsClean a (tells_exprs es t) → IsClean a t
  exprs_pass a no_exprs t h = h
  exprs_pass a (more_exprs e rest) t h = exprs_pass a rest t (expr_passes a e (tells_exprs rest t) h)

  pub maybe_passes : (a : JumpContext Text) (e : MaybeExpr) (t : Told Text) → IsClean a (tells_maybe e t) → IsClean a t
  maybe_passes a no_expr t h = h
  maybe_passes a (some_expr e) t h = expr_passes a e t h

  pub args_pass : (a : JumpContext Text) (args : MaybeArgs) (t : Told Text) → IsClean a (tells_args args t) → IsClean a t
  args_pass a no_args t h = h
  args_pass a (some_args items comma) t h = exprs_pass a items t h

  pub parts_pass : (a : JumpContext Text) (ps : Parts) (t : Told Text) → IsClean a (tells_parts ps t) → IsClean a t
  parts_pass a no_parts t h = h
  parts_pass a (more_parts value behind rest) t h = parts_pass a rest t (expr_passes a value (tells_parts rest t) h)

  pub items_pass : (a : JumpContext Text) (items : Items) (t : Told Text) → IsClean a (tells_array items t) → IsClean a t
  items_pass a no_items t h = h
  items_pass a (more_items item rest) t h = items_pass a rest t (maybe_passes a item (tells_array rest t) h)

  pub operands_pass : (a : JumpContext Text) (rest : Operands) (t : Told Text) → IsClean a (tells_operands rest t) → IsClean a t
  operands_pass a no_operands t h = h
  operands_pass a (more_operands sign is_word value rest) t h = operands_pass a rest t (expr_passes a value (tells_operands rest t) h)

  tails_pass : (a : JumpContext Text) (tails : Tails) (t : Told Text) → IsClean a (tells_tails tails t) → IsClean a t
  tails_pass a no_tails t h = h
  tails_pass a (more_tails u rest) t h = tails_pass a rest t (tail_passes a u (tells_tails rest t) h)

  pub tail_passes : (a : JumpContext Text) (u : Tail) (t : Told Text) → IsClean a (tells_tail u t) → IsClean a t
  tail_passes a (Dot name) t h = h
  tail_passes a (Index key) t h = expr_passes a key t h
  tail_passes a (Call items comma) t h = exprs_pass a items t h

  pub key_passes : (a : JumpContext Text) (key : Key) (t : Told Text) → IsClean a (tells_key key t) → IsClean a t
  key_passes a (WordKey name) t h = h
  key_passes a (StrKey name) t h = h
  key_passes a (NumberKey at number) t h = h
  key_passes a (ComputedKey e) t h = expr_passes a e t h

  pub prop_passes : (a : JumpContext Text) (p : Prop) (t : Told Text) → IsClean a (tells_prop p t) → IsClean a t
  prop_passes a (Short name) t h = h
  prop_passes a (Pair key value) t h = expr_passes a value t (key_passes a key (tells_expr value t) h)
  prop_passes a (Method key f) t h = function_passes a f t (key_passes a key (tells_function f t) h)
  prop_passes a (Get key f) t h = function_passes a f t (key_passes a key (tells_function f t) h)
  prop_passes a (Set key f) t h = function_passes a f t (key_passes a key (tells_function f t) h)

  props_pass : (a : JumpContext Text) (ps : Props) (t : Told Text) → IsClean a (tells_props ps t) → IsClean a t
  props_pass a no_props t h = h
  props_pass a (more_props p rest) t h = props_pass a rest t (prop_passes a p (tells_props rest t) h)

pub binds_pass : (a : JumpContext Text) (kind : Decl) (bs : Binds) (t : Told Text) → IsClean a (tells_binds kind bs t) → IsClean a t
binds_pass a kind no_binds t h = h
binds_pass a kind (more_binds name value rest) t h = binds_pass a kind rest t (maybe_passes a value (tells_binds kind rest t) h)

pub init_passes : (a : JumpContext Text) (init : Init) (t : Told Text) → IsClean a (tells_init init t) → IsClean a t
init_passes a NoInit t h = h
init_passes a (ValueInit e) t h = expr_passes a e t h
init_passes a (BindsInit kind bs) t h = binds_pass a kind bs t h

pub each_passes : (a : JumpContext Text) (each : Each) (t : Told Text) → IsClean a (tells_each each t) → IsClean a t
each_passes a (TargetEach e) t h = expr_passes a e t h
each_passes a (BindEach kind name) t h = h

pub params_pass : (a : JumpContext Text) (ps : Params) (t : Told Text) → IsClean a (tells_params ps t) → IsClean a t
params_pass a no_params t h = h
params_pass a (more_params name value rest more) t h = params_pass a more t (maybe_passes a value (tells_params more t) h)
