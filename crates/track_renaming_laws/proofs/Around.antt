-- In what a script tells, the region of a function expression's name is around a function.
use Rattle.std.proofs.Common.{◌≡◌, Bool, true, false, cond, Option, None, Some, refl}
use Rattle.script_grammar.specs.declared.token.Decl.{Decl}
use Rattle.script_grammar.specs.Kinds.{is_arrow_form}
use Rattle.script_grammar.specs.Tree as tree
use Rattle.script_grammar.specs.Tree.{Named, Expr, MaybeExpr, no_expr, some_expr, Exprs, no_exprs, more_exprs, MaybeArgs, no_args, some_args, Parts, no_parts, more_parts, Items, no_items, more_items, Operands, no_operands, more_operands, Tail, Tails, no_tails, more_tails, Key, Prop, Props, no_props, more_props, function, Params, no_params, more_params, Body, BracedBody, ShortBody, Binds, no_binds, more_binds, Init, NoInit, ValueInit, BindsInit, Each, TargetEach, BindEach, Clauses, no_clauses, more_clauses, Stmt, Stmts, no_stmts, more_stmts, MaybeStmt, no_stmt, some_stmt}
use Rattle.parse_track.specs.Told as told
use Rattle.parse_track.specs.Told.{Region, Told, nothing}
use Rattle.parse_track.specs.RegionNames.{is_function}
use Rattle.parse_track.specs.Tells.{Text, has_initializer, body_region, function_name, in_named, declares_function, labels_on, labelled_region, tells_expr, tells_exprs, tells_maybe, tells_args, tells_parts, tells_array, tells_operands, tells_tails, tells_tail, tells_key, tells_prop, tells_props, tells_function, tells_params, tells_body, tells_binds, tells_init, tells_each, tells_clauses, tells_stmt, tells_stmts, tells_maybe_stmt, tells_script}
use Rattle.track_renaming_laws.specs.Starts.{starts_with_function, IsAroundFunction, AreAroundFunctions}

is_function_region : (arrow : Bool) → is_function {A = Text} (cond arrow told.Arrow told.Function) ≡ true
is_function_region true = refl
is_function_region false = refl

in_function : (arrow : Bool) (i : Told Text) → IsAroundFunction (cond arrow told.Arrow told.Function) i
in_function true i = tt
in_function false i = tt

tells_function_first : (f : tree.Function) (t : Told Text) → starts_with_function (tells_function f t) ≡ true
tells_function_first (function form _ _ _ _ _ _ _) t = is_function_region (is_arrow_form form)

in_named-around : (name : Option Named) (f : tree.Function) (t : Told Text) → AreAroundFunctions (tells_function f nothing) → AreAroundFunctions (tells_function f t) → AreAroundFunctions t
    → AreAroundFunctions (in_named name (tells_function f) t)
in_named-around None f t alone h k = h
in_named-around (Some name) f t alone h k = (tells_function_first f nothing, (alone, k))

declares-around : (top : Bool) (name : Option Named) (t : Told Text) → AreAroundFunctions t → AreAroundFunctions (declares_function top name t)
declares-around top None t h = h
declares-around top (Some name) t h = h

body_region-around : (own : Bool) (t : Told Text) → AreAroundFunctions t → AreAroundFunctions (body_region own t)
body_region-around true t h = (tt, (h, tt))
body_region-around false t h = h

labelled-around : (on : Bool) (t : Told Text) → AreAroundFunctions t → AreAroundFunctions (labelled_region on t)
labelled-around true t h = h
labelled-around false t h = (tt, (h, tt))

mutual
  expr-around : (e : Expr) (t : Told Text) → AreAroundFunctions t → AreAroundFunctions (tells_expr e t)
  expr-around (tree.This at) t h = h
  expr-around (tree.Name name) t h = h
  expr-around (tree.Null at) t h = h
  expr-around (tree.True at) t h = h
  expr-around (tree.False at) t h = h
  expr-around (tree.Number at value) t h = h
  expr-around (tree.Str at end text) t h = h
  expr-around (tree.Template at first parts) t h = parts-around parts t h
  expr-around (tree.Array at items comma) t h = array-around items t h
  expr-around (tree.Object at props comma) t h = props-around props t h
  expr-around (tree.Func at f) t h = in_named-around (function_name f) f t (function-around f nothing tt) (function-around f t h) h
  expr-around (tree.Paren at value) t h = expr-around value t h
  expr-around (tree.Chain head tails) t h = expr-around head (tells_tails tails t) (tails-around tails t h)
  expr-around (tree.New at callee args) t h = expr-around callee (tells_args args t) (args-around args t h)
  expr-around (tree.Unary at op operand is_word) t h = expr-around operand t h
  expr-around (tree.Update at op prefix operand) t h = expr-around operand t h
  expr-around (tree.Binary first rest) t h = expr-around first (tells_operands rest t) (operands-around rest t h)
  expr-around (tree.Cond test then_value else_value) t h =
      expr-around test (tells_expr then_value (tells_expr else_value t)) (expr-around then_value (tells_expr else_value t) (expr-around else_value t h))
  expr-around (tree.Assign op target value) t h = expr-around target (tells_expr value t) (expr-around value t h)
  expr-around (tree.Comma items) t h = exprs-around items t h

  exprs-around : (es : Exprs) (t : Told Text) → AreAroundFunctions t → AreAroundFunctions (tells_exprs es t)
  exprs-around no_exprs t h = h
  exprs-around (more_exprs e rest) t h = expr-around e (tells_exprs rest t) (exprs-around rest t h)

  maybe-around : (o : MaybeExpr) (t : Told Text) → AreAroundFunctions t → AreAroundFunctions (tells_maybe o t)
  maybe-around no_expr t h = h
  maybe-around (some_expr e) t h = expr-around e t h

  args-around : (a : MaybeArgs) (t : Told Text) → AreAroundFunctions t → AreAroundFunctions (tells_args a t)
  args-around no_args t h = h
  args-around (some_args items comma) t h = exprs-around items t h

  parts-around : (ps : Parts) (t : Told Text) → AreAroundFunctions t → AreAroundFunctions (tells_parts ps t)
  parts-around no_parts t h = h
  parts-around (more_parts value behind rest) t h = expr-around value (tells_parts rest t) (parts-around rest t h)

  array-around : (is : Items) (t : Told Text) → AreAroundFunctions t → AreAroundFunctions (tells_array is t)
  array-around no_items t h = h
  array-around (more_items item rest) t h = maybe-around item (tells_array rest t) (array-around rest t h)

  operands-around : (os : Operands) (t : Told Text) → AreAroundFunctions t → AreAroundFunctions (tells_operands os t)
  operands-around no_operands t h = h
  operands-around (more_operands op is_word value rest) t h = expr-around value (tells_operands rest t) (operands-around rest t h)

  tails-around : (ts : Tails) (t : Told Text) → AreAroundFunctions t → AreAroundFunctions (tells_tails ts t)
  tails-around no_tails t h = h
  tails-around (more_tails tail rest) t h = tail-around tail (tells_tails rest t) (tails-around rest t h)

  tail-around : (l : Tail) (t : Told Text) → AreAroundFunctions t → AreAroundFunctions (tells_tail l t)
  tail-around (tree.Dot text) t h = h
  tail-around (tree.Index e) t h = expr-around e t h
  tail-around (tree.Call items comma) t h = exprs-around items t h

  key-around : (k : Key) (t : Told Text) → AreAroundFunctions t → AreAroundFunctions (tells_key k t)
  key-around (tree.WordKey name) t h = h
  key-around (tree.StrKey name) t h = h
  key-around (tree.NumberKey at value) t h = h
  key-around (tree.ComputedKey e) t h = expr-around e t h

  prop-around : (p : Prop) (t : Told Text) → AreAroundFunctions t → AreAroundFunctions (tells_prop p t)
  prop-around (tree.Short name) t h = h
  prop-around (tree.Pair key value) t h = key-around key (tells_expr value t) (expr-around value t h)
  prop-around (tree.Method key f) t h = key-around key (tells_function f t) (function-around f t h)
  prop-around (tree.Get key f) t h = key-around key (tells_function f t) (function-around f t h)
  prop-around (tree.Set key f) t h = key-around key (tells_function f t) (function-around f t h)

  props-around : (ps : Props) (t : Told Text) → AreAroundFunctions t → AreAroundFunctions (tells_props ps t)
  props-around no_props t h = h
  props-around (more_props prop rest) t h = prop-around prop (tells_props rest t) (props-around rest t h)

  function-around : (f : tree.Function) (t : Told Text) → AreAroundFunctions t → AreAroundFunctions (tells_function f t)
  function-around (function form start end name params comma bare body) t h = (
    in_function (is_arrow_form form) (tells_params params (body_region (has_initializer params) (tells_body body))),
    (params-around params (body_region (has_initializer params) (tells_body body)) (body_region-around (has_initializer params) (tells_body body) (body-around body)), h),
  )

  params-around : (ps : Params) (t : Told Text) → AreAroundFunctions t → AreAroundFunctions (tells_params ps t)
  params-around no_params t h = h
  params-around (more_params name value rest more) t h = maybe-around value (tells_params more t) (params-around more t h)

  body-around : (b : Body) → AreAroundFunctions (tells_body b)
  body-around (BracedBody items) = stmts-around true items nothing tt
  body-around (ShortBody value) = expr-around value nothing tt

  binds-around : (d : Decl) (bs : Binds) (t : Told Text) → AreAroundFunctions t → AreAroundFunctions (tells_binds d bs t)
  binds-around d no_binds t h = h
  binds-around d (more_binds name value rest) t h = maybe-around value (tells_binds d rest t) (binds-around d rest t h)

  init-around : (i : Init) (t : Told Text) → AreAroundFunctions t → AreAroundFunctions (tells_init i t)
  init-around NoInit t h = h
  init-around (ValueInit e) t h = expr-around e t h
  init-around (BindsInit d binds) t h = binds-around d binds t h

  each-around : (e : Each) (t : Told Text) → AreAroundFunctions t → AreAroundFunctions (tells_each e t)
  each-around (TargetEach e) t h = expr-around e t h
  each-around (BindEach d name) t h = h

  clauses-around : (cs : Clauses) (t : Told Text) → AreAroundFunctions t → AreAroundFunctions (tells_clauses cs t)
  clauses-around no_clauses t h = h
  clauses-around (more_clauses test items rest) t h =
      maybe-around test (tells_stmts false items (tells_clauses rest t)) (stmts-around false items (tells_clauses rest t) (clauses-around rest t h))

  stmt-around : (top : Bool) (s : Stmt) (t : Told Text) → AreAroundFunctions t → AreAroundFunctions (tells_stmt top s t)
  stmt-around top (tree.Block items) t h = (tt, (stmts-around false items nothing tt, h))
  stmt-around top tree.Empty t h = h
  stmt-around top (tree.Debugger semi) t h = h
  stmt-around top (tree.Binding d binds semi) t h = binds-around d binds t h
  stmt-around top (tree.Value e semi) t h = expr-around e t h
  stmt-around top (tree.If test then_stmt else_stmt) t h =
      expr-around test (tells_stmt false then_stmt (tells_maybe_stmt else_stmt t))
      (stmt-around false then_stmt (tells_maybe_stmt else_stmt t) (maybe_stmt-around else_stmt t h))
  stmt-around top (tree.Do body test semi) t h = (tt, (stmt-around false body (tells_expr test nothing) (expr-around test nothing tt), h))
  stmt-around top (tree.While test body) t h = (tt, (expr-around test (tells_stmt false body nothing) (stmt-around false body nothing tt), h))
  stmt-around top (tree.For init test update body) t h = (
    tt,
    (
      (
        tt,
        (
          init-around init (tells_maybe test (tells_maybe update (tells_stmt false body nothing)))
              (maybe-around test (tells_maybe update (tells_stmt false body nothing)) (maybe-around update (tells_stmt false body nothing) (stmt-around false body nothing tt))),
          tt,
        ),
      ),
      h,
    ),
  )
  stmt-around top (tree.ForIn each over body) t h =
      (tt, ((tt, (each-around each (tells_expr over (tells_stmt false body nothing)) (expr-around over (tells_stmt false body nothing) (stmt-around false body nothing tt)), tt)), h))
  stmt-around top (tree.Continue at label semi) t h = h
  stmt-around top (tree.Break at label semi) t h = h
  stmt-around top (tree.Return value semi) t h = maybe-around value t h
  stmt-around top (tree.Throw e semi) t h = expr-around e t h
  stmt-around top (tree.Switch e clauses) t h = expr-around e (told.inner told.Switch 0 (tells_clauses clauses nothing) t) (tt, (clauses-around clauses nothing tt, h))
  stmt-around top (tree.Label name body) t h = (tt, (labelled-around (labels_on body) (tells_stmt false body nothing) (stmt-around false body nothing tt), h))
  stmt-around top (tree.Try body None handler) t h = (tt, (stmts-around false body nothing tt, (tt, (stmts-around false handler nothing tt, h))))
  stmt-around top (tree.Try body (Some name) handler) t h =
      (tt, (stmts-around false body nothing tt, (tt, ((tt, (stmts-around false handler nothing tt, tt)), h))))
  stmt-around top (tree.Declared f) t h = declares-around top (function_name f) (tells_function f t) (function-around f t h)

  stmts-around : (top : Bool) (ss : Stmts) (t : Told Text) → AreAroundFunctions t → AreAroundFunctions (tells_stmts top ss t)
  stmts-around top no_stmts t h = h
  stmts-around top (more_stmts s rest) t h = stmt-around top s (tells_stmts top rest t) (stmts-around top rest t h)

  maybe_stmt-around : (o : MaybeStmt) (t : Told Text) → AreAroundFunctions t → AreAroundFunctions (tells_maybe_stmt o t)
  maybe_stmt-around no_stmt t h = h
  maybe_stmt-around (some_stmt s) t h = stmt-around false s t h

pub script-around : (items : Stmts) → AreAroundFunctions (tells_script items)
script-around items = (tt, (stmts-around true items nothing tt, tt))
