-- The parts of a tree tell at most three regions for each token that they are written with. Each law compares what is told with and
-- without the part, in front of whatever is told after it.
use Rattle.std.proofs.Common.{◌≡◌, ℕ, suc, ◌+◌, ◌*◌, ◌≤◌, Bool, true, false, List, ◌++◌, Option, Some, None, refl, arith}
use Rattle.script_grammar.specs.declared.token.FuncForm.{FuncForm}
use Rattle.script_grammar.specs.declared.token.FuncForm.TheVariants as form
use Rattle.script_grammar.specs.declared.token.Decl.{Decl}
use Rattle.script_grammar.specs.Tree.{Named, Expr, MaybeExpr, no_expr, some_expr, Exprs, no_exprs, more_exprs, MaybeArgs, no_args, some_args}
use Rattle.script_grammar.specs.Tree.{Parts, no_parts, more_parts, Items, no_items, more_items, Operands, no_operands, more_operands}
use Rattle.script_grammar.specs.Tree.{Tail, Tails, no_tails, more_tails, Key, Prop, Props, no_props, more_props, Function, function}
use Rattle.script_grammar.specs.Tree.{Params, no_params, more_params, Body, BracedBody, ShortBody, Binds, no_binds, more_binds, Init, NoInit, ValueInit, BindsInit}
use Rattle.script_grammar.specs.Tree.{Each, TargetEach, BindEach, Clauses, no_clauses, more_clauses, Stmt, Stmts, no_stmts, more_stmts, MaybeStmt, no_stmt, some_stmt}
use Rattle.script_grammar.specs.Tree as tree
use Rattle.script_grammar.specs.Pieces.{whole, Piece, from, glue, until}
use Rattle.script_grammar.specs.Print.{above, print, print_list, print_more, print_maybe, print_args, print_parts, print_items, print_more_items, print_operands}
use Rattle.script_grammar.specs.Print.{print_tails, print_tail, print_key, print_prop, print_props, print_more_props, print_func, print_function, print_declared}
use Rattle.script_grammar.specs.Print.{print_params, print_more_params, print_initializer, print_body, print_binds, print_more_binds, print_stmts, print_else}
use Rattle.script_grammar.specs.Print.{print_init, print_each, print_clauses, print_test, print_stmt, print_name, print_catch_param, func_word, arrow_pieces}
use Rattle.script_grammar.specs.Print.{parenthesized, param_depth, ellipsis}
use Rattle.parse_track.specs.Counted.{region_count}
use Rattle.parse_track.specs.Told.{Told, nothing}
use Rattle.parse_track.specs.Tells.{Text, tells_expr, tells_exprs, tells_maybe, tells_args, tells_parts, tells_array, tells_operands, tells_tails, tells_tail}
use Rattle.parse_track.specs.Tells.{tells_key, tells_prop, tells_props, tells_function, tells_params, tells_body, tells_binds, tells_init, tells_each, tells_clauses}
use Rattle.parse_track.specs.Tells.{tells_stmt, tells_stmts, tells_maybe_stmt, in_named, function_name, body_region, has_initializer, declares_function, labelled_region, labels_on}
use Rattle.track_count_laws.proofs.Slots.{slots, slots_both, slots_from, slots_glue, slots_until, Rises, none, both, past, before, after, token, fewer, alike}

abbrev count : Told Text → ℕ
count t = region_count t

-- a function expression has the word `function` or the mark of an arrow
word_or_mark : (f : FuncForm) (at : ℕ) (name : Option Named) (d : ℕ) → 3 ≤ 3 * slots (func_word f at name d) + 3 * slots (arrow_pieces f d)
word_or_mark form.Script at name d = omega arith
word_or_mark form.Function at name d = omega arith
word_or_mark form.Arrow at name d = omega arith
word_or_mark form.Method at name d = omega arith
word_or_mark form.Getter at name d = omega arith
word_or_mark form.Setter at name d = omega arith

abbrev arrow_slots : ℕ → Function → ℕ
arrow_slots d (function f start end name ps comma bare body) = 3 * slots (arrow_pieces f d)

body_regions : (own : Bool) (inside : Told Text) → count (body_region own inside) ≤ 1 + count inside
body_regions true inside = omega arith
body_regions false inside = omega arith

label_regions : (on : Bool) (inside : Told Text) → count (labelled_region on inside) ≤ 1 + count inside
label_regions true inside = omega arith
label_regions false inside = omega arith

declared_regions : (top : Bool) (name : Option Named) (t : Told Text) → count (declares_function top name t) ≡ count t
declared_regions top None t = refl
declared_regions top (Some name) t = refl

-- a key has a token, which pays for the regions of a method
method_rises : {a b c : ℕ} {ps qs : List Piece} (n : ℕ) → Rises (3 + a) b ps → Rises (n + b) (2 + c) qs → Rises a c (ps ++ qs)
method_rises {a = a} {b = b} {c = c} {ps = ps} {qs = qs} n h k =
    let e = slots_both ps qs in
    let x = h.most in
    let y = k.most in
    record { most = omega (arith, e, x, y) }

-- a function expression: the region of its name, its own and that of its body
func_rises : (d at : ℕ) (f : Function) (t : Told Text) → Rises (arrow_slots d f + count (tells_function f t)) (2 + count t) (print_function whole d f)
    → Rises (count (in_named (function_name f) (tells_function f) t)) (count t) (print_func whole d at f)
func_rises d at (function form start end None ps comma bare body) t h =
    let f = function form start end None ps comma bare body in
    let e = slots_both (func_word form at None d) (print_function whole d f) in
    let w = word_or_mark form at None d in
    let x = h.most in
    record { most = omega (arith, e, w, x) }
func_rises d at (function form start end (Some name) ps comma bare body) t h =
    let f = function form start end (Some name) ps comma bare body in
    let e = slots_both (func_word form at (Some name) d) (print_function whole d f) in
    let w = word_or_mark form at (Some name) d in
    let x = h.most in
    record { most = omega (arith, e, w, x) }

declared_rises : (top : Bool) (d : ℕ) (f : Function) (t : Told Text) → Rises (arrow_slots d f + count (tells_function f t)) (2 + count t) (print_function whole d f)
    → Rises (count (declares_function top (function_name f) (tells_function f t))) (count t) (print_declared whole d f)
declared_rises top d (function form start end name ps comma bare body) t h =
    let f = function form start end name ps comma bare body in
    let n = declared_regions top name (tells_function f t) in
    token (before (print_name name d) h) (omega (arith, n))

parenthesized_rises : {a b : ℕ} {ps : List Piece} (bare : Bool) (start d : ℕ) (comma : Bool) → Rises a b ps → Rises a b (parenthesized bare start d ps comma)
parenthesized_rises true start d comma h = h
parenthesized_rises false start d comma h = past (after _ h)

-- the two blocks of a try statement, and the region of a parameter
try_rises : {all : ℕ} (d : ℕ) (body : Stmts) (param : Option Named) (handler : Stmts) (t : Told Text)
    → Rises (count (tells_stmts false body nothing)) 0 (print_stmts whole d body) → Rises (count (tells_stmts false handler nothing)) 0 (print_stmts whole d handler)
    → all ≤ 3 + (count (tells_stmts false body nothing) + (count (tells_stmts false handler nothing) + count t)) → Rises all (count t) (print_stmt whole d (tree.Try body param handler))
try_rises d body param handler t b h le =
    let first : Rises (count (tells_stmts false body nothing) + count (tells_stmts false handler nothing)) (count (tells_stmts false handler nothing)) (print_stmts whole d body) =
    fewer b (omega arith) in
    token (past (both first (past (past (before (print_catch_param param d) (past (after _ h))))))) (omega (arith, le))

mutual
  expr_few : (d : ℕ) (x : Expr) (t : Told Text) → Rises (count (tells_expr x t)) (count t) (print whole d x)
  expr_few d (tree.This at) t = none
  expr_few d (tree.Name name) t = none
  expr_few d (tree.Null at) t = none
  expr_few d (tree.True at) t = none
  expr_few d (tree.False at) t = none
  expr_few d (tree.Number at value) t = none
  expr_few d (tree.Str at end text) t = none
  expr_few d (tree.Template at first parts) t = past (parts_few d parts t)
  expr_few d (tree.Array at items comma) t = past (after _ (items_few d items t))
  expr_few d (tree.Object at props comma) t = past (after _ (props_few d props t))
  expr_few d (tree.Func at f) t = func_rises d at f t (function_few d f t)
  expr_few d (tree.Paren at value) t = past (after _ (expr_few (suc d) value t))
  expr_few d (tree.Chain head tails) t = both (expr_few d head (tells_tails tails t)) (tails_few d tails t)
  expr_few d (tree.New at callee args) t = past (both (expr_few (suc d) callee (tells_args args t)) (args_few (suc d) args t))
  expr_few d (tree.Unary at op operand is_word) t = past (expr_few (suc d) operand t)
  expr_few d (tree.Update at op true operand) t = past (expr_few (suc d) operand t)
  expr_few d (tree.Update at op false operand) t = after _ (alike {qs = from at (print whole d operand)} (slots_from at (print whole d operand)) (expr_few d operand t))
  expr_few d (tree.Binary first rest) t = both (expr_few d first (tells_operands rest t)) (operands_few d rest t)
  expr_few d (tree.Cond test then_value else_value) t =
      both (expr_few d test (tells_expr then_value (tells_expr else_value t)))
      (past (both (expr_few (suc d) then_value (tells_expr else_value t)) (past (expr_few (suc d) else_value t))))
  expr_few d (tree.Assign op target value) t = both (expr_few d target (tells_expr value t)) (past (expr_few (suc d) value t))
  expr_few d (tree.Comma items) t = list_few (above d) items t

  list_few : (d : ℕ) (x : Exprs) (t : Told Text) → Rises (count (tells_exprs x t)) (count t) (print_list whole d x)
  list_few d no_exprs t = none
  list_few d (more_exprs e es) t = both (expr_few (suc d) e (tells_exprs es t)) (more_few d es t)

  more_few : (d : ℕ) (x : Exprs) (t : Told Text) → Rises (count (tells_exprs x t)) (count t) (print_more whole d x)
  more_few d no_exprs t = none
  more_few d (more_exprs e es) t = past (both (expr_few (suc d) e (tells_exprs es t)) (more_few d es t))

  maybe_few : (d : ℕ) (x : MaybeExpr) (t : Told Text) → Rises (count (tells_maybe x t)) (count t) (print_maybe whole d x)
  maybe_few d no_expr t = none
  maybe_few d (some_expr e) t = expr_few d e t

  args_few : (d : ℕ) (x : MaybeArgs) (t : Told Text) → Rises (count (tells_args x t)) (count t) (print_args whole d x)
  args_few d no_args t = none
  args_few d (some_args es comma) t = past (after _ (list_few d es t))

  parts_few : (d : ℕ) (x : Parts) (t : Told Text) → Rises (count (tells_parts x t)) (count t) (print_parts whole d x)
  parts_few d no_parts t = none
  parts_few d (more_parts value behind rest) t = both (expr_few (suc d) value (tells_parts rest t)) (past (parts_few d rest t))

  items_few : (d : ℕ) (x : Items) (t : Told Text) → Rises (count (tells_array x t)) (count t) (print_items whole d x)
  items_few d no_items t = none
  items_few d (more_items i is) t = both (maybe_few (suc d) i (tells_array is t)) (more_items_few d is t)

  more_items_few : (d : ℕ) (x : Items) (t : Told Text) → Rises (count (tells_array x t)) (count t) (print_more_items whole d x)
  more_items_few d no_items t = none
  more_items_few d (more_items i is) t = past (both (maybe_few (suc d) i (tells_array is t)) (more_items_few d is t))

  operands_few : (d : ℕ) (x : Operands) (t : Told Text) → Rises (count (tells_operands x t)) (count t) (print_operands whole d x)
  operands_few d no_operands t = none
  operands_few d (more_operands op is_word value rest) t = past (both (expr_few d value (tells_operands rest t)) (operands_few d rest t))

  tails_few : (d : ℕ) (x : Tails) (t : Told Text) → Rises (count (tells_tails x t)) (count t) (print_tails whole d x)
  tails_few d no_tails t = none
  tails_few d (more_tails x xs) t = both (tail_few d x (tells_tails xs t)) (tails_few d xs t)

  tail_few : (d : ℕ) (x : Tail) (t : Told Text) → Rises (count (tells_tail x t)) (count t) (print_tail whole d x)
  tail_few d (tree.Dot text) t = none
  tail_few d (tree.Index e) t = past (after _ (expr_few (suc d) e t))
  tail_few d (tree.Call es comma) t = past (after _ (list_few d es t))

  -- a key has a token, for the regions of a method
  key_few : (d : ℕ) (x : Key) (t : Told Text) → Rises (3 + count (tells_key x t)) (count t) (print_key whole d x)
  key_few d (tree.WordKey name) t = record { most = omega arith }
  key_few d (tree.StrKey name) t = record { most = omega arith }
  key_few d (tree.NumberKey at value) t = record { most = omega arith }
  key_few d (tree.ComputedKey e) t = token (after _ (expr_few (suc d) e t)) (omega arith)

  prop_few : (d : ℕ) (x : Prop) (t : Told Text) → Rises (count (tells_prop x t)) (count t) (print_prop whole d x)
  prop_few d (tree.Short name) t = none
  prop_few d (tree.Pair key value) t = fewer (both (key_few d key (tells_expr value t)) (past (expr_few (suc d) value t))) (omega arith)
  prop_few d (tree.Method key f) t = method_rises (arrow_slots d f) (key_few d key (tells_function f t)) (function_few d f t)
  prop_few d (tree.Get key f) t = past (method_rises (arrow_slots d f) (key_few d key (tells_function f t)) (function_few d f t))
  prop_few d (tree.Set key f) t = past (method_rises (arrow_slots d f) (key_few d key (tells_function f t)) (function_few d f t))

  props_few : (d : ℕ) (x : Props) (t : Told Text) → Rises (count (tells_props x t)) (count t) (print_props whole d x)
  props_few d no_props t = none
  props_few d (more_props p ps) t = both (prop_few d p (tells_props ps t)) (more_props_few d ps t)

  more_props_few : (d : ℕ) (x : Props) (t : Told Text) → Rises (count (tells_props x t)) (count t) (print_more_props whole d x)
  more_props_few d no_props t = none
  more_props_few d (more_props p ps) t = past (both (prop_few d p (tells_props ps t)) (more_props_few d ps t))

  -- A function from its parameters on: its region and that of its body are two more than its tokens pay for; the mark of an arrow is
  -- left to pay.
  function_few : (d : ℕ) (f : Function) (t : Told Text) → Rises (arrow_slots d f + count (tells_function f t)) (2 + count t) (print_function whole d f)
  function_few d (function form start end name ps comma bare body) t =
      let own = tells_body body in
      let b = body_regions (has_initializer ps) own in
      let inside = (body_few d end body).most in
      let params = (parenthesized_rises bare start d comma (params_few (param_depth form bare d) d ps (body_region (has_initializer ps) own))).most in
      let e = slots_both (parenthesized bare start d (print_params whole (param_depth form bare d) d ps) comma) (arrow_pieces form d ++ print_body whole d end body) in
      let k = slots_both (arrow_pieces form d) (print_body whole d end body) in
      record { most = omega (arith, b, inside, params, e, k) }

  params_few : (q d : ℕ) (x : Params) (t : Told Text) → Rises (count (tells_params x t)) (count t) (print_params whole q d x)
  params_few q d no_params t = none
  params_few q d (more_params name value rest ps) t = before (ellipsis rest q) (past (both (initializer_few q value (tells_params ps t)) (more_params_few q d ps t)))

  more_params_few : (q d : ℕ) (x : Params) (t : Told Text) → Rises (count (tells_params x t)) (count t) (print_more_params whole q d x)
  more_params_few q d no_params t = none
  more_params_few q d (more_params name value rest ps) t =
      past (before (ellipsis rest q) (past (both (initializer_few q value (tells_params ps t)) (more_params_few q d ps t))))

  initializer_few : (d : ℕ) (x : MaybeExpr) (t : Told Text) → Rises (count (tells_maybe x t)) (count t) (print_initializer whole d x)
  initializer_few d no_expr t = none
  initializer_few d (some_expr e) t = past (expr_few (suc d) e t)

  body_few : (d end : ℕ) (x : Body) → Rises (count (tells_body x)) 0 (print_body whole d end x)
  body_few d end (BracedBody items) = past (after _ (stmts_few true d items nothing))
  body_few d end (ShortBody value) = alike {qs = until end (print whole (suc d) value)} (slots_until end (print whole (suc d) value)) (expr_few (suc d) value nothing)

  binds_few : (decl : Decl) (d : ℕ) (x : Binds) (t : Told Text) → Rises (count (tells_binds decl x t)) (count t) (print_binds whole d x)
  binds_few decl d no_binds t = none
  binds_few decl d (more_binds name value bs) t = past (both (initializer_few d value (tells_binds decl bs t)) (more_binds_few decl d bs t))

  more_binds_few : (decl : Decl) (d : ℕ) (x : Binds) (t : Told Text) → Rises (count (tells_binds decl x t)) (count t) (print_more_binds whole d x)
  more_binds_few decl d no_binds t = none
  more_binds_few decl d (more_binds name value bs) t = past (past (both (initializer_few d value (tells_binds decl bs t)) (more_binds_few decl d bs t)))

  init_few : (d : ℕ) (x : Init) (t : Told Text) → Rises (count (tells_init x t)) (count t) (print_init whole d x)
  init_few d NoInit t = none
  init_few d (ValueInit e) t = expr_few (suc d) e t
  init_few d (BindsInit decl bs) t = past (binds_few decl d bs t)

  each_few : (d : ℕ) (x : Each) (t : Told Text) → Rises (count (tells_each x t)) (count t) (print_each whole d x)
  each_few d (TargetEach e) t = expr_few (suc d) e t
  each_few d (BindEach decl name) t = none

  test_few : (d : ℕ) (x : MaybeExpr) (t : Told Text) → Rises (count (tells_maybe x t)) (count t) (print_test whole d x)
  test_few d no_expr t = none
  test_few d (some_expr e) t = past (expr_few (suc d) e t)

  clauses_few : (d : ℕ) (x : Clauses) (t : Told Text) → Rises (count (tells_clauses x t)) (count t) (print_clauses whole d x)
  clauses_few d no_clauses t = none
  clauses_few d (more_clauses test items cs) t =
      both (test_few d test (tells_stmts false items (tells_clauses cs t))) (past (both (stmts_few false d items (tells_clauses cs t)) (clauses_few d cs t)))

  else_few : (d : ℕ) (x : MaybeStmt) (t : Told Text) → Rises (count (tells_maybe_stmt x t)) (count t) (print_else whole d x)
  else_few d no_stmt t = none
  else_few d (some_stmt s) t = past (stmt_few false (suc d) s t)

  pub stmts_few : (top : Bool) (d : ℕ) (x : Stmts) (t : Told Text) → Rises (count (tells_stmts top x t)) (count t) (print_stmts whole d x)
  stmts_few top d no_stmts t = none
  stmts_few top d (more_stmts s ss) t = both (stmt_few top (suc d) s (tells_stmts top ss t)) (stmts_few top d ss t)

  -- A statement. What stands in a region of its own is told in front of nothing.
  stmt_few : (top : Bool) (d : ℕ) (x : Stmt) (t : Told Text) → Rises (count (tells_stmt top x t)) (count t) (print_stmt whole d x)
  stmt_few top d (tree.Block items) t = token (after _ (stmts_few false d items nothing)) (omega arith)
  stmt_few top d tree.Empty t = none
  stmt_few top d (tree.Debugger semi) t = none
  stmt_few top d (tree.Binding decl binds semi) t = past (after _ (binds_few decl d binds t))
  stmt_few top d (tree.Value e semi) t = after _ (expr_few (suc d) e t)
  stmt_few top d (tree.If test then_stmt else_stmt) t =
      past (past (both (expr_few (suc d) test (tells_stmt false then_stmt (tells_maybe_stmt else_stmt t)))
      (past (both (stmt_few false (suc d) then_stmt (tells_maybe_stmt else_stmt t)) (else_few d else_stmt t)))))
  stmt_few top d (tree.Do body test semi) t =
      token (both (stmt_few false (suc d) body (tells_expr test nothing)) (past (past (after _ (expr_few (suc d) test nothing))))) (omega arith)
  stmt_few top d (tree.While test body) t =
      token (past (both (expr_few (suc d) test (tells_stmt false body nothing)) (past (stmt_few false (suc d) body nothing)))) (omega arith)
  stmt_few top d (tree.For init test update body) t =
      let s = stmt_few false (suc d) body nothing in
      let u = maybe_few (suc d) update (tells_stmt false body nothing) in
      let v = maybe_few (suc d) test (tells_maybe update (tells_stmt false body nothing)) in
      let i = init_few d init (tells_maybe test (tells_maybe update (tells_stmt false body nothing))) in
      token (past (both i (past (both v (past (both u (past s))))))) (omega arith)
  stmt_few top d (tree.ForIn each over body) t =
      let s = stmt_few false (suc d) body nothing in
      let v = expr_few (suc d) over (tells_stmt false body nothing) in
      let i = each_few d each (tells_expr over (tells_stmt false body nothing)) in
      token (past (both i (past (both v (past s))))) (omega arith)
  stmt_few top d (tree.Continue at label semi) t = none
  stmt_few top d (tree.Break at label semi) t = none
  stmt_few top d (tree.Return value semi) t = past (after _ (alike {qs = glue (print_maybe whole (suc d) value)} (slots_glue (print_maybe whole (suc d) value)) (maybe_few (suc d) value t)))
  stmt_few top d (tree.Throw e semi) t = past (after _ (alike {qs = glue (print whole (suc d) e)} (slots_glue (print whole (suc d) e)) (expr_few (suc d) e t)))
  stmt_few top d (tree.Switch e clauses) t =
      past (past (both (expr_few (suc d) e _) (past (token (after _ (clauses_few d clauses nothing)) (omega arith)))))
  stmt_few top d (tree.Label name body) t =
      let l = label_regions (labels_on body) (tells_stmt false body nothing) in
      token (past (stmt_few false (suc d) body nothing)) (omega (arith, l))
  stmt_few top d (tree.Try body None handler) t = try_rises d body None handler t (stmts_few false d body nothing) (stmts_few false d handler nothing) (omega arith)
  stmt_few top d (tree.Try body (Some name) handler) t = try_rises d body (Some name) handler t (stmts_few false d body nothing) (stmts_few false d handler nothing) (omega arith)
  stmt_few top d (tree.Declared f) t = declared_rises top d f t (function_few d f t)
