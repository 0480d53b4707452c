-- The early errors of each part of a script: those that it has with its bodies emptied, those of its bodies, and late ones.
use Rattle.std.proofs.Common.{◌≡◌, ℕ, Bool, true, false, ◌||◌, Option, List, [], ◌∷◌, ◌++◌, refl, sym, ap, subst}
use Rattle.script_grammar.specs.Tree as tree
use Rattle.script_grammar.specs.Tree.{Expr, MaybeExpr, no_expr, some_expr, Exprs, no_exprs, more_exprs, MaybeArgs, no_args, some_args, Parts, no_parts, more_parts, Items, no_items, more_items, Operands, no_operands, more_operands, Tail, Tails, no_tails, more_tails, Key, Prop, Props, no_props, more_props, Function, function, Params, no_params, more_params, Body, BracedBody, ShortBody, Binds, no_binds, more_binds, Init, NoInit, ValueInit, BindsInit, Each, TargetEach, BindEach, Clauses, no_clauses, more_clauses, Stmt, Stmts, no_stmts, more_stmts, MaybeStmt, no_stmt, some_stmt}
use Rattle.script_grammar.specs.Braced.{in_expr, in_exprs, in_maybe_expr, in_maybe_args, in_parts, in_items, in_operands, in_tail, in_tails, in_key, in_prop, in_props, in_function, in_params, in_body, in_binds, in_init, in_each, in_clauses, in_stmt, in_stmts, in_maybe_stmt, braced_all}
use Rattle.grammar_parser_specs.specs.Filling.{fill, fill_exprs, fill_maybe, fill_args, fill_parts, fill_items, fill_operands, fill_tails, fill_tail, fill_key, fill_prop, fill_props, fill_function, fill_params, fill_body, fill_binds, fill_init, fill_each, fill_stmt, fill_stmts, fill_else, fill_clauses}
use Rattle.parse_track.specs.declared.region.Early.{Early}
use Rattle.parse_track.specs.EarlyErrors.{sooner}
use Rattle.parse_track.specs.Tells.{has_initializer}
use Rattle.parse_track.specs.Notes.{target_error, delete_error, const_errors, later_protos, limit, args_error, params_error, has_rest, body_errors, notes_expr, notes_exprs, notes_maybe, notes_args, notes_parts, notes_items, notes_operands, notes_tails, notes_tail, notes_key, notes_prop, notes_props, notes_function, notes_params, notes_body, notes_binds, notes_init, notes_each, notes_clauses, notes_stmt, notes_stmts, notes_maybe_stmt, first_note}
use Rattle.early_apart_laws.specs.Emptied.{passed_over, emptied}
use Rattle.early_apart_laws.specs.Late.{late, late_exprs, late_maybe, late_args, late_parts, late_items, late_operands, late_tails, late_tail, late_key, late_prop, late_props, late_function, late_params, late_body, late_binds, late_init, late_each, late_clauses, late_stmt, late_stmts, late_else}
use Rattle.early_apart_laws.specs.Notes.{bodies_notes}
use Rattle.early_apart_laws.proofs.Sooner.{first_note-append}
use Rattle.early_apart_laws.proofs.Parts.{Apart, nothing, own, moved, both, braced, late_swapped, of_whole}
use Rattle.early_apart_laws.proofs.Unchanged.{target_same, delete_same, const_same, protos_same, args_same, params_same}

-- the first early error of bodies, each with the bodies inside passed over
abbrev first_in : List Stmts → Option Early
first_in bodies = first_note (bodies_notes bodies)

-- the body of a function, before those inside it
inside : {notes ls : List Early} (items : Stmts) (r : List Stmts) → Apart notes (notes_stmts (emptied items)) ls (first_in (in_stmts true items r)) (first_in r)
    → Apart notes [] ls (first_in (items ∷ in_stmts true items r)) (first_in r)
inside {notes} {ls} items r h = subst (λ (o : Option Early). Apart notes [] ls o (first_in r)) (sym (first_note-append (notes_stmts (emptied items)) (bodies_notes (in_stmts true items r))))
    (braced (notes_stmts (emptied items)) h)

mutual
  pub expr_apart : (t : Expr) (r : List Stmts) → Apart (notes_expr t) (notes_expr (fill passed_over t)) (late t) (first_in (in_expr true t r)) (first_in r)
  expr_apart (tree.This at) r = nothing
  expr_apart (tree.Name name) r = nothing
  expr_apart (tree.Null at) r = nothing
  expr_apart (tree.True at) r = nothing
  expr_apart (tree.False at) r = nothing
  expr_apart (tree.Number at value) r = nothing
  expr_apart (tree.Str at end text) r = nothing
  expr_apart (tree.Template at first parts) r = parts_apart parts r
  expr_apart (tree.Array at items comma) r = items_apart items r
  expr_apart (tree.Object at props comma) r = both (own (later_protos false props) (later_protos false (fill_props passed_over props)) (protos_same passed_over false props)) (props_apart props r)
  expr_apart (tree.Func at f) r = function_apart f r
  expr_apart (tree.Paren at value) r = expr_apart value r
  expr_apart (tree.Chain head tails) r = both (expr_apart head (in_tails true tails r)) (tails_apart tails r)
  expr_apart (tree.New at callee args) r = both (expr_apart callee (in_maybe_args true args r)) (args_apart args r)
  expr_apart (tree.Unary at op operand is_word) r = both (own (delete_error at op is_word operand) (delete_error at op is_word (fill passed_over operand)) (delete_same passed_over at op is_word operand)) (expr_apart operand r)
  expr_apart (tree.Update at op prefix operand) r = both (own (target_error operand) (target_error (fill passed_over operand)) (target_same passed_over operand)) (expr_apart operand r)
  expr_apart (tree.Binary first rest) r = both (expr_apart first (in_operands true rest r)) (operands_apart rest r)
  expr_apart (tree.Cond test then_value else_value) r = both (expr_apart test (in_expr true then_value (in_expr true else_value r))) (both (expr_apart then_value (in_expr true else_value r)) (expr_apart else_value r))
  expr_apart (tree.Assign op target value) r = both (own (target_error target) (target_error (fill passed_over target)) (target_same passed_over target)) (both (expr_apart target (in_expr true value r)) (expr_apart value r))
  expr_apart (tree.Comma items) r = exprs_apart items r

  pub exprs_apart : (t : Exprs) (r : List Stmts) → Apart (notes_exprs t) (notes_exprs (fill_exprs passed_over t)) (late_exprs t) (first_in (in_exprs true t r)) (first_in r)
  exprs_apart no_exprs r = nothing
  exprs_apart (more_exprs e rest) r = both (expr_apart e (in_exprs true rest r)) (exprs_apart rest r)

  pub maybe_apart : (t : MaybeExpr) (r : List Stmts) → Apart (notes_maybe t) (notes_maybe (fill_maybe passed_over t)) (late_maybe t) (first_in (in_maybe_expr true t r)) (first_in r)
  maybe_apart no_expr r = nothing
  maybe_apart (some_expr e) r = expr_apart e r

  pub args_apart : (t : MaybeArgs) (r : List Stmts) → Apart (notes_args t) (notes_args (fill_args passed_over t)) (late_args t) (first_in (in_maybe_args true t r)) (first_in r)
  args_apart no_args r = nothing
  args_apart (some_args items comma) r = both (own (args_error limit items) (args_error limit (fill_exprs passed_over items)) (args_same passed_over limit items)) (exprs_apart items r)

  pub parts_apart : (t : Parts) (r : List Stmts) → Apart (notes_parts t) (notes_parts (fill_parts passed_over t)) (late_parts t) (first_in (in_parts true t r)) (first_in r)
  parts_apart no_parts r = nothing
  parts_apart (more_parts value behind rest) r = both (expr_apart value (in_parts true rest r)) (parts_apart rest r)

  pub items_apart : (t : Items) (r : List Stmts) → Apart (notes_items t) (notes_items (fill_items passed_over t)) (late_items t) (first_in (in_items true t r)) (first_in r)
  items_apart no_items r = nothing
  items_apart (more_items item rest) r = both (maybe_apart item (in_items true rest r)) (items_apart rest r)

  pub operands_apart : (t : Operands) (r : List Stmts) → Apart (notes_operands t) (notes_operands (fill_operands passed_over t)) (late_operands t) (first_in (in_operands true t r)) (first_in r)
  operands_apart no_operands r = nothing
  operands_apart (more_operands op is_word value rest) r = both (expr_apart value (in_operands true rest r)) (operands_apart rest r)

  pub tails_apart : (t : Tails) (r : List Stmts) → Apart (notes_tails t) (notes_tails (fill_tails passed_over t)) (late_tails t) (first_in (in_tails true t r)) (first_in r)
  tails_apart no_tails r = nothing
  tails_apart (more_tails tail rest) r = both (tail_apart tail (in_tails true rest r)) (tails_apart rest r)

  pub tail_apart : (t : Tail) (r : List Stmts) → Apart (notes_tail t) (notes_tail (fill_tail passed_over t)) (late_tail t) (first_in (in_tail true t r)) (first_in r)
  tail_apart (tree.Dot text) r = nothing
  tail_apart (tree.Index e) r = expr_apart e r
  tail_apart (tree.Call items comma) r = both (own (args_error limit items) (args_error limit (fill_exprs passed_over items)) (args_same passed_over limit items)) (exprs_apart items r)

  pub key_apart : (t : Key) (r : List Stmts) → Apart (notes_key t) (notes_key (fill_key passed_over t)) (late_key t) (first_in (in_key true t r)) (first_in r)
  key_apart (tree.WordKey name) r = nothing
  key_apart (tree.StrKey name) r = nothing
  key_apart (tree.NumberKey at value) r = nothing
  key_apart (tree.ComputedKey e) r = expr_apart e r

  pub prop_apart : (t : Prop) (r : List Stmts) → Apart (notes_prop t) (notes_prop (fill_prop passed_over t)) (late_prop t) (first_in (in_prop true t r)) (first_in r)
  prop_apart (tree.Short name) r = nothing
  prop_apart (tree.Pair key value) r = both (key_apart key (in_expr true value r)) (expr_apart value r)
  prop_apart (tree.Method key f) r = both (key_apart key (in_function true f r)) (function_apart f r)
  prop_apart (tree.Get key f) r = both (key_apart key (in_function true f r)) (function_apart f r)
  prop_apart (tree.Set key f) r = both (key_apart key (in_function true f r)) (function_apart f r)

  pub props_apart : (t : Props) (r : List Stmts) → Apart (notes_props t) (notes_props (fill_props passed_over t)) (late_props t) (first_in (in_props true t r)) (first_in r)
  props_apart no_props r = nothing
  props_apart (more_props prop rest) r = both (prop_apart prop (in_props true rest r)) (props_apart rest r)

  pub function_apart : (t : Function) (r : List Stmts) → Apart (notes_function t) (notes_function (fill_function passed_over t)) (late_function t) (first_in (in_function true t r)) (first_in r)
  function_apart (function form start end name params comma bare body) r =
      late_swapped (late_params params) (body_errors (has_initializer params || has_rest params) body) (late_body body)
      (both (own (params_error limit params) (params_error limit (fill_params passed_over params)) (params_same passed_over limit params))
      (both (params_apart params (in_body true body r))
      (body_apart (has_initializer params || has_rest params) (has_initializer (fill_params passed_over params) || has_rest (fill_params passed_over params)) start body r)))

  pub params_apart : (t : Params) (r : List Stmts) → Apart (notes_params t) (notes_params (fill_params passed_over t)) (late_params t) (first_in (in_params true t r)) (first_in r)
  params_apart no_params r = nothing
  params_apart (more_params name value rest more) r = both (maybe_apart value (in_params true more r)) (params_apart more r)

  body_apart : (was now : Bool) (start : ℕ) (b : Body) (r : List Stmts) → Apart (body_errors was b ++ notes_body b) (body_errors now (fill_body passed_over start b) ++ notes_body (fill_body passed_over start b)) (body_errors was b ++ late_body b) (first_in (in_body true b r)) (first_in r)
  body_apart was true start (BracedBody items) r = both (moved (body_errors was (BracedBody items))) (inside items r (stmts_apart items r))
  body_apart was false start (BracedBody items) r = both (moved (body_errors was (BracedBody items))) (inside items r (stmts_apart items r))
  body_apart true true start (ShortBody value) r = expr_apart value r
  body_apart true false start (ShortBody value) r = expr_apart value r
  body_apart false true start (ShortBody value) r = expr_apart value r
  body_apart false false start (ShortBody value) r = expr_apart value r

  pub binds_apart : (t : Binds) (r : List Stmts) → Apart (notes_binds t) (notes_binds (fill_binds passed_over t)) (late_binds t) (first_in (in_binds true t r)) (first_in r)
  binds_apart no_binds r = nothing
  binds_apart (more_binds name value rest) r = both (maybe_apart value (in_binds true rest r)) (binds_apart rest r)

  pub init_apart : (t : Init) (r : List Stmts) → Apart (notes_init t) (notes_init (fill_init passed_over t)) (late_init t) (first_in (in_init true t r)) (first_in r)
  init_apart NoInit r = nothing
  init_apart (ValueInit e) r = expr_apart e r
  init_apart (BindsInit d binds) r = both (own (const_errors d binds) (const_errors d (fill_binds passed_over binds)) (const_same passed_over d binds)) (binds_apart binds r)

  pub each_apart : (t : Each) (r : List Stmts) → Apart (notes_each t) (notes_each (fill_each passed_over t)) (late_each t) (first_in (in_each true t r)) (first_in r)
  each_apart (TargetEach e) r = both (own (target_error e) (target_error (fill passed_over e)) (target_same passed_over e)) (expr_apart e r)
  each_apart (BindEach d name) r = nothing

  pub clauses_apart : (t : Clauses) (r : List Stmts) → Apart (notes_clauses t) (notes_clauses (fill_clauses passed_over t)) (late_clauses t) (first_in (in_clauses true t r)) (first_in r)
  clauses_apart no_clauses r = nothing
  clauses_apart (more_clauses test items rest) r = both (maybe_apart test (in_stmts true items (in_clauses true rest r))) (both (stmts_apart items (in_clauses true rest r)) (clauses_apart rest r))

  pub stmt_apart : (t : Stmt) (r : List Stmts) → Apart (notes_stmt t) (notes_stmt (fill_stmt passed_over t)) (late_stmt t) (first_in (in_stmt true t r)) (first_in r)
  stmt_apart (tree.Block items) r = stmts_apart items r
  stmt_apart tree.Empty r = nothing
  stmt_apart (tree.Debugger semi) r = nothing
  stmt_apart (tree.Binding d binds semi) r = both (own (const_errors d binds) (const_errors d (fill_binds passed_over binds)) (const_same passed_over d binds)) (binds_apart binds r)
  stmt_apart (tree.Value e semi) r = expr_apart e r
  stmt_apart (tree.If test then_stmt else_stmt) r = both (expr_apart test (in_stmt true then_stmt (in_maybe_stmt true else_stmt r))) (both (stmt_apart then_stmt (in_maybe_stmt true else_stmt r)) (else_apart else_stmt r))
  stmt_apart (tree.Do body test semi) r = both (stmt_apart body (in_expr true test r)) (expr_apart test r)
  stmt_apart (tree.While test body) r = both (expr_apart test (in_stmt true body r)) (stmt_apart body r)
  stmt_apart (tree.For init test update body) r = both (init_apart init (in_maybe_expr true test (in_maybe_expr true update (in_stmt true body r)))) (both (maybe_apart test (in_maybe_expr true update (in_stmt true body r))) (both (maybe_apart update (in_stmt true body r)) (stmt_apart body r)))
  stmt_apart (tree.ForIn each over body) r = both (each_apart each (in_expr true over (in_stmt true body r))) (both (expr_apart over (in_stmt true body r)) (stmt_apart body r))
  stmt_apart (tree.Continue at label semi) r = nothing
  stmt_apart (tree.Break at label semi) r = nothing
  stmt_apart (tree.Return value semi) r = maybe_apart value r
  stmt_apart (tree.Throw e semi) r = expr_apart e r
  stmt_apart (tree.Switch e clauses) r = both (expr_apart e (in_clauses true clauses r)) (clauses_apart clauses r)
  stmt_apart (tree.Label name body) r = stmt_apart body r
  stmt_apart (tree.Try body param handler) r = both (stmts_apart body (in_stmts true handler r)) (stmts_apart handler r)
  stmt_apart (tree.Declared f) r = function_apart f r

  pub stmts_apart : (t : Stmts) (r : List Stmts) → Apart (notes_stmts t) (notes_stmts (fill_stmts passed_over t)) (late_stmts t) (first_in (in_stmts true t r)) (first_in r)
  stmts_apart no_stmts r = nothing
  stmts_apart (more_stmts s rest) r = both (stmt_apart s (in_stmts true rest r)) (stmts_apart rest r)

  pub else_apart : (t : MaybeStmt) (r : List Stmts) → Apart (notes_maybe_stmt t) (notes_maybe_stmt (fill_else passed_over t)) (late_else t) (first_in (in_maybe_stmt true t r)) (first_in r)
  else_apart no_stmt r = nothing
  else_apart (some_stmt s) r = stmt_apart s r

-- The first early error of a script of those that look at no region is the first of those of its top level and of each body, each with the
-- bodies inside passed over, and of those that a function's parameters decide and its body has.
pub notes_apart : (items : Stmts) → first_note (notes_stmts items) ≡ first_note (notes_stmts (emptied items) ++ (bodies_notes (braced_all items) ++ late_stmts items))
notes_apart items = of_whole (bodies_notes (braced_all items)) (stmts_apart items [])
