-- Each function directly in a part of a script that is proper and has no early error is so too.
use Rattle.std.proofs.Common.{◌≡◌, ℕ, Bool, true, false, ◌||◌, List, [], ◌∷◌, ◌++◌, bytes_eq, Option, Some, None}
use Rattle.script_grammar.specs.Pieces.{whole}
use Rattle.script_grammar.specs.Proper.{Proper, ProperExprs, ProperMaybe, ProperOption, ProperArgs, ProperParts, ProperItems, ProperOperands, ProperTails, ProperTail, ProperKey, ProperProp, ProperProps, ProperParams, ProperBody, ProperBinds, ProperInit, ProperEach, ProperClauses, ProperStmts, ProperElse, ProperStmt, ProperFunction}
use Rattle.script_grammar.specs.declared.token.Decl.{Decl}
use Rattle.script_grammar.specs.declared.token.FuncForm.{FuncForm}
use Rattle.script_grammar.specs.Tree.{Named, Expr, This, Name, Null, True, False, Number, Str, Template, Array, Object, Func, Paren, Chain, New, Unary, Update, Binary, Cond, Assign, Comma, Exprs, no_exprs, more_exprs, MaybeExpr, no_expr, some_expr, MaybeArgs, no_args, some_args, Parts, no_parts, more_parts, Items, no_items, more_items, Operands, no_operands, more_operands, Tail, Dot, Index, Call, Tails, no_tails, more_tails, Key, WordKey, StrKey, NumberKey, ComputedKey, Prop, Short, Pair, Method, Get, Set, Props, no_props, more_props, Function, function, Params, no_params, more_params, Body, BracedBody, ShortBody, Binds, no_binds, more_binds, Init, NoInit, ValueInit, BindsInit, Each, TargetEach, BindEach, Clauses, no_clauses, more_clauses, Stmt, Stmts, no_stmts, more_stmts, MaybeStmt, no_stmt, some_stmt, Block, Empty, Debugger, Binding, If, Do, While, For, ForIn, Continue, Break, Return, Throw, Switch, Label, Try, Declared}
use Rattle.script_grammar.specs.Tree as tree
use Rattle.stencil_data.specs.declared.functions.FuncKind.{FuncKind}
use Rattle.scope_analysis.specs.DeclaredNames.{Text}
use Rattle.scope_analysis.specs.Functions.{Inner, inner_expr, inner_exprs, inner_maybe, inner_args, inner_parts, inner_items, inner_operands, inner_tails, inner_tail, inner_key, inner_prop, inner_props, inner_binds, inner_init, inner_each, inner_stmt, inner_stmts, inner_else, inner_clauses, inner_params, inner_body, inner_function, inner_script}
use Rattle.parse_track.specs.declared.region.Declare.TheVariants as how
use Rattle.parse_track.specs.declared.region.Jump.TheVariants as word
use Rattle.parse_track.specs.EarlyErrors.{JumpContext, nothing_around, within, wrong_jump, wrong_jumps}
use Rattle.parse_track.specs.Notes.{target_error, delete_error, const_errors, later_protos, args_error, params_error, limit, body_errors, has_rest, notes_expr, notes_exprs, notes_maybe, notes_args, notes_parts, notes_items, notes_operands, notes_tails, notes_tail, notes_key, notes_prop, notes_props, notes_function, notes_params, notes_body, notes_binds, notes_init, notes_each, notes_clauses, notes_stmt, notes_stmts, notes_maybe_stmt, early_error}
use Rattle.parse_track.specs.Told as told
use Rattle.parse_track.specs.Told.{Told, nothing, leaf}
use Rattle.parse_track.specs.Tells.{spelled, spelled_label, has_initializer, function_region, body_region, function_name, in_named, labels_on, labelled_region, tells_expr, tells_exprs, tells_maybe, tells_args, tells_parts, tells_array, tells_operands, tells_tails, tells_tail, tells_key, tells_prop, tells_props, tells_function, tells_params, tells_body, tells_binds, tells_init, tells_each, tells_clauses, tells_stmt, tells_stmts, tells_maybe_stmt, tells_name}
use Rattle.emit_depth_laws.proofs.Assigns.{nil_left, nil_right}
use Rattle.emit_depth_laws.proofs.Jumping.{region_clean, body_clean, declares_pass, no_notes, no_wrong_jump}
use Rattle.emit_depth_laws.proofs.Passing.{IsClean, clean_inside, clean_behind, function_passes, expr_passes, maybe_passes, tail_passes, key_passes, prop_passes, binds_pass, init_passes, each_passes, params_pass}

-- a function that is proper, and has no early error where it stands
pub record IsSound (f : Function) : Type 0 where
  pub proper : ProperFunction whole f
  pub notes : notes_function f ≡ []
  pub around : JumpContext Text
  pub behind : Told Text
  pub clean : IsClean around (tells_function f behind)

abbrev pub AllSound : List Inner → Type 0
AllSound [] = Unit {0}
AllSound (i ∷ is) = IsSound i.func × AllSound is

both : (xs ys : List Inner) → AllSound xs → AllSound ys → AllSound (xs ++ ys)
both [] ys x y = y
both (i ∷ xs) ys x y = (x.0, both xs ys x.1 y)

sound : (f : Function) (a : JumpContext Text) (t : Told Text) → ProperFunction whole f → notes_function f ≡ [] → IsClean a (tells_function f t) → IsSound f
sound f a t p n h = record { proper = p; notes = n; around = a; behind = t; clean = h }

named_sound : (f : Function) (name : Option Named) (a : JumpContext Text) (t : Told Text) → ProperFunction whole f → notes_function f ≡ [] → IsClean a (in_named name (tells_function f) t) → IsSound f
named_sound f None a t p n h = sound f a t p n h
named_sound f (Some name) a t p n h = sound f a nothing p n (clean_inside a (told.Lambda (spelled name)) 0 (tells_function f nothing) t h)

mutual
  expr_inner : (e : Expr) (a : JumpContext Text) (t : Told Text) (around : List ℕ) → Proper whole e → notes_expr e ≡ [] → IsClean a (tells_expr e t) → AllSound (inner_expr e around)
  expr_inner (This at) a t around p n h = tt
  expr_inner (Name name) a t around p n h = tt
  expr_inner (Null at) a t around p n h = tt
  expr_inner (True at) a t around p n h = tt
  expr_inner (False at) a t around p n h = tt
  expr_inner (Number at value) a t around p n h = tt
  expr_inner (Str at end text) a t around p n h = tt
  expr_inner (Template at first parts) a t around p n h = parts_inner parts a t around p n h
  expr_inner (Array at items comma) a t around p n h = items_inner items a t around p.1 n h
  expr_inner (Object at props comma) a t around p n h = props_inner props a t around p.1 (nil_right (later_protos false props) (notes_props props) n) h
  expr_inner (Func at f) a t around p n h = (named_sound f (function_name f) a t p.1 n h, tt)
  expr_inner (Paren at value) a t around p n h = expr_inner value a t around p n h
  expr_inner (Chain head tails) a t around p n h =
      both (inner_expr head around) (inner_tails tails around) (expr_inner head a (tells_tails tails t) around p.1 (nil_left (notes_expr head) (notes_tails tails) n) h)
      (tails_inner tails a t around p.3 (nil_right (notes_expr head) (notes_tails tails) n) (expr_passes a head (tells_tails tails t) h))
  expr_inner (New at callee args) a t around p n h =
      both (inner_expr callee around) (inner_args args around) (expr_inner callee a (tells_args args t) around p.1 (nil_left (notes_expr callee) (notes_args args) n) h)
      (args_inner args a t around p.2 (nil_right (notes_expr callee) (notes_args args) n) (expr_passes a callee (tells_args args t) h))
  expr_inner (Unary at sign operand is_word) a t around p n h = expr_inner operand a t around p.2 (nil_right (delete_error at sign is_word operand) (notes_expr operand) n) h
  expr_inner (Update at sign prefix operand) a t around p n h = expr_inner operand a t around p.2 (nil_right (target_error operand) (notes_expr operand) n) h
  expr_inner (Binary first rest) a t around p n h =
      both (inner_expr first around) (inner_operands rest around) (expr_inner first a (tells_operands rest t) around p.3 (nil_left (notes_expr first) (notes_operands rest) n) h)
      (operands_inner _ rest a t around p.4 (nil_right (notes_expr first) (notes_operands rest) n) (expr_passes a first (tells_operands rest t) h))
  expr_inner (Cond test then_value else_value) a t around p n h =
      let more = nil_right (notes_expr test) (notes_expr then_value ++ notes_expr else_value) n in
      let h1 = expr_passes a test (tells_expr then_value (tells_expr else_value t)) h in
      both (inner_expr test around ++ inner_expr then_value around) (inner_expr else_value around)
      (both (inner_expr test around) (inner_expr then_value around) (expr_inner test a (tells_expr then_value (tells_expr else_value t)) around p.1 (nil_left (notes_expr test) (notes_expr then_value ++ notes_expr else_value) n) h)
      (expr_inner then_value a (tells_expr else_value t) around p.3 (nil_left (notes_expr then_value) (notes_expr else_value) more) h1))
      (expr_inner else_value a t around p.5 (nil_right (notes_expr then_value) (notes_expr else_value) more) (expr_passes a then_value (tells_expr else_value t) h1))
  expr_inner (Assign sign target value) a t around p n h =
      let more = nil_right (target_error target) (notes_expr target ++ notes_expr value) n in
      both (inner_expr target around) (inner_expr value around) (expr_inner target a (tells_expr value t) around p.2 (nil_left (notes_expr target) (notes_expr value) more) h)
      (expr_inner value a t around p.4 (nil_right (notes_expr target) (notes_expr value) more) (expr_passes a target (tells_expr value t) h))
  expr_inner (Comma items) a t around p n h = exprs_inner items a t around p.1 n h

  exprs_inner : (es : Exprs) (a : JumpContext Text) (t : Told Text) (around : List ℕ) → ProperExprs whole es → notes_exprs es ≡ [] → IsClean a (tells_exprs es t) → AllSound (inner_exprs es around)
  exprs_inner no_exprs a t around p n h = tt
  exprs_inner (more_exprs e rest) a t around p n h =
      both (inner_expr e around) (inner_exprs rest around) (expr_inner e a (tells_exprs rest t) around p.1 (nil_left (notes_expr e) (notes_exprs rest) n) h)
      (exprs_inner rest a t around p.2 (nil_right (notes_expr e) (notes_exprs rest) n) (expr_passes a e (tells_exprs rest t) h))

  maybe_inner : (e : MaybeExpr) (a : JumpContext Text) (t : Told Text) (around : List ℕ) → ProperMaybe whole e → notes_maybe e ≡ [] → IsClean a (tells_maybe e t) → AllSound (inner_maybe e around)
  maybe_inner no_expr a t around p n h = tt
  maybe_inner (some_expr e) a t around p n h = expr_inner e a t around p.1 n h

  args_inner : (args : MaybeArgs) (a : JumpContext Text) (t : Told Text) (around : List ℕ) → ProperArgs whole args → notes_args args ≡ [] → IsClean a (tells_args args t) → AllSound (inner_args args around)
  args_inner no_args a t around p n h = tt
  args_inner (some_args items comma) a t around p n h = exprs_inner items a t around p.1 (nil_right (args_error limit items) (notes_exprs items) n) h

  parts_inner : (ps : Parts) (a : JumpContext Text) (t : Told Text) (around : List ℕ) → ProperParts whole ps → notes_parts ps ≡ [] → IsClean a (tells_parts ps t) → AllSound (inner_parts ps around)
  parts_inner no_parts a t around p n h = tt
  parts_inner (more_parts value behind rest) a t around p n h =
      both (inner_expr value around) (inner_parts rest around) (expr_inner value a (tells_parts rest t) around p.0 (nil_left (notes_expr value) (notes_parts rest) n) h)
      (parts_inner rest a t around p.1 (nil_right (notes_expr value) (notes_parts rest) n) (expr_passes a value (tells_parts rest t) h))

  items_inner : (items : Items) (a : JumpContext Text) (t : Told Text) (around : List ℕ) → ProperItems whole items → notes_items items ≡ [] → IsClean a (tells_array items t) → AllSound (inner_items items around)
  items_inner no_items a t around p n h = tt
  items_inner (more_items item rest) a t around p n h =
      both (inner_maybe item around) (inner_items rest around) (maybe_inner item a (tells_array rest t) around p.0 (nil_left (notes_maybe item) (notes_items rest) n) h)
      (items_inner rest a t around p.1 (nil_right (notes_maybe item) (notes_items rest) n) (maybe_passes a item (tells_array rest t) h))

  operands_inner : (level : ℕ) (rest : Operands) (a : JumpContext Text) (t : Told Text) (around : List ℕ) → ProperOperands whole level rest → notes_operands rest ≡ [] → IsClean a (tells_operands rest t) → AllSound (inner_operands rest around)
  operands_inner level no_operands a t around p n h = tt
  operands_inner level (more_operands sign is_word value rest) a t around p n h =
      both (inner_expr value around) (inner_operands rest around) (expr_inner value a (tells_operands rest t) around p.2 (nil_left (notes_expr value) (notes_operands rest) n) h)
      (operands_inner level rest a t around p.3 (nil_right (notes_expr value) (notes_operands rest) n) (expr_passes a value (tells_operands rest t) h))

  tails_inner : (tails : Tails) (a : JumpContext Text) (t : Told Text) (around : List ℕ) → ProperTails whole tails → notes_tails tails ≡ [] → IsClean a (tells_tails tails t) → AllSound (inner_tails tails around)
  tails_inner no_tails a t around p n h = tt
  tails_inner (more_tails u rest) a t around p n h =
      both (inner_tail u around) (inner_tails rest around) (tail_inner u a (tells_tails rest t) around p.0 (nil_left (notes_tail u) (notes_tails rest) n) h)
      (tails_inner rest a t around p.1 (nil_right (notes_tail u) (notes_tails rest) n) (tail_passes a u (tells_tails rest t) h))

  tail_inner : (u : Tail) (a : JumpContext Text) (t : Told Text) (around : List ℕ) → ProperTail whole u → notes_tail u ≡ [] → IsClean a (tells_tail u t) → AllSound (inner_tail u around)
  tail_inner (Dot name) a t around p n h = tt
  tail_inner (Index key) a t around p n h = expr_inner key a t around p n h
  tail_inner (Call items comma) a t around p n h = exprs_inner items a t around p.1 (nil_right (args_error limit items) (notes_exprs items) n) h

  key_inner : (key : Key) (a : JumpContext Text) (t : Told Text) (around : List ℕ) → ProperKey whole key → notes_key key ≡ [] → IsClean a (tells_key key t) → AllSound (inner_key key around)
  key_inner (WordKey name) a t around p n h = tt
  key_inner (StrKey name) a t around p n h = tt
  key_inner (NumberKey at number) a t around p n h = tt
  key_inner (ComputedKey e) a t around p n h = expr_inner e a t around p.1 n h

  prop_inner : (q : Prop) (a : JumpContext Text) (t : Told Text) (around : List ℕ) → ProperProp whole q → notes_prop q ≡ [] → IsClean a (tells_prop q t) → AllSound (inner_prop q around)
  prop_inner (Short name) a t around p n h = tt
  prop_inner (Pair key value) a t around p n h =
      both (inner_key key around) (inner_expr value around) (key_inner key a (tells_expr value t) around p.0 (nil_left (notes_key key) (notes_expr value) n) h)
      (expr_inner value a t around p.2 (nil_right (notes_key key) (notes_expr value) n) (key_passes a key (tells_expr value t) h))
  prop_inner (Method key f) a t around p n h = both (inner_key key around) _ (key_inner key a (tells_function f t) around p.0 (nil_left (notes_key key) (notes_function f) n) h) (sound f a t p.2 (nil_right (notes_key key) (notes_function f) n) (key_passes a key (tells_function f t) h), tt)
  prop_inner (Get key f) a t around p n h = both (inner_key key around) _ (key_inner key a (tells_function f t) around p.0 (nil_left (notes_key key) (notes_function f) n) h) (sound f a t p.2 (nil_right (notes_key key) (notes_function f) n) (key_passes a key (tells_function f t) h), tt)
  prop_inner (Set key f) a t around p n h = both (inner_key key around) _ (key_inner key a (tells_function f t) around p.0 (nil_left (notes_key key) (notes_function f) n) h) (sound f a t p.2 (nil_right (notes_key key) (notes_function f) n) (key_passes a key (tells_function f t) h), tt)

  props_inner : (ps : Props) (a : JumpContext Text) (t : Told Text) (around : List ℕ) → ProperProps whole ps → notes_props ps ≡ [] → IsClean a (tells_props ps t) → AllSound (inner_props ps around)
  props_inner no_props a t around p n h = tt
  props_inner (more_props q rest) a t around p n h =
      both (inner_prop q around) (inner_props rest around) (prop_inner q a (tells_props rest t) around p.0 (nil_left (notes_prop q) (notes_props rest) n) h)
      (props_inner rest a t around p.1 (nil_right (notes_prop q) (notes_props rest) n) (prop_passes a q (tells_props rest t) h))

-- ---- parts of statements

option_inner : (e : MaybeExpr) (a : JumpContext Text) (t : Told Text) (around : List ℕ) → ProperOption whole e → notes_maybe e ≡ [] → IsClean a (tells_maybe e t) → AllSound (inner_maybe e around)
option_inner no_expr a t around p n h = tt
option_inner (some_expr e) a t around p n h = expr_inner e a t around p n h

-- the names that are declared change nothing
binds_inner : (kind : Decl) (bs : Binds) (a : JumpContext Text) (t : Told Text) (around : List ℕ) → ProperBinds whole bs → notes_binds bs ≡ [] → IsClean a (tells_binds kind bs t) → AllSound (inner_binds bs around)
binds_inner kind no_binds a t around p n h = tt
binds_inner kind (more_binds name value rest) a t around p n h =
    both (inner_maybe value around) (inner_binds rest around) (maybe_inner value a (tells_binds kind rest t) around p.0 (nil_left (notes_maybe value) (notes_binds rest) n) h)
    (binds_inner kind rest a t around p.1 (nil_right (notes_maybe value) (notes_binds rest) n) (maybe_passes a value (tells_binds kind rest t) h))

init_inner : (init : Init) (a : JumpContext Text) (t : Told Text) (around : List ℕ) → ProperInit whole init → notes_init init ≡ [] → IsClean a (tells_init init t) → AllSound (inner_init init around)
init_inner NoInit a t around p n h = tt
init_inner (ValueInit e) a t around p n h = expr_inner e a t around p.1 n h
init_inner (BindsInit kind bs) a t around p n h = binds_inner kind bs a t around p.2 (nil_right (const_errors kind bs) (notes_binds bs) n) h

each_inner : (each : Each) (a : JumpContext Text) (t : Told Text) (around : List ℕ) → ProperEach whole each → notes_each each ≡ [] → IsClean a (tells_each each t) → AllSound (inner_each each around)
each_inner (TargetEach e) a t around p n h = expr_inner e a t around p.1 (nil_right (target_error e) (notes_expr e) n) h
each_inner (BindEach kind name) a t around p n h = tt

params_inner : (ps : Params) (a : JumpContext Text) (t : Told Text) (around : List ℕ) → ProperParams whole ps → notes_params ps ≡ [] → IsClean a (tells_params ps t) → AllSound (inner_params ps around)
params_inner no_params a t around p n h = tt
params_inner (more_params name value rest more) a t around p n h =
    both (inner_maybe value around) (inner_params more around) (maybe_inner value a (tells_params more t) around p.0 (nil_left (notes_maybe value) (notes_params more) n) h)
    (params_inner more a t around p.1 (nil_right (notes_maybe value) (notes_params more) n) (maybe_passes a value (tells_params more t) h))

-- ---- statements

-- the functions in a statement, and nothing wrong after it
record Inside (a : JumpContext Text) (t : Told Text) (is : List Inner) : Type 0 where
  all : AllSound is
  behind : IsClean a t

mutual
  stmt_inner : (inside top : Bool) (s : Stmt) (a : JumpContext Text) (t : Told Text) (next : ℕ) (around : List ℕ) → ProperStmt whole inside s → notes_stmt s ≡ [] → IsClean a (tells_stmt top s t) → Inside a t (inner_stmt s next around)
  stmt_inner inside top (Block items) a t next around p n h = record {
    all = (stmts_inner inside false items a nothing _ _ p n (clean_inside a told.Block 0 (tells_stmts false items nothing) t h)).all;
    behind = clean_behind a told.Block 0 (tells_stmts false items nothing) t h;
  }
  stmt_inner inside top Empty a t next around p n h = record { all = tt; behind = h }
  stmt_inner inside top (Debugger semi) a t next around p n h = record { all = tt; behind = h }
  stmt_inner inside top (Binding kind bs semi) a t next around p n h = record { all = binds_inner kind bs a t around p.1 (nil_right (const_errors kind bs) (notes_binds bs) n) h; behind = binds_pass a kind bs t h }
  stmt_inner inside top (tree.Value value semi) a t next around p n h = record { all = expr_inner value a t around p.2 n h; behind = expr_passes a value t h }
  stmt_inner inside top (If test then_stmt else_stmt) a t next around p n h =
      let more = nil_right (notes_expr test) (notes_stmt then_stmt ++ notes_maybe_stmt else_stmt) n in
      let first = stmt_inner inside false then_stmt a (tells_maybe_stmt else_stmt t) next around p.2 (nil_left (notes_stmt then_stmt) (notes_maybe_stmt else_stmt) more) (expr_passes a test (tells_stmt false then_stmt (tells_maybe_stmt else_stmt t)) h) in
      let second = else_inner inside else_stmt a t _ around p.4 (nil_right (notes_stmt then_stmt) (notes_maybe_stmt else_stmt) more) first.behind in
      record {
        all = both (inner_expr test around ++ inner_stmt then_stmt next around) _ (both (inner_expr test around) (inner_stmt then_stmt next around) (expr_inner test a (tells_stmt false then_stmt (tells_maybe_stmt else_stmt t)) around p.0 (nil_left (notes_expr test) (notes_stmt then_stmt ++ notes_maybe_stmt else_stmt) n) h) first.all) second.all;
        behind = second.behind;
      }
  stmt_inner inside top (Do body test semi) a t next around p n h =
      let in_loop : Told Text = tells_stmt false body (tells_expr test nothing) in
      let beside : JumpContext Text = record a { loop = true; leaves = true } in
      let first = stmt_inner inside false body beside (tells_expr test nothing) next around p.1 (nil_left (notes_stmt body) (notes_expr test) n) (clean_inside a told.Loop 0 in_loop t h) in
      record { all = both (inner_stmt body next around) (inner_expr test around) first.all (expr_inner test beside nothing around p.2 (nil_right (notes_stmt body) (notes_expr test) n) first.behind); behind = clean_behind a told.Loop 0 in_loop t h }
  stmt_inner inside top (While test body) a t next around p n h =
      let in_loop : Told Text = tells_expr test (tells_stmt false body nothing) in
      let beside : JumpContext Text = record a { loop = true; leaves = true } in
      let within_loop : IsClean beside in_loop = clean_inside a told.Loop 0 in_loop t h in
      let second = stmt_inner inside false body beside nothing next around p.2 (nil_right (notes_expr test) (notes_stmt body) n) (expr_passes beside test (tells_stmt false body nothing) within_loop) in
      record { all = both (inner_expr test around) (inner_stmt body next around) (expr_inner test beside (tells_stmt false body nothing) around p.0 (nil_left (notes_expr test) (notes_stmt body) n) within_loop) second.all; behind = clean_behind a told.Loop 0 in_loop t h }
  stmt_inner inside top (For init test update body) a t next around p n h =
      let told_body : Told Text = tells_stmt false body nothing in
      let in_head : Told Text = tells_init init (tells_maybe test (tells_maybe update told_body)) in
      let in_loop : Told Text = told.inner told.ForHead 0 in_head nothing in
      let beside : JumpContext Text = record a { loop = true; leaves = true } in
      let head : IsClean beside in_head = clean_inside beside told.ForHead 0 in_head nothing (clean_inside a told.Loop 0 in_loop t h) in
      let n1 = nil_right (notes_init init) (notes_maybe test ++ (notes_maybe update ++ notes_stmt body)) n in
      let n2 = nil_right (notes_maybe test) (notes_maybe update ++ notes_stmt body) n1 in
      let h1 = init_passes beside init (tells_maybe test (tells_maybe update told_body)) head in
      let h2 = maybe_passes beside test (tells_maybe update told_body) h1 in
      let last = stmt_inner inside false body beside nothing _ _ p.4 (nil_right (notes_maybe update) (notes_stmt body) n2) (maybe_passes beside update told_body h2) in
      record {
        all = both _ _ (both _ _ (both _ _ (init_inner init beside (tells_maybe test (tells_maybe update told_body)) _ p.0 (nil_left (notes_init init) (notes_maybe test ++ (notes_maybe update ++ notes_stmt body)) n) head)
            (option_inner test beside (tells_maybe update told_body) _ p.1 (nil_left (notes_maybe test) (notes_maybe update ++ notes_stmt body) n1) h1))
            (option_inner update beside told_body _ p.2 (nil_left (notes_maybe update) (notes_stmt body) n2) h2)) last.all;
        behind = clean_behind a told.Loop 0 in_loop t h;
      }
  stmt_inner inside top (ForIn each over body) a t next around p n h =
      let told_body : Told Text = tells_stmt false body nothing in
      let in_head : Told Text = tells_each each (tells_expr over told_body) in
      let in_loop : Told Text = told.inner told.ForHead 0 in_head nothing in
      let beside : JumpContext Text = record a { loop = true; leaves = true } in
      let head : IsClean beside in_head = clean_inside beside told.ForHead 0 in_head nothing (clean_inside a told.Loop 0 in_loop t h) in
      let n1 = nil_right (notes_each each) (notes_expr over ++ notes_stmt body) n in
      let h1 = each_passes beside each (tells_expr over told_body) head in
      let last = stmt_inner inside false body beside nothing _ _ p.3 (nil_right (notes_expr over) (notes_stmt body) n1) (expr_passes beside over told_body h1) in
      record {
        all = both _ _ (both _ _ (each_inner each beside (tells_expr over told_body) _ p.0 (nil_left (notes_each each) (notes_expr over ++ notes_stmt body) n) head)
            (expr_inner over beside told_body _ p.1 (nil_left (notes_expr over) (notes_stmt body) n1) h1)) last.all;
        behind = clean_behind a told.Loop 0 in_loop t h;
      }
  stmt_inner inside top (Continue at label semi) a t next around p n h = record { all = tt; behind = nil_right (wrong_jump bytes_eq a (told.Jumped word.Continue at (spelled_label label))) (wrong_jumps bytes_eq a t) h }
  stmt_inner inside top (Break at label semi) a t next around p n h = record { all = tt; behind = nil_right (wrong_jump bytes_eq a (told.Jumped word.Break at (spelled_label label))) (wrong_jumps bytes_eq a t) h }
  stmt_inner inside top (Return value semi) a t next around p n h = record { all = option_inner value a t around p.1 n h; behind = maybe_passes a value t h }
  stmt_inner inside top (Throw value semi) a t next around p n h = record { all = expr_inner value a t around p n h; behind = expr_passes a value t h }
  stmt_inner inside top (Switch of clauses) a t next around p n h =
      let in_switch : Told Text = tells_clauses clauses nothing in
      let region : IsClean a (told.inner told.Switch 0 in_switch t) = expr_passes a of (told.inner told.Switch 0 in_switch t) h in
      record {
        all = both _ _ (expr_inner of a (told.inner told.Switch 0 in_switch t) around p.0 (nil_left (notes_expr of) (notes_clauses clauses) n) h)
            (clauses_inner inside clauses (record a { leaves = true }) nothing _ _ p.2 (nil_right (notes_expr of) (notes_clauses clauses) n) (clean_inside a told.Switch 0 in_switch t region)).all;
        behind = clean_behind a told.Switch 0 in_switch t region;
      }
  stmt_inner inside top (Label name body) a t next around p n h =
      let region : Told Text = labelled_region (labels_on body) (tells_stmt false body nothing) in
      let beside : JumpContext Text = within (told.Label (spelled name)) region a in
      record {
        all = (stmt_inner inside false body beside nothing next around p.1 n (region_clean beside (labels_on body) (tells_stmt false body nothing) (clean_inside a (told.Label (spelled name)) 0 region t h))).all;
        behind = clean_behind a (told.Label (spelled name)) 0 region t h;
      }
  stmt_inner inside top (Try body None handler) a t next around p n h =
      let second : Told Text = told.inner told.Block 0 (tells_stmts false handler nothing) t in
      let later : IsClean a second = clean_behind a told.Block 0 (tells_stmts false body nothing) second h in
      record {
        all = both _ _ (stmts_inner inside false body a nothing _ _ p.0 (nil_left (notes_stmts body) (notes_stmts handler) n) (clean_inside a told.Block 0 (tells_stmts false body nothing) second h)).all
            (stmts_inner inside false handler a nothing _ _ p.1 (nil_right (notes_stmts body) (notes_stmts handler) n) (clean_inside a told.Block 0 (tells_stmts false handler nothing) t later)).all;
        behind = clean_behind a told.Block 0 (tells_stmts false handler nothing) t later;
      }
  stmt_inner inside top (Try body (Some name) handler) a t next around p n h =
      let block : Told Text = told.inner told.Block 0 (tells_stmts false handler nothing) nothing in
      let in_catch : Told Text = tells_name how.Catch name block in
      let second : Told Text = told.inner told.Catch 0 in_catch t in
      let later : IsClean a second = clean_behind a told.Block 0 (tells_stmts false body nothing) second h in
      record {
        all = both _ _ (stmts_inner inside false body a nothing _ _ p.0 (nil_left (notes_stmts body) (notes_stmts handler) n) (clean_inside a told.Block 0 (tells_stmts false body nothing) second h)).all
            (stmts_inner inside false handler a nothing _ _ p.1 (nil_right (notes_stmts body) (notes_stmts handler) n) (clean_inside a told.Block 0 (tells_stmts false handler nothing) nothing (clean_inside a told.Catch 0 in_catch t later))).all;
        behind = clean_behind a told.Catch 0 in_catch t later;
      }
  stmt_inner inside top (Declared f) a t next around p n h =
      let here : IsClean a (tells_function f t) = declares_pass a top (function_name f) (tells_function f t) h in
      record { all = (sound f a t p.1 n here, tt); behind = function_passes a f t here }

  stmts_inner : (inside top : Bool) (ss : Stmts) (a : JumpContext Text) (t : Told Text) (next : ℕ) (around : List ℕ) → ProperStmts whole inside ss → notes_stmts ss ≡ [] → IsClean a (tells_stmts top ss t) → Inside a t (inner_stmts ss next around)
  stmts_inner inside top no_stmts a t next around p n h = record { all = tt; behind = h }
  stmts_inner inside top (more_stmts s rest) a t next around p n h =
      let first = stmt_inner inside top s a (tells_stmts top rest t) next around p.0 (nil_left (notes_stmt s) (notes_stmts rest) n) h in
      let more = stmts_inner inside top rest a t _ around p.1 (nil_right (notes_stmt s) (notes_stmts rest) n) first.behind in
      record { all = both (inner_stmt s next around) _ first.all more.all; behind = more.behind }

  else_inner : (inside : Bool) (x : MaybeStmt) (a : JumpContext Text) (t : Told Text) (next : ℕ) (around : List ℕ) → ProperElse whole inside x → notes_maybe_stmt x ≡ [] → IsClean a (tells_maybe_stmt x t) → Inside a t (inner_else x next around)
  else_inner inside no_stmt a t next around p n h = record { all = tt; behind = h }
  else_inner inside (some_stmt s) a t next around p n h = stmt_inner inside false s a t next around p.1 n h

  clauses_inner : (inside : Bool) (cs : Clauses) (a : JumpContext Text) (t : Told Text) (next : ℕ) (around : List ℕ) → ProperClauses whole inside cs → notes_clauses cs ≡ [] → IsClean a (tells_clauses cs t) → Inside a t (inner_clauses cs next around)
  clauses_inner inside no_clauses a t next around p n h = record { all = tt; behind = h }
  clauses_inner inside (more_clauses test items rest) a t next around p n h =
      let n1 = nil_right (notes_maybe test) (notes_stmts items ++ notes_clauses rest) n in
      let first = stmts_inner inside false items a (tells_clauses rest t) next around p.1 (nil_left (notes_stmts items) (notes_clauses rest) n1) (maybe_passes a test (tells_stmts false items (tells_clauses rest t)) h) in
      let more = clauses_inner inside rest a t _ around p.2 (nil_right (notes_stmts items) (notes_clauses rest) n1) first.behind in
      record { all = both _ _ (both _ _ (option_inner test a (tells_stmts false items (tells_clauses rest t)) around p.0 (nil_left (notes_maybe test) (notes_stmts items ++ notes_clauses rest) n) h) first.all) more.all; behind = more.behind }

-- ---- functions and scripts

body_inner : (form : FuncForm) (initialized : Bool) (body : Body) (a : JumpContext Text) (next : ℕ) (around : List ℕ) → ProperBody whole form body → notes_body body ≡ [] → IsClean a (tells_body body) → AllSound (inner_body initialized body next around)
body_inner form initialized (ShortBody value) a next around p n h = expr_inner value a nothing around p.3 n h
body_inner form initialized (BracedBody items) a next around p n h = (stmts_inner true true items a nothing _ _ p n h).all

-- the functions directly in a sound function
pub function_inner : (kind : FuncKind) (name : Option Text) (f : Function) → IsSound f → AllSound (inner_function kind name f)
function_inner kind name (function form start end given ps comma bare body) s =
    let in_body : Told Text = body_region (has_initializer ps) (tells_body body) in
    let in_function : Told Text = tells_params ps in_body in
    let here : JumpContext Text = within (function_region form) in_function s.around in
    let clean : IsClean here in_function = clean_inside s.around (function_region form) start in_function s.behind s.clean in
    let n1 = nil_right (params_error limit ps) (notes_params ps ++ (body_errors (has_initializer ps || has_rest ps) body ++ notes_body body)) s.notes in
    let n2 = nil_right (notes_params ps) (body_errors (has_initializer ps || has_rest ps) body ++ notes_body body) n1 in
    both _ _ (params_inner ps here in_body _ s.proper.3 (nil_left (notes_params ps) (body_errors (has_initializer ps || has_rest ps) body ++ notes_body body) n1) clean)
    (body_inner form _ body here _ _ s.proper.4 (nil_right (body_errors (has_initializer ps || has_rest ps) body) (notes_body body) n2) (body_clean here (has_initializer ps) (tells_body body) (params_pass here ps in_body clean)))

-- the functions directly in a proper script without an early error
pub script_inner : (items : Stmts) → ProperStmts whole false items → early_error items ≡ None → AllSound (inner_script items)
script_inner items p h = (stmts_inner false true items nothing_around nothing _ _ p (no_notes items h) (clean_inside nothing_around told.Script 0 (tells_stmts true items nothing) nothing (no_wrong_jump items h))).all
