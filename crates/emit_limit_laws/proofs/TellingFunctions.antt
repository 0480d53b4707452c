-- A part of a tree tells a region of a function for each function in it, at all depths.
use Rattle.std.proofs.Common.{◌≡◌, ℕ, ◌+◌, Bool, true, false, cond, Option, None, Some, List, [], ◌∷◌, ◌++◌, codes, refl, ap, subst, arith}
use Rattle.script_grammar.specs.declared.token.Decl.{Decl}
use Rattle.script_grammar.specs.Kinds.{is_arrow_form}
use Rattle.script_grammar.specs.Tree.{Named, Expr, Exprs, no_exprs, more_exprs, MaybeExpr, no_expr, some_expr, MaybeArgs, no_args, some_args, Parts, no_parts, more_parts, Items, no_items, more_items, Operands, no_operands, more_operands, Tail, Tails, no_tails, more_tails, Key, Prop, Props, no_props, more_props, Function, function, Params, no_params, more_params, Body, Binds, no_binds, more_binds, Init, Each, Clauses, no_clauses, more_clauses, Stmt, Stmts, no_stmts, more_stmts, MaybeStmt, no_stmt, some_stmt}
use Rattle.script_grammar.specs.Tree as tree
use Rattle.stencil_data.specs.declared.functions.FuncKind.{FuncKind}
use Rattle.parse_track.specs.Counted.{function_count}
use Rattle.parse_track.specs.RegionNames.{is_function}
use Rattle.parse_track.specs.Told as told
use Rattle.parse_track.specs.Told.{Region, Leaf, Told, nothing, leaf, inner}
use Rattle.parse_track.specs.Tells as tells
use Rattle.parse_track.specs.Tells.{body_region, in_named, declares_function, labels_on, labelled_region, tells_expr, tells_exprs, tells_maybe, tells_args, tells_parts, tells_array, tells_operands, tells_tails, tells_tail, tells_key, tells_prop, tells_props, tells_function, tells_params, tells_body, tells_binds, tells_init, tells_each, tells_clauses, tells_stmt, tells_stmts, tells_maybe_stmt, tells_script}
use Rattle.scope_analysis.specs.DeclaredNames.{Text, has_initializer}
use Rattle.scope_analysis.specs.Functions.{Inner, inner_expr, inner_exprs, inner_maybe, inner_args, inner_parts, inner_items, inner_operands, inner_tails, inner_tail, inner_key, inner_prop, inner_props, inner_binds, inner_init, inner_each, inner_stmt, inner_stmts, inner_else, inner_clauses, inner_params, inner_body, params_around, inner_function}
use Rattle.compile_specs.specs.Counted.{Counts, no_functions, more_functions, HasFunctions}

-- ---- counts that are put together

counts_as : {is : List Inner} {n m : ℕ} → n ≡ m → Counts is n → Counts is m
counts_as {is} e c = subst (λ (k : ℕ). Counts is k) e c

counts_both : (is js : List Inner) (n m : ℕ) → Counts is n → Counts js m → Counts (is ++ js) (n + m)
counts_both is js n m no_functions k = counts_as (omega arith) k
counts_both is js n m (more_functions f rest inside after c d) k =
    counts_as (omega arith) (more_functions f (rest ++ js) inside (after + m) c (counts_both rest js after m d k))

-- what is told in front of something has as many functions more as these, and all in them, are
record Adds (is : List Inner) (t u : Told tells.Text) : Type 0 where
  more : ℕ
  counts : Counts is more
  sum : function_count u ≡ more + function_count t

none : (t : Told tells.Text) → Adds [] t t
none t = record { more = 0; counts = no_functions; sum = omega arith }

both : {is js : List Inner} {t u v : Told tells.Text} → Adds is u v → Adds js t u → Adds (is ++ js) t v
both {is} {js} a b =
    let e = a.sum in
    let f = b.sum in
    record { more = a.more + b.more; counts = counts_both is js a.more b.more a.counts b.counts; sum = omega (arith, e, f) }

past : {is : List Inner} {t u : Told tells.Text} (l : Leaf tells.Text) → Adds is t u → Adds is t (leaf l u)
past l a = record { more = a.more; counts = a.counts; sum = a.sum }

use_of : (text : Text) (t : Told tells.Text) → Adds [] t (leaf (told.Used text) t)
use_of text t = past (told.Used text) (none t)

abbrev one_if : Bool → ℕ
one_if b = cond b 1 0

-- a region that is no function's
within : {is : List Inner} {i : Told tells.Text} (k : Region tells.Text) (at : ℕ) (t : Told tells.Text) → is_function k ≡ false → Adds is nothing i → Adds is t (inner k at i t)
within {i = i} k at t other a =
    let e = a.sum in
    let f = ap one_if other in
    record { more = a.more; counts = a.counts; sum = omega (arith, e, f) }

-- ---- functions

is_one : (arrow : Bool) → one_if (is_function {A = tells.Text} (cond arrow told.Arrow told.Function)) ≡ 1
is_one true = refl
is_one false = refl

one : {is : List Inner} {i : Told tells.Text} (f : Inner) (arrow : Bool) (at : ℕ) (t : Told tells.Text) → is ≡ inner_function f.kind f.name f.func → Adds is nothing i → Adds (f ∷ []) t (inner (cond arrow told.Arrow told.Function) at i t)
one f arrow at t e a =
    let s = a.sum in
    let g = is_one arrow in
    record {
      more = 1 + a.more + 0;
      counts = more_functions f [] a.more 0 (subst (λ (is : List Inner). Counts is a.more) e a.counts) no_functions;
      sum = omega (arith, s, g);
    }

with_body : {is : List Inner} {i : Told tells.Text} (own : Bool) → Adds is nothing i → Adds is nothing (body_region own i)
with_body true a = within told.VarBody 0 nothing refl a
with_body false a = a

named : {is : List Inner} (name : Option Named) (f : Function) (t : Told tells.Text) → Adds is nothing (tells_function f nothing) → Adds is t (tells_function f t) → Adds is t (in_named name (tells_function f) t)
named None f t a b = b
named (Some name) f t a b = within (told.Lambda (tells.spelled name)) 0 t refl a

declared : {is : List Inner} {t u : Told tells.Text} (top : Bool) (name : Option Named) → Adds is t u → Adds is t (declares_function top name u)
declared top None a = a
declared top (Some name) a = past (told.Declared (tells.function_declares top) (tells.spelled name)) a

labelled : {is : List Inner} {i : Told tells.Text} (on : Bool) → Adds is nothing i → Adds is nothing (labelled_region on i)
labelled true a = a
labelled false a = within told.Block 0 nothing refl a

-- ---- parts, one by one

mutual
  adds : (x : Expr) (around : List ℕ) (t : Told tells.Text) → Adds (inner_expr x around) t (tells_expr x t)
  adds (tree.This at) around t = use_of (codes ".this") t
  adds (tree.Name name) around t = use_of name.text t
  adds (tree.Null at) around t = none t
  adds (tree.True at) around t = none t
  adds (tree.False at) around t = none t
  adds (tree.Number at value) around t = none t
  adds (tree.Str at end text) around t = none t
  adds (tree.Template at first parts) around t = adds_parts parts around t
  adds (tree.Array at items comma) around t = adds_items items around t
  adds (tree.Object at props comma) around t = adds_props props around t
  adds (tree.Func at f) around t = named (tells.function_name f) f t (adds_function _ _ around f nothing) (adds_function _ _ around f t)
  adds (tree.Paren at value) around t = adds value around t
  adds (tree.Chain head tails) around t = both (adds head around _) (adds_tails tails around t)
  adds (tree.New at callee args) around t = both (adds callee around _) (adds_args args around t)
  adds (tree.Unary at op operand is_word) around t = adds operand around t
  adds (tree.Update at op prefix operand) around t = adds operand around t
  adds (tree.Binary first rest) around t = both (adds first around _) (adds_operands rest around t)
  adds (tree.Cond test then_value else_value) around t = both (both (adds test around _) (adds then_value around _)) (adds else_value around t)
  adds (tree.Assign op target value) around t = both (adds target around _) (adds value around t)
  adds (tree.Comma items) around t = adds_exprs items around t

  adds_exprs : (x : Exprs) (around : List ℕ) (t : Told tells.Text) → Adds (inner_exprs x around) t (tells_exprs x t)
  adds_exprs no_exprs around t = none t
  adds_exprs (more_exprs e rest) around t = both (adds e around _) (adds_exprs rest around t)

  adds_maybe : (x : MaybeExpr) (around : List ℕ) (t : Told tells.Text) → Adds (inner_maybe x around) t (tells_maybe x t)
  adds_maybe no_expr around t = none t
  adds_maybe (some_expr e) around t = adds e around t

  adds_args : (x : MaybeArgs) (around : List ℕ) (t : Told tells.Text) → Adds (inner_args x around) t (tells_args x t)
  adds_args no_args around t = none t
  adds_args (some_args items comma) around t = adds_exprs items around t

  adds_parts : (x : Parts) (around : List ℕ) (t : Told tells.Text) → Adds (inner_parts x around) t (tells_parts x t)
  adds_parts no_parts around t = none t
  adds_parts (more_parts value behind rest) around t = both (adds value around _) (adds_parts rest around t)

  adds_items : (x : Items) (around : List ℕ) (t : Told tells.Text) → Adds (inner_items x around) t (tells_array x t)
  adds_items no_items around t = none t
  adds_items (more_items item rest) around t = both (adds_maybe item around _) (adds_items rest around t)

  adds_operands : (x : Operands) (around : List ℕ) (t : Told tells.Text) → Adds (inner_operands x around) t (tells_operands x t)
  adds_operands no_operands around t = none t
  adds_operands (more_operands op is_word value rest) around t = both (adds value around _) (adds_operands rest around t)

  adds_tails : (x : Tails) (around : List ℕ) (t : Told tells.Text) → Adds (inner_tails x around) t (tells_tails x t)
  adds_tails no_tails around t = none t
  adds_tails (more_tails l rest) around t = both (adds_tail l around _) (adds_tails rest around t)

  adds_tail : (x : Tail) (around : List ℕ) (t : Told tells.Text) → Adds (inner_tail x around) t (tells_tail x t)
  adds_tail (tree.Dot text) around t = none t
  adds_tail (tree.Index e) around t = adds e around t
  adds_tail (tree.Call items comma) around t = adds_exprs items around t

  adds_key : (x : Key) (around : List ℕ) (t : Told tells.Text) → Adds (inner_key x around) t (tells_key x t)
  adds_key (tree.WordKey name) around t = none t
  adds_key (tree.StrKey name) around t = none t
  adds_key (tree.NumberKey at value) around t = none t
  adds_key (tree.ComputedKey e) around t = adds e around t

  adds_prop : (x : Prop) (around : List ℕ) (t : Told tells.Text) → Adds (inner_prop x around) t (tells_prop x t)
  adds_prop (tree.Short name) around t = use_of name.text t
  adds_prop (tree.Pair key value) around t = both (adds_key key around _) (adds value around t)
  adds_prop (tree.Method key f) around t = both (adds_key key around _) (adds_function _ _ around f t)
  adds_prop (tree.Get key f) around t = both (adds_key key around _) (adds_function _ _ around f t)
  adds_prop (tree.Set key f) around t = both (adds_key key around _) (adds_function _ _ around f t)

  adds_props : (x : Props) (around : List ℕ) (t : Told tells.Text) → Adds (inner_props x around) t (tells_props x t)
  adds_props no_props around t = none t
  adds_props (more_props p rest) around t = both (adds_prop p around _) (adds_props rest around t)

  -- a function, whatever its kind and name
  adds_function : (kind : FuncKind) (name : Option Text) (around : List ℕ) (f : Function) (t : Told tells.Text)
      → Adds (record { func = f; kind = kind; name = name; around = around } ∷ []) t (tells_function f t)
  adds_function kind name around (function form start end who ps comma bare body) t =
      one (record { func = function form start end who ps comma bare body; kind = kind; name = name; around = around }) (is_arrow_form form) start t refl
      (both (adds_params ps (params_around kind name) _) (adds_body (has_initializer ps) (tells.has_initializer ps) body _ (params_around kind name)))

  adds_params : (x : Params) (around : List ℕ) (t : Told tells.Text) → Adds (inner_params x around) t (tells_params x t)
  adds_params no_params around t = none t
  adds_params (more_params name value rest more) around t = past _ (both (adds_maybe value around _) (adds_params more around t))

  adds_body : (initialized own : Bool) (x : Body) (next : ℕ) (around : List ℕ) → Adds (inner_body initialized x next around) nothing (body_region own (tells_body x))
  adds_body initialized own (tree.BracedBody items) next around = with_body own (adds_stmts true items _ _ nothing)
  adds_body initialized own (tree.ShortBody value) next around = with_body own (adds value around nothing)

  adds_binds : (d : Decl) (x : Binds) (around : List ℕ) (t : Told tells.Text) → Adds (inner_binds x around) t (tells_binds d x t)
  adds_binds d no_binds around t = none t
  adds_binds d (more_binds name value rest) around t = past _ (both (adds_maybe value around _) (adds_binds d rest around t))

  adds_init : (x : Init) (around : List ℕ) (t : Told tells.Text) → Adds (inner_init x around) t (tells_init x t)
  adds_init tree.NoInit around t = none t
  adds_init (tree.ValueInit e) around t = adds e around t
  adds_init (tree.BindsInit d binds) around t = adds_binds d binds around t

  adds_each : (x : Each) (around : List ℕ) (t : Told tells.Text) → Adds (inner_each x around) t (tells_each x t)
  adds_each (tree.TargetEach e) around t = adds e around t
  adds_each (tree.BindEach d name) around t = past _ (none t)

  adds_clauses : (x : Clauses) (next : ℕ) (around : List ℕ) (t : Told tells.Text) → Adds (inner_clauses x next around) t (tells_clauses x t)
  adds_clauses no_clauses next around t = none t
  adds_clauses (more_clauses test items rest) next around t = both (both (adds_maybe test around _) (adds_stmts false items _ around _)) (adds_clauses rest _ around t)

  adds_stmt : (top : Bool) (x : Stmt) (next : ℕ) (around : List ℕ) (t : Told tells.Text) → Adds (inner_stmt x next around) t (tells_stmt top x t)
  adds_stmt top (tree.Block items) next around t = within told.Block 0 t refl (adds_stmts false items _ _ nothing)
  adds_stmt top tree.Empty next around t = none t
  adds_stmt top (tree.Debugger semi) next around t = none t
  adds_stmt top (tree.Binding d binds semi) next around t = adds_binds d binds around t
  adds_stmt top (tree.Value e semi) next around t = adds e around t
  adds_stmt top (tree.If test then_stmt else_stmt) next around t = both (both (adds test around _) (adds_stmt false then_stmt _ around _)) (adds_else else_stmt _ around t)
  adds_stmt top (tree.Do body test semi) next around t = within told.Loop 0 t refl (both (adds_stmt false body _ around _) (adds test around nothing))
  adds_stmt top (tree.While test body) next around t = within told.Loop 0 t refl (both (adds test around _) (adds_stmt false body _ around nothing))
  adds_stmt top (tree.For init test update body) next around t =
      within told.Loop 0 t refl (within told.ForHead 0 nothing refl (both (both (both (adds_init init _ _) (adds_maybe test _ _)) (adds_maybe update _ _)) (adds_stmt false body _ _ nothing)))
  adds_stmt top (tree.ForIn each over body) next around t =
      within told.Loop 0 t refl (within told.ForHead 0 nothing refl (both (both (adds_each each _ _) (adds over _ _)) (adds_stmt false body _ _ nothing)))
  adds_stmt top (tree.Continue at label semi) next around t = past _ (none t)
  adds_stmt top (tree.Break at label semi) next around t = past _ (none t)
  adds_stmt top (tree.Return value semi) next around t = adds_maybe value around t
  adds_stmt top (tree.Throw e semi) next around t = adds e around t
  adds_stmt top (tree.Switch e clauses) next around t = both (adds e around _) (within told.Switch 0 t refl (adds_clauses clauses _ _ nothing))
  adds_stmt top (tree.Label name body) next around t = within (told.Label (tells.spelled name)) 0 t refl (labelled (labels_on body) (adds_stmt false body next around nothing))
  adds_stmt top (tree.Try body None handler) next around t =
      both (within told.Block 0 _ refl (adds_stmts false body _ _ nothing)) (within told.Block 0 t refl (adds_stmts false handler _ _ nothing))
  adds_stmt top (tree.Try body (Some name) handler) next around t =
      both (within told.Block 0 _ refl (adds_stmts false body _ _ nothing))
      (within told.Catch 0 t refl (past _ (within told.Block 0 nothing refl (adds_stmts false handler _ _ nothing))))
  adds_stmt top (tree.Declared f) next around t = declared top (tells.function_name f) (adds_function _ _ around f t)

  adds_stmts : (top : Bool) (x : Stmts) (next : ℕ) (around : List ℕ) (t : Told tells.Text) → Adds (inner_stmts x next around) t (tells_stmts top x t)
  adds_stmts top no_stmts next around t = none t
  adds_stmts top (more_stmts s rest) next around t = both (adds_stmt top s next around _) (adds_stmts top rest _ around t)

  adds_else : (x : MaybeStmt) (next : ℕ) (around : List ℕ) (t : Told tells.Text) → Adds (inner_else x next around) t (tells_maybe_stmt x t)
  adds_else no_stmt next around t = none t
  adds_else (some_stmt s) next around t = adds_stmt false s next around t

-- A script, of whatever tree, has as many functions as it tells regions of functions.
pub told_count : (items : Stmts) → HasFunctions items (function_count (tells_script items))
told_count items =
    let a = within told.Script 0 nothing refl (adds_stmts true items 1 (0 ∷ []) nothing) in
    let e = a.sum in
    counts_as (omega (arith, e)) a.counts
