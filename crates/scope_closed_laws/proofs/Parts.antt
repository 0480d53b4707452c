-- The uses of each part of a tree, its functions and where these start are those of what it tells.
use Rattle.std.proofs.Common.{◌≡◌, ℕ, ◌+◌, Bool, true, false, ◌||◌, bytes_eq, None, Some, List, [], ◌∷◌, ◌++◌, refl, sym, ap, ◌∙◌, append_assoc, append-nil}
use Rattle.script_grammar.specs.declared.token.FuncForm.{FuncForm}
use Rattle.script_grammar.specs.declared.token.Decl.{Decl}
use Rattle.script_grammar.specs.Pieces.{whole}
use Rattle.script_grammar.specs.Proper.{Proper, ProperExprs, ProperMaybe, ProperOption, ProperArgs, ProperParts, ProperItems, ProperOperands, ProperTails, ProperTail, ProperKey, ProperProp, ProperProps, ProperFunction, ProperParams, ProperBody, ProperBinds, ProperInit, ProperEach, ProperClauses, ProperStmts, ProperElse, ProperStmt, is_statement}
use Rattle.script_grammar.specs.Tree.{Named, Expr, Exprs, no_exprs, more_exprs, MaybeExpr, no_expr, some_expr, MaybeArgs, no_args, some_args, Parts, no_parts, more_parts, Items, no_items, more_items, Operands, no_operands, more_operands, Tail, Tails, no_tails, more_tails, Key, Prop, Props, no_props, more_props, Function, function, Params, no_params, more_params, Body, BracedBody, ShortBody, Binds, no_binds, more_binds, Init, Each, Clauses, no_clauses, more_clauses, Stmt, Stmts, no_stmts, more_stmts, MaybeStmt, no_stmt, some_stmt}
use Rattle.script_grammar.specs.Tree as tree
use Rattle.stencil_data.specs.declared.functions.FuncKind.TheVariants as func
use Rattle.grammar_start_laws.specs.Started.{Started, started, started_exprs, started_maybe, started_args, started_parts, started_items, started_operands, started_tails, started_tail, started_key, started_prop, started_props, started_function, started_params, started_body, started_binds, started_init, started_each, started_clauses, started_stmt, started_stmts, started_else}
use Rattle.parse_track.specs.declared.region.Declare.TheVariants as how
use Rattle.parse_track.specs.Told as told
use Rattle.parse_track.specs.Told.{Name, Region, Told, nothing, leaf, inner}
use Rattle.parse_track.specs.RegionNames.{is_lexical, directly}
use Rattle.parse_track.specs.EarlyErrors.{has}
use Rattle.parse_track.specs.ClosedNames.{names_of}
use Rattle.parse_track.specs.Tells.{Text, spelled, declared_as, function_declares, body_region, labelled_region, labels_on, tells_expr, tells_exprs, tells_maybe, tells_args, tells_parts, tells_array, tells_operands, tells_tails, tells_tail, tells_key, tells_prop, tells_props, tells_function, tells_params, tells_body, tells_binds, tells_init, tells_each, tells_clauses, tells_stmt, tells_stmts, tells_maybe_stmt}
use Rattle.scope_analysis.specs.DeclaredNames.{has_text, texts_of, lexical_names, clauses_lexical_names, top_lexical_names, init_lexical_names, each_lexical_names, top_var_names, has_initializer}
use Rattle.scope_analysis.specs.Uses.{Uses, uses_both, uses_without, this_text, uses_expr, uses_exprs, uses_maybe, uses_args, uses_parts, uses_items, uses_operands, uses_tails, uses_tail, uses_key, uses_prop, uses_props, uses_function, uses_params, uses_binds, uses_init, uses_each, uses_clauses, uses_stmt, uses_stmts, uses_else}
use Rattle.scope_analysis.specs.Functions.{Inner, enclosed, named_inner, inner_expr, inner_exprs, inner_maybe, inner_args, inner_parts, inner_items, inner_operands, inner_tails, inner_tail, inner_key, inner_prop, inner_props, inner_binds, inner_init, inner_each, inner_stmt, inner_stmts, inner_else, inner_clauses, inner_params, inner_body}
use Rattle.scope_analysis.specs.Scopes.{scope_count}
use Rattle.scope_closed_laws.proofs.Texts.{equal_sym}
use Rattle.scope_closed_laws.proofs.Own.{names_in}
use Rattle.scope_closed_laws.proofs.Quiet.{quiet, quiet_maybe}
use Rattle.scope_closed_laws.proofs.Declaring.{lexical_in_block, lexical_at_top, vars_at_top, plain_as, clauses_texts, declares_init, declares_each, declares_stmt, declares_stmts, declares_clauses, quiet_front, declares_both, inside_lexical, inside_vars}
use Rattle.scope_closed_laws.proofs.Reading.{Reads, reads_none, reads_use, reads_both, reads_region, reads_bare, of_block, of_switch, of_head, of_catch, of_loop, of_label, of_body, lexical_has, no_names, reads_declared, reads_jump, reads_sites, reads_unbound}
use Rattle.scope_closed_laws.proofs.Bodies.{body_own_uses, function_of, func_of, site_of, var_body_has, var_body_none}

-- three parts, and four
reads_three : (a b c : Uses) (bs cs ds : List Started) (fs gs hs : List Inner) (r s t u : Told Text) → Reads a bs fs t u → Reads b cs gs s t → Reads c ds hs r s
    → Reads (uses_both a (uses_both b c)) (bs ++ (cs ++ ds)) (fs ++ gs ++ hs) r u
reads_three a b c bs cs ds fs gs hs r s t u p q w = reads_sites _ _ _ _ _ _ (sym (append_assoc fs gs hs)) (reads_both a (uses_both b c) bs (cs ++ ds) fs (gs ++ hs) r t u p (reads_both b c cs ds gs hs r s t q w))

reads_four : (a b c d : Uses) (bs cs ds es : List Started) (fs gs hs is : List Inner) (r s t u v : Told Text) → Reads a bs fs u v → Reads b cs gs t u → Reads c ds hs s t → Reads d es is r s
    → Reads (uses_both a (uses_both b (uses_both c d))) (bs ++ (cs ++ (ds ++ es))) (fs ++ gs ++ hs ++ is) r v
reads_four a b c d bs cs ds es fs gs hs is r s t u v p q w z =
    reads_sites _ _ _ _ _ _ (sym (append_assoc fs (gs ++ hs) is) ∙ ap (λ (js : List Inner). js ++ is) (sym (append_assoc fs gs hs)))
    (reads_both a (uses_both b (uses_both c d)) bs (cs ++ (ds ++ es)) fs (gs ++ hs ++ is) r u v p (reads_three b c d cs ds es gs hs is r s t u q w z))

-- ---- the names of regions, where statements are in them

block_has : (items : Stmts) (inside : Bool) → ProperStmts whole inside items → (x : Text) → has bytes_eq x (names_in told.Block (tells_stmts false items nothing)) ≡ has_text (texts_of (lexical_names items)) x
block_has items inside p x = lexical_has x (tells_stmts false items nothing) (texts_of (lexical_names items)) (inside_lexical _ _ _ _ _ (declares_stmts false items inside nothing p) (lexical_in_block items))

pub block_of : (items : Stmts) (inside : Bool) (t : Told Text) → ProperStmts whole inside items → {bs : List Started} {fs : List Inner} → Reads (uses_stmts items) bs fs nothing (tells_stmts false items nothing)
    → Reads (uses_without (texts_of (lexical_names items)) (uses_stmts items)) bs fs t (inner told.Block 0 (tells_stmts false items nothing) t)
block_of items inside t p r = reads_region _ _ _ _ told.Block 0 _ t of_block (block_has items inside p) r

for_has : (init : Init) (test update : MaybeExpr) (body : Stmt) (inside : Bool) → is_statement body ≡ true → ProperStmt whole inside body → (x : Text)
    → has bytes_eq x (names_in told.ForHead (tells_init init (tells_maybe test (tells_maybe update (tells_stmt false body nothing))))) ≡ has_text (texts_of (init_lexical_names init)) x
for_has init test update body inside h p x =
    lexical_has x (tells_init init (tells_maybe test (tells_maybe update (tells_stmt false body nothing)))) (texts_of (init_lexical_names init))
    (inside_lexical _ _ _ _ _ (declares_both _ _ _ _ _ _ _ _ _ (declares_init init _)
    (quiet_front _ _ _ _ _ _ (quiet_maybe test _) (quiet_front _ _ _ _ _ _ (quiet_maybe update _) (plain_as body _ _ _ h (declares_stmt false body inside nothing p))))) (append-nil _))

each_has : (each : Each) (over : Expr) (body : Stmt) (inside : Bool) → is_statement body ≡ true → ProperStmt whole inside body → (x : Text)
    → has bytes_eq x (names_in told.ForHead (tells_each each (tells_expr over (tells_stmt false body nothing)))) ≡ has_text (texts_of (each_lexical_names each)) x
each_has each over body inside h p x =
    lexical_has x (tells_each each (tells_expr over (tells_stmt false body nothing))) (texts_of (each_lexical_names each))
    (inside_lexical _ _ _ _ _ (declares_both _ _ _ _ _ _ _ _ _ (declares_each each _) (quiet_front _ _ _ _ _ _ (quiet over _) (plain_as body _ _ _ h (declares_stmt false body inside nothing p)))) (append-nil _))

switch_has : (clauses : Clauses) (inside : Bool) → ProperClauses whole inside clauses → (x : Text) → has bytes_eq x (names_in told.Switch (tells_clauses clauses nothing)) ≡ has_text (texts_of (clauses_lexical_names clauses)) x
switch_has clauses inside p x = lexical_has x (tells_clauses clauses nothing) (texts_of (clauses_lexical_names clauses)) (inside_lexical _ _ _ _ _ (declares_clauses clauses inside nothing p) (clauses_texts clauses))

label_names : (body : Stmt) (inside : Bool) → is_statement body ≡ true → ProperStmt whole inside body → names_of (directly is_lexical (tells_stmt false body nothing)) ≡ []
label_names body inside h p = inside_lexical _ _ _ _ _ (plain_as body _ _ _ h (declares_stmt false body inside nothing p)) refl

labelled : (b : Bool) (u : Uses) (bs : List Started) (fs : List Inner) (i : Told Text) → names_of (directly is_lexical i) ≡ [] → Reads u bs fs nothing i → Reads u bs fs nothing (labelled_region b i)
labelled true u bs fs i e r = r
labelled false u bs fs i e r = reads_bare u bs fs told.Block 0 i nothing of_block (no_names i e) r

declared_of : (f : Function) (top : Bool) (around : List ℕ) (t : Told Text) → ProperFunction whole f → Reads (uses_function f) (started_function f) [] t (tells_function f t)
    → Reads (uses_function f) (started_function f) (named_inner func.Declared f around) t (tells_stmt top (tree.Declared f) t)
declared_of (function form start end None params comma bare body) top around t p r = site_of func.Declared _ around (function form start end None params comma bare body) _ _ t refl tt p r
declared_of (function form start end (Some name) params comma bare body) top around t p r =
    reads_declared _ _ _ (function_declares top) (spelled name) _ _ (site_of func.Declared _ around (function form start end (Some name) params comma bare body) _ _ t refl tt p r)

-- ---- parts, one by one

mutual
  pub reads : (x : Expr) (around : List ℕ) (t : Told Text) → Proper whole x → Reads (uses_expr x) (started x) (inner_expr x around) t (tells_expr x t)
  reads (tree.This at) around t p = reads_use this_text t
  reads (tree.Name name) around t p = reads_use name.text t
  reads (tree.Null at) around t p = reads_none t
  reads (tree.True at) around t p = reads_none t
  reads (tree.False at) around t p = reads_none t
  reads (tree.Number at value) around t p = reads_none t
  reads (tree.Str at end text) around t p = reads_none t
  reads (tree.Template at first parts) around t p = reads_parts parts around t p
  reads (tree.Array at items comma) around t p = reads_items items around t p.1
  reads (tree.Object at props comma) around t p = reads_props props around t p.1
  reads (tree.Func at f) around t p = func_of at f around t p.0 p.1 (reads_function f t p.1) (reads_function f nothing p.1)
  reads (tree.Paren at value) around t p = reads value around t p
  reads (tree.Chain head tails) around t p = reads_both _ _ _ _ _ _ _ _ _ (reads head around _ p.1) (reads_tails tails around t p.3)
  reads (tree.New at callee args) around t p = reads_both _ _ _ _ _ _ _ _ _ (reads callee around _ p.1) (reads_args args around t p.2)
  reads (tree.Unary at op operand is_word) around t p = reads operand around t p.2
  reads (tree.Update at op prefix operand) around t p = reads operand around t p.2
  reads (tree.Binary first rest) around t p = reads_both _ _ _ _ _ _ _ _ _ (reads first around _ p.3) (reads_operands rest _ around t p.4)
  reads (tree.Cond test then_value else_value) around t p = reads_three _ _ _ _ _ _ _ _ _ _ _ _ _ (reads test around _ p.1) (reads then_value around _ p.3) (reads else_value around t p.5)
  reads (tree.Assign op target value) around t p = reads_both _ _ _ _ _ _ _ _ _ (reads target around _ p.2) (reads value around t p.4)
  reads (tree.Comma items) around t p = reads_exprs items around t p.1

  reads_exprs : (x : Exprs) (around : List ℕ) (t : Told Text) → ProperExprs whole x → Reads (uses_exprs x) (started_exprs x) (inner_exprs x around) t (tells_exprs x t)
  reads_exprs no_exprs around t p = reads_none t
  reads_exprs (more_exprs e rest) around t p = reads_both _ _ _ _ _ _ _ _ _ (reads e around _ p.1) (reads_exprs rest around t p.2)

  pub reads_maybe : (x : MaybeExpr) (around : List ℕ) (t : Told Text) → ProperMaybe whole x → Reads (uses_maybe x) (started_maybe x) (inner_maybe x around) t (tells_maybe x t)
  reads_maybe no_expr around t p = reads_none t
  reads_maybe (some_expr e) around t p = reads e around t p.1

  pub reads_option : (x : MaybeExpr) (around : List ℕ) (t : Told Text) → ProperOption whole x → Reads (uses_maybe x) (started_maybe x) (inner_maybe x around) t (tells_maybe x t)
  reads_option no_expr around t p = reads_none t
  reads_option (some_expr e) around t p = reads e around t p

  reads_args : (x : MaybeArgs) (around : List ℕ) (t : Told Text) → ProperArgs whole x → Reads (uses_args x) (started_args x) (inner_args x around) t (tells_args x t)
  reads_args no_args around t p = reads_none t
  reads_args (some_args items comma) around t p = reads_exprs items around t p.1

  reads_parts : (x : Parts) (around : List ℕ) (t : Told Text) → ProperParts whole x → Reads (uses_parts x) (started_parts x) (inner_parts x around) t (tells_parts x t)
  reads_parts no_parts around t p = reads_none t
  reads_parts (more_parts value behind rest) around t p = reads_both _ _ _ _ _ _ _ _ _ (reads value around _ p.0) (reads_parts rest around t p.1)

  reads_items : (x : Items) (around : List ℕ) (t : Told Text) → ProperItems whole x → Reads (uses_items x) (started_items x) (inner_items x around) t (tells_array x t)
  reads_items no_items around t p = reads_none t
  reads_items (more_items item rest) around t p = reads_both _ _ _ _ _ _ _ _ _ (reads_maybe item around _ p.0) (reads_items rest around t p.1)

  reads_operands : (x : Operands) (n : ℕ) (around : List ℕ) (t : Told Text) → ProperOperands whole n x → Reads (uses_operands x) (started_operands x) (inner_operands x around) t (tells_operands x t)
  reads_operands no_operands n around t p = reads_none t
  reads_operands (more_operands op is_word value rest) n around t p = reads_both _ _ _ _ _ _ _ _ _ (reads value around _ p.2) (reads_operands rest n around t p.3)

  reads_tails : (x : Tails) (around : List ℕ) (t : Told Text) → ProperTails whole x → Reads (uses_tails x) (started_tails x) (inner_tails x around) t (tells_tails x t)
  reads_tails no_tails around t p = reads_none t
  reads_tails (more_tails tail rest) around t p = reads_both _ _ _ _ _ _ _ _ _ (reads_tail tail around _ p.0) (reads_tails rest around t p.1)

  reads_tail : (x : Tail) (around : List ℕ) (t : Told Text) → ProperTail whole x → Reads (uses_tail x) (started_tail x) (inner_tail x around) t (tells_tail x t)
  reads_tail (tree.Dot text) around t p = reads_none t
  reads_tail (tree.Index e) around t p = reads e around t p
  reads_tail (tree.Call items comma) around t p = reads_exprs items around t p.1

  reads_key : (x : Key) (around : List ℕ) (t : Told Text) → ProperKey whole x → Reads (uses_key x) (started_key x) (inner_key x around) t (tells_key x t)
  reads_key (tree.WordKey name) around t p = reads_none t
  reads_key (tree.StrKey name) around t p = reads_none t
  reads_key (tree.NumberKey at value) around t p = reads_none t
  reads_key (tree.ComputedKey e) around t p = reads e around t p.1

  reads_prop : (x : Prop) (around : List ℕ) (t : Told Text) → ProperProp whole x → Reads (uses_prop x) (started_prop x) (inner_prop x around) t (tells_prop x t)
  reads_prop (tree.Short name) around t p = reads_use name.text t
  reads_prop (tree.Pair key value) around t p = reads_both _ _ _ _ _ _ _ _ _ (reads_key key around _ p.0) (reads value around t p.2)
  reads_prop (tree.Method key f) around t p = reads_both _ _ _ _ _ _ _ _ _ (reads_key key around _ p.0) (site_of func.Method None around f _ _ t refl tt p.2 (reads_function f t p.2))
  reads_prop (tree.Get key f) around t p = reads_both _ _ _ _ _ _ _ _ _ (reads_key key around _ p.0) (site_of func.Getter None around f _ _ t refl tt p.2 (reads_function f t p.2))
  reads_prop (tree.Set key f) around t p = reads_both _ _ _ _ _ _ _ _ _ (reads_key key around _ p.0) (site_of func.Setter None around f _ _ t refl tt p.2 (reads_function f t p.2))

  reads_props : (x : Props) (around : List ℕ) (t : Told Text) → ProperProps whole x → Reads (uses_props x) (started_props x) (inner_props x around) t (tells_props x t)
  reads_props no_props around t p = reads_none t
  reads_props (more_props prop rest) around t p = reads_both _ _ _ _ _ _ _ _ _ (reads_prop prop around _ p.0) (reads_props rest around t p.1)

  reads_function : (x : Function) (t : Told Text) → ProperFunction whole x → Reads (uses_function x) (started_function x) [] t (tells_function x t)
  reads_function (function form start end name params comma bare body) t p =
      function_of form start end name params comma bare body _ t p.4 (reads_both _ _ _ _ _ _ _ _ _ (reads_params params [] _ p.3) (reads_body (has_initializer params) body form 0 [] p.4))

  pub reads_params : (x : Params) (around : List ℕ) (t : Told Text) → ProperParams whole x → Reads (uses_params x) (started_params x) (inner_params x around) t (tells_params x t)
  reads_params no_params around t p = reads_none t
  reads_params (more_params name value rest more) around t p = reads_declared _ _ _ how.Param (spelled name) _ _ (reads_both _ _ _ _ _ _ _ _ _ (reads_maybe value around _ p.0) (reads_params more around t p.1))

  pub reads_body : (b : Bool) (x : Body) (f : FuncForm) (next : ℕ) (around : List ℕ) → ProperBody whole f x → Reads (body_own_uses b x) (started_body x) (inner_body b x next around) nothing (body_region b (tells_body x))
  reads_body true (BracedBody items) f next around p =
      reads_region (texts_of (top_lexical_names items) ++ top_var_names items) (uses_stmts items) _ _ told.VarBody 0 _ nothing of_body
      (var_body_has items (tells_stmts true items nothing) (inside_vars _ _ _ _ _ (declares_stmts true items true nothing p) (vars_at_top items)) (inside_lexical _ _ _ _ _ (declares_stmts true items true nothing p) (lexical_at_top items)))
      (reads_stmts items true true _ _ nothing p)
  reads_body true (ShortBody value) f next around p =
      reads_bare _ _ _ told.VarBody 0 _ nothing of_body (var_body_none (tells_expr value nothing) (ap names_of (quiet value nothing).hoisted) (ap names_of ((quiet value nothing).direct is_lexical))) (reads value around nothing p.3)
  reads_body false (BracedBody items) f next around p = reads_stmts items true true _ _ nothing p
  reads_body false (ShortBody value) f next around p = reads value around nothing p.3

  reads_binds : (d : Decl) (x : Binds) (around : List ℕ) (t : Told Text) → ProperBinds whole x → Reads (uses_binds x) (started_binds x) (inner_binds x around) t (tells_binds d x t)
  reads_binds d no_binds around t p = reads_none t
  reads_binds d (more_binds name value rest) around t p = reads_declared _ _ _ (declared_as d) (spelled name) _ _ (reads_both _ _ _ _ _ _ _ _ _ (reads_maybe value around _ p.0) (reads_binds d rest around t p.1))

  pub reads_init : (x : Init) (around : List ℕ) (t : Told Text) → ProperInit whole x → Reads (uses_init x) (started_init x) (inner_init x around) t (tells_init x t)
  reads_init tree.NoInit around t p = reads_none t
  reads_init (tree.ValueInit e) around t p = reads e around t p.1
  reads_init (tree.BindsInit d binds) around t p = reads_binds d binds around t p.2

  pub reads_each : (x : Each) (around : List ℕ) (t : Told Text) → ProperEach whole x → Reads (uses_each x) (started_each x) (inner_each x around) t (tells_each x t)
  reads_each (tree.TargetEach e) around t p = reads e around t p.1
  reads_each (tree.BindEach d name) around t p = reads_declared _ _ _ (declared_as d) (spelled name) _ _ (reads_none t)

  pub reads_clauses : (x : Clauses) (inside : Bool) (next : ℕ) (around : List ℕ) (t : Told Text) → ProperClauses whole inside x → Reads (uses_clauses x) (started_clauses x) (inner_clauses x next around) t (tells_clauses x t)
  reads_clauses no_clauses inside next around t p = reads_none t
  reads_clauses (more_clauses test items rest) inside next around t p = reads_three _ _ _ _ _ _ _ _ _ _ _ _ _ (reads_option test around _ p.0) (reads_stmts items false inside next around _ p.1) (reads_clauses rest inside _ around t p.2)

  pub reads_stmt : (x : Stmt) (top inside : Bool) (next : ℕ) (around : List ℕ) (t : Told Text) → ProperStmt whole inside x → Reads (uses_stmt x) (started_stmt x) (inner_stmt x next around) t (tells_stmt top x t)
  reads_stmt (tree.Block items) top inside next around t p = block_of items inside t p (reads_stmts items false inside _ _ nothing p)
  reads_stmt tree.Empty top inside next around t p = reads_none t
  reads_stmt (tree.Debugger semi) top inside next around t p = reads_none t
  reads_stmt (tree.Binding d binds semi) top inside next around t p = reads_binds d binds around t p.1
  reads_stmt (tree.Value e semi) top inside next around t p = reads e around t p.2
  reads_stmt (tree.If test then_stmt else_stmt) top inside next around t p = reads_three _ _ _ _ _ _ _ _ _ _ _ _ _ (reads test around _ p.0) (reads_stmt then_stmt false inside next around _ p.2) (reads_else else_stmt inside _ around t p.4)
  reads_stmt (tree.Do body test semi) top inside next around t p = reads_bare _ _ _ told.Loop 0 _ t of_loop refl (reads_both _ _ _ _ _ _ _ _ _ (reads_stmt body false inside next around _ p.1) (reads test around nothing p.2))
  reads_stmt (tree.While test body) top inside next around t p = reads_bare _ _ _ told.Loop 0 _ t of_loop refl (reads_both _ _ _ _ _ _ _ _ _ (reads test around _ p.0) (reads_stmt body false inside next around nothing p.2))
  reads_stmt (tree.For init test update body) top inside next around t p =
      reads_bare _ _ _ told.Loop 0 _ t of_loop refl
      (reads_region (texts_of (init_lexical_names init)) _ _ _ told.ForHead 0 _ nothing of_head (for_has init test update body inside p.3 p.4)
      (reads_four _ _ _ _ _ _ _ _ _ _ _ _ _ _ _ _ _ (reads_init init (enclosed (init_lexical_names init) next around) _ p.0) (reads_option test (enclosed (init_lexical_names init) next around) _ p.1) (reads_option update (enclosed (init_lexical_names init) next around) _ p.2) (reads_stmt body false inside (next + scope_count (init_lexical_names init)) (enclosed (init_lexical_names init) next around) nothing p.4)))
  reads_stmt (tree.ForIn each over body) top inside next around t p =
      reads_bare _ _ _ told.Loop 0 _ t of_loop refl
      (reads_region (texts_of (each_lexical_names each)) _ _ _ told.ForHead 0 _ nothing of_head (each_has each over body inside p.2 p.3)
      (reads_three _ _ _ _ _ _ _ _ _ _ _ _ _ (reads_each each (enclosed (each_lexical_names each) next around) _ p.0) (reads over (enclosed (each_lexical_names each) next around) _ p.1) (reads_stmt body false inside (next + scope_count (each_lexical_names each)) (enclosed (each_lexical_names each) next around) nothing p.3)))
  reads_stmt (tree.Continue at label semi) top inside next around t p = reads_jump _ _ _ t
  reads_stmt (tree.Break at label semi) top inside next around t p = reads_jump _ _ _ t
  reads_stmt (tree.Return value semi) top inside next around t p = reads_option value around t p.1
  reads_stmt (tree.Throw e semi) top inside next around t p = reads e around t p
  reads_stmt (tree.Switch e clauses) top inside next around t p =
      reads_both _ _ _ _ _ _ _ _ _ (reads e around _ p.0)
      (reads_region (texts_of (clauses_lexical_names clauses)) _ _ _ told.Switch 0 _ t of_switch (switch_has clauses inside p.2) (reads_clauses clauses inside _ _ nothing p.2))
  reads_stmt (tree.Label name body) top inside next around t p =
      reads_bare _ _ _ (told.Label (spelled name)) 0 _ t (of_label (spelled name)) refl (labelled (labels_on body) _ _ _ _ (label_names body inside p.0 p.1) (reads_stmt body false inside next around nothing p.1))
  reads_stmt (tree.Try body None handler) top inside next around t p =
      reads_both _ _ _ _ _ _ _ _ _ (block_of body inside _ p.0 (reads_stmts body false inside _ _ nothing p.0)) (reads_unbound _ _ _ _ _ (block_of handler inside t p.1 (reads_stmts handler false inside _ _ nothing p.1)))
  reads_stmt (tree.Try body (Some name) handler) top inside next around t p =
      reads_both _ _ _ _ _ _ _ _ _ (block_of body inside _ p.0 (reads_stmts body false inside _ _ nothing p.0))
      (reads_region (name.text ∷ []) _ _ _ told.Catch 0 _ t of_catch (λ x. ap (λ (b : Bool). b || false) (equal_sym x name.text))
      (reads_declared _ _ _ how.Catch (spelled name) _ _ (block_of handler inside nothing p.1 (reads_stmts handler false inside _ _ nothing p.1))))
  reads_stmt (tree.Declared f) top inside next around t p = declared_of f top around t p.1 (reads_function f t p.1)

  pub reads_stmts : (x : Stmts) (top inside : Bool) (next : ℕ) (around : List ℕ) (t : Told Text) → ProperStmts whole inside x → Reads (uses_stmts x) (started_stmts x) (inner_stmts x next around) t (tells_stmts top x t)
  reads_stmts no_stmts top inside next around t p = reads_none t
  reads_stmts (more_stmts s rest) top inside next around t p = reads_both _ _ _ _ _ _ _ _ _ (reads_stmt s top inside next around _ p.0) (reads_stmts rest top inside _ around t p.1)

  reads_else : (x : MaybeStmt) (inside : Bool) (next : ℕ) (around : List ℕ) (t : Told Text) → ProperElse whole inside x → Reads (uses_else x) (started_else x) (inner_else x next around) t (tells_maybe_stmt x t)
  reads_else no_stmt inside next around t p = reads_none t
  reads_else (some_stmt s) inside next around t p = reads_stmt s false inside next around t p.1
