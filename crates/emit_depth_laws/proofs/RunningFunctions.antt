-- The code of every function and of every script fits depths of the stack, and so its bytes have a depth table.
use Rattle.std.proofs.Common.{◌≡◌, ◌∙◌, ℕ, suc, ◌+◌, ◌^◌, ◌<◌, ◌≤◌, Bool, true, false, List, [], ◌∷◌, ◌++◌, length, append_assoc, Option, Some, None, refl, sym, ap, subst, arith}
use Rattle.script_grammar.specs.declared.token.FuncForm.{FuncForm}
use Rattle.script_grammar.specs.Tree.{Named, Expr, MaybeExpr, no_expr, some_expr, Function, function, Params, no_params, more_params, Body, BracedBody, ShortBody, Stmt, Stmts, no_stmts, more_stmts, Block, Declared}
use Rattle.stencil_data.specs.declared.chains.LinkName.{LinkName}
use Rattle.stencil_data.specs.declared.functions.FuncKind.{FuncKind}
use Rattle.stencil_data.specs.declared.scopes.BindKind.{BindKind}
use Rattle.stencil_data.specs.declared.scopes.BindKind.TheVariants as bind
use Rattle.stencil_data.specs.declared.scopes.ScopeKind.TheVariants as scope
use Rattle.stencil_data.specs.LinkView.{LinkView}
use Rattle.stencil_data.specs.Named.{NamedScope}
use Rattle.stencil_data.specs.Resolve.{resolve, resolve_beyond, environments_of}
use Rattle.scope_analysis.specs.DeclaredNames.{Text, has_text, Declaration, texts_of, name_list, function_name, top_lexical_names, top_var_names_in, all_top_var_names, top_var_names, param_names, has_initializer}
use Rattle.scope_analysis.specs.Scopes.{scope_count, callee_names, body_var_names, body_var_inner, block_inner, scopes_stmts, scopes_body, special_names, function_uses, function_names, function_scopes}
use Rattle.scope_analysis.specs.Uses.{uses_without, beside_params}
use Rattle.scope_analysis.specs.Functions.{inner_function}
use Rattle.bytecode_buf.specs.declared.opcode.Op.{Op}
use Rattle.bytecode_buf.specs.declared.opcode.Op.TheVariants as op
use Rattle.bytecode_buf.specs.declared.waits.Aim.TheVariants as aim
use Rattle.bytecode_buf.specs.Command.{Command, plain, counted, ShowsCommands}
use Rattle.bytecode_buf.specs.Machine.{Terminates, flow_of, HasDepthTable}
use Rattle.bytecode_buf.specs.Pieces.{Code, one, settled, notes}
use Rattle.emit_exprs.specs.Exprs.{Scene, writing}
use Rattle.emit_stmts.specs.Frames.{Entered, scope_at, has_env, chain_link}
use Rattle.emit_stmts.specs.Functions.{special_code, specials_code, default_code, rest_code, params_code, copies_code, top_function, top_functions, body_base, body_vars_code, body_setting, body_code, params_base, params_scene, named_base, starts_of, function_code, function_script, function_count, script_setting, script_code, top_script}
use Rattle.emit_stmts.specs.Stmts.{Setting, scene_at, assigning_function, in_scope, stmts_code}
use Rattle.bytecode_flow_laws.specs.Depths.{Exits, with_exit, no_exits, Runs, raised, takes}
use Rattle.bytecode_flow_laws.proofs.Joining.{runs_none, runs_both}
use Rattle.bytecode_flow_laws.proofs.Landing.{runs_here}
use Rattle.bytecode_flow_laws.proofs.Running.{runs_after, runs_whole, runs_if_false}
use Rattle.bytecode_flow_laws.proofs.Tables.{AllAlike, runs_table}
use Rattle.scope_functions.proofs.OwnUses.{has_declared, has_first}
use Rattle.emit_depth_laws.specs.Assigning.{MaybeExprAssigns}
use Rattle.emit_depth_laws.specs.Targets.{StmtsTarget, ParamsAssign, BodyTargets, FunctionTargets}
use Rattle.emit_depth_laws.proofs.RunningPieces.{runs_from, runs_if, runs_just, read_runs, reading_runs, writing_runs, lambda_runs}
use Rattle.emit_depth_laws.proofs.RunningFrames.{no_frames, leave_runs}
use Rattle.emit_depth_laws.proofs.RunningParts.{expr_runs, enter_runs}
use Rattle.emit_depth_laws.proofs.RunningStmts.{stmts_run}
use Rattle.emit_depth_laws.proofs.LocalNames.{below_place, name_below, IsScopeOf, own_names, here_below, through_below, names_of}
use Rattle.emit_depth_laws.proofs.Membership.{AllTexts, texts_self, texts_left, texts_right, param_among, beside_among}
use Rattle.emit_depth_laws.proofs.FunctionScopes.{IsThere, own_at, vars_at, lexical_at}

-- ---- names that are bound in the function

-- nothing stands below a write to these names
abbrev IsBound : Scene → List Text → Type 0
IsBound scene names = (t : Text) → has_text names t ≡ true → below_place (resolve scene.chain t) ≡ 0

bound_runs : (outs : Exits) (scene : Scene) (name : Text) (d : ℕ) → below_place (resolve scene.chain name) ≡ 0 → Runs outs (writing scene name) (suc d) (suc d)
bound_runs outs scene name d h = runs_from (ap (λ (n : ℕ). suc (raised n d)) (name_below scene name h)) (writing_runs outs scene name d)

special_runs : (outs : Exits) (scene : Scene) (b : LinkName) (kind : BindKind) (d : ℕ) → below_place (resolve scene.chain b.text) ≡ 0 → Runs outs (special_code scene b kind) d d
special_runs outs scene b bind.Arguments d h = runs_both (runs_both (runs_just outs op.Arguments d (suc d) refl) (bound_runs outs scene b.text d h)) (runs_just outs op.Pop (suc d) d refl)
special_runs outs scene b bind.This d h = runs_both (runs_both (runs_just outs op.FunctionThis d (suc d) refl) (bound_runs outs scene b.text d h)) (runs_just outs op.Pop (suc d) d refl)
special_runs outs scene b bind.Let d h = runs_none outs d
special_runs outs scene b _ d h = runs_none outs d

specials_run : (outs : Exits) (scene : Scene) (all : List Text) (bs : List LinkName) (d : ℕ) → IsBound scene all → AllTexts all (names_of bs) → Runs outs (specials_code scene bs) d d
specials_run outs scene all [] d h a = runs_none outs d
specials_run outs scene all (b ∷ bs) d h a = runs_both (special_runs outs scene b b.kind d (h b.text a.0)) (specials_run outs scene all bs d h a.1)

default_runs : (outs : Exits) (scene : Scene) (name : Named) (value : MaybeExpr) (d : ℕ) → below_place (resolve scene.chain name.text) ≡ 0 → MaybeExprAssigns value → Runs outs (default_code scene name value) d d
default_runs outs scene name no_expr d h v = runs_none outs d
default_runs outs scene name (some_expr e) d h v =
    let inner : Exits = with_exit aim.After d outs in
    runs_here outs aim.After (runs_both (runs_both (runs_both (runs_both (runs_both (reading_runs inner scene name.text d)
    (runs_whole inner (plain op.Undefined ∷ plain op.StrictEq ∷ []) (suc d) (suc d) refl)) (runs_if_false inner aim.After d refl))
    (expr_runs inner scene e d v)) (bound_runs inner scene name.text d h)) (runs_just inner op.Pop (suc d) d refl))

rest_runs : (outs : Exits) (scene : Scene) (name : Named) (rest : Bool) (d : ℕ) → below_place (resolve scene.chain name.text) ≡ 0 → Runs outs (rest_code scene name rest) d d
rest_runs outs scene name false d h = runs_none outs d
rest_runs outs scene name true d h = runs_both (runs_both (runs_just outs op.Rest d (suc d) refl) (bound_runs outs scene name.text d h)) (runs_just outs op.Pop (suc d) d refl)

params_run : (outs : Exits) (scene : Scene) (all : List Text) (ps : Params) (d : ℕ) → IsBound scene all → AllTexts all (param_names ps) → ParamsAssign ps → Runs outs (params_code scene ps) d d
params_run outs scene all no_params d h a p = runs_none outs d
params_run outs scene all (more_params name value rest more) d h a p =
    runs_both (runs_both (default_runs outs scene name value d (h name.text a.0) p.0) (rest_runs outs scene name rest d (h name.text a.0))) (params_run outs scene all more d h a.1 p.1)

copies_run : (outs : Exits) (scene : Scene) (outer : List LinkView) (hops : ℕ) (params : List Text) (all : List Text) (bs : List LinkName) (d : ℕ) → IsBound scene all → AllTexts all (names_of bs) → Runs outs (copies_code scene outer hops params bs) d d
copies_run outs scene outer hops params all [] d h a = runs_none outs d
copies_run outs scene outer hops params all (b ∷ bs) d h a =
    runs_both (runs_if (has_text params b.text)
    (runs_both (runs_both (read_runs outs b.text (resolve_beyond hops outer b.text) d) (bound_runs outs scene b.text d (h b.text a.0))) (runs_just outs op.Pop (suc d) d refl))
    (runs_none outs d))
    (copies_run outs scene outer hops params all bs d h a.1)

assigning_runs : (outs : Exits) (scene : Scene) (f : Function) (name : Option Named) (all : List Text) (d : ℕ) → IsBound scene all → AllTexts all (name_list name) → Runs outs (assigning_function scene f name) d d
assigning_runs outs scene f None all d h a = runs_none outs d
assigning_runs outs scene f (Some name) all d h a = runs_both (runs_both (lambda_runs outs scene f d) (bound_runs outs scene name.text d (h name.text a.0))) (runs_just outs op.Pop (suc d) d refl)

top_runs : (outs : Exits) (scene : Scene) (s : Stmt) (all : List Text) (d : ℕ) → IsBound scene all → AllTexts all (top_var_names_in s) → Runs outs (top_function scene s) d d
top_runs outs scene (Declared f) all d h a = assigning_runs outs scene f (function_name f) all d h a
top_runs outs scene (Block items) all d h a = runs_none outs d
top_runs outs scene _ all d h a = runs_none outs d

tops_run : (outs : Exits) (scene : Scene) (ss : Stmts) (all : List Text) (d : ℕ) → IsBound scene all → AllTexts all (all_top_var_names ss) → Runs outs (top_functions scene ss) d d
tops_run outs scene no_stmts all d h a = runs_none outs d
tops_run outs scene (more_stmts s rest) all d h a =
    runs_both (top_runs outs scene s all d h (texts_left all (top_var_names_in s) (all_top_var_names rest) a)) (tops_run outs scene rest all d h (texts_right all (top_var_names_in s) (all_top_var_names rest) a))

-- ---- code that ends

-- from this depth it runs to an instruction after which nothing runs
record Finishes (code : Code) (first : ℕ) : Type 0 where
  front : Code
  last : Op
  depth : ℕ
  is : code ≡ front ++ one (plain last)
  runs : Runs no_exits front first depth
  stops : flow_of last ≡ Terminates
  room : takes last 0 ≤ depth

finishes_behind : {a b : Code} {d e : ℕ} → Runs no_exits a d e → Finishes b e → Finishes (a ++ b) d
finishes_behind {a} {b} {d} {e} r f = record {
  front = a ++ f.front;
  last = f.last;
  depth = f.depth;
  is = ap (λ (c : Code). a ++ c) f.is ∙ sym (append_assoc a f.front (one (plain f.last)));
  runs = runs_both r f.runs;
  stops = f.stops;
  room = f.room;
}

finishes_table : (texts : List (List ℕ)) (bytes : List ℕ) (code : Code) (commands : List Command) → Finishes code 0 → AllAlike (settled code) commands → ShowsCommands texts bytes commands → length bytes < 2 ^ 64 → HasDepthTable bytes (notes code)
finishes_table texts bytes code commands f alike shows short =
    subst (λ (c : Code). HasDepthTable bytes (notes c)) (sym f.is) (runs_table texts bytes f.front f.last f.depth commands f.runs f.stops f.room (subst (λ (c : Code). AllAlike (settled c) commands) f.is alike) shows short)

-- ---- the body of a function

module _ (scopes : List NamedScope) (starts : List ℕ) (base : List LinkView) (number : ℕ) where
  vars_run : (vars : List Declaration) (params : List Text) → IsThere scope.FunctionBodyVar vars (scope_at scopes number) → Runs no_exits (body_vars_code scopes starts vars params number base) 0 0
  vars_run [] params there = runs_none no_exits 0
  vars_run (v ∷ vs) params there =
      let s : NamedScope = scope_at scopes number in
      runs_both (runs_if (has_env s) (runs_after no_exits (counted op.PushVarEnv number) 0 0 refl) (runs_none no_exits 0))
      (copies_run no_exits (record { chain = chain_link s ∷ base; starts = starts }) base (environments_of (chain_link s)) params (names_of s.bindings) s.bindings 0
      (λ t has. here_below scope.FunctionBodyVar (v ∷ vs) s t 0 base there refl (sym (ap (λ (l : List Text). has_text l t) (own_names scope.FunctionBodyVar (v ∷ vs) s there)) ∙ has))
      (texts_self (names_of s.bindings)))

  none_has : (t : Text) (has : has_text (texts_of []) t ≡ true) → ⊥
  none_has t has = cc

  -- the names of the body are bound, in its var scope or further out
  vars_below : (vars : List Declaration) (t : Text) → IsThere scope.FunctionBodyVar vars (scope_at scopes number) → has_text (texts_of vars) t ≡ true → (n : ℕ) → below_place (resolve_beyond n (body_base scopes vars number base) t) ≡ 0
  vars_below [] t there has n = absurd (none_has t has)
  vars_below (v ∷ vs) t there has n = here_below scope.FunctionBodyVar (v ∷ vs) (scope_at scopes number) t n base there refl has

  outer_below : (vars : List Declaration) (t : Text) → IsThere scope.FunctionBodyVar vars (scope_at scopes number) → ((n : ℕ) → below_place (resolve_beyond n base t) ≡ 0) → (n : ℕ) → below_place (resolve_beyond n (body_base scopes vars number base) t) ≡ 0
  outer_below [] t there h n = h n
  outer_below (v ∷ vs) t there h n = through_below scope.FunctionBodyVar (v ∷ vs) (scope_at scopes number) t n base there refl h

  tops_below : (initialized : Bool) (items : Stmts) (t : Text) → IsThere scope.FunctionBodyVar (body_var_names initialized items) (scope_at scopes number) → ((u : Text) → has_text (beside_params initialized (BracedBody items)) u ≡ true → (n : ℕ) → below_place (resolve_beyond n base u) ≡ 0) → has_text (all_top_var_names items) t ≡ true → (n : ℕ) → below_place (resolve_beyond n (body_base scopes (body_var_names initialized items) number base) t) ≡ 0
  tops_below true items t there beside has n = vars_below (body_var_names true items) t there (has_declared bind.Var (top_var_names items) t ∙ has_first (all_top_var_names items) t ∙ has) n
  tops_below false items t there beside has n = outer_below (body_var_names false items) t there (beside t (has_first (all_top_var_names items) t ∙ has)) n

  -- what stands in the lexical scope of the body, where there is one
  lexical_runs : (base_inside : List LinkView) (lexical : List Declaration) (items : Stmts) (first : ℕ) → IsThere scope.FunctionLexical lexical (scope_at scopes first) → ((t : Text) → has_text (all_top_var_names items) t ≡ true → (n : ℕ) → below_place (resolve_beyond n base_inside t) ≡ 0) → StmtsTarget items []
      → Runs no_exits (in_scope (body_setting scopes starts base_inside) lexical (λ scene. top_functions scene items) (stmts_code (body_setting scopes starts base_inside) items) first []) 0 0
  lexical_runs base_inside [] items first there below targets =
      let setting : Setting = body_setting scopes starts base_inside in
      runs_both (tops_run no_exits (scene_at setting []) items (all_top_var_names items) 0 (λ t has. below t has 0) (texts_self (all_top_var_names items)))
      (stmts_run no_exits setting items first [] 0 refl (no_frames no_exits) targets)
  lexical_runs base_inside (l ∷ ls) items first there below targets =
      let setting : Setting = body_setting scopes starts base_inside in
      let s : NamedScope = scope_at scopes first in
      runs_both (runs_both (runs_both (enter_runs no_exits setting first 0)
      (tops_run no_exits (scene_at setting (Entered first ∷ [])) items (all_top_var_names items) 0 (λ t has. through_below scope.FunctionLexical (l ∷ ls) s t 0 base_inside there refl (below t has)) (texts_self (all_top_var_names items))))
      (stmts_run no_exits setting items (first + 1) (Entered first ∷ []) 0 refl (record { out = λ level depth h. absurd (cc); again = λ level depth h. absurd (cc) }) targets))
      (leave_runs no_exits scopes first 0)

  body_finishes : (initialized : Bool) (params : List Text) (items : Stmts) → IsThere scope.FunctionBodyVar (body_var_names initialized items) (scope_at scopes number) → IsThere scope.FunctionLexical (top_lexical_names items) (scope_at scopes (number + scope_count (body_var_names initialized items))) → ((u : Text) → has_text (beside_params initialized (BracedBody items)) u ≡ true → (n : ℕ) → below_place (resolve_beyond n base u) ≡ 0) → StmtsTarget items []
      → Finishes (body_code scopes starts initialized params (BracedBody items) number base) 0
  body_finishes initialized params items vars lexical beside targets = record {
    front = body_vars_code scopes starts (body_var_names initialized items) params number base ++ in_scope (body_setting scopes starts (body_base scopes (body_var_names initialized items) number base)) (top_lexical_names items) (λ scene. top_functions scene items) (stmts_code (body_setting scopes starts (body_base scopes (body_var_names initialized items) number base)) items) (number + scope_count (body_var_names initialized items)) [];
    last = op.RetRval;
    depth = 0;
    is = refl;
    runs = runs_both (vars_run (body_var_names initialized items) params vars) (lexical_runs (body_base scopes (body_var_names initialized items) number base) (top_lexical_names items) items (number + scope_count (body_var_names initialized items)) lexical (λ t has. tops_below initialized items t vars beside has) targets);
    stops = refl;
    room = omega arith;
  }

  short_finishes : (initialized : Bool) (params : List Text) (value : Expr) → BodyTargets (ShortBody value) → Finishes (body_code scopes starts initialized params (ShortBody value) number base) 0
  short_finishes initialized params value targets = record {
    front = _;
    last = op.Return;
    depth = 1;
    is = refl;
    runs = expr_runs no_exits (record { chain = base; starts = starts }) value 0 targets;
    stops = refl;
    room = omega arith;
  }

-- ---- functions

module _ (kind : FuncKind) (name : Option Text) (outer : List LinkView) where
  abbrev callee : List Declaration
  callee = callee_names kind name

  -- the names of the function are bound at its parameters
  names_below : (f : Function) (names : List Declaration) → IsScopeOf scope.Function names (scope_at (function_scopes kind name f) (scope_count callee)) → (t : Text) → has_text (texts_of names) t ≡ true → (n : ℕ) → below_place (resolve_beyond n (params_base (function_scopes kind name f) callee outer) t) ≡ 0
  names_below f names there t has n = here_below scope.Function names (scope_at (function_scopes kind name f) (scope_count callee)) t n (named_base (function_scopes kind name f) callee outer) there refl has

  among : (all some ts : List Text) → ((t : Text) → has_text some t ≡ true → has_text all t ≡ true) → AllTexts some ts → AllTexts all ts
  among all some [] h a = tt
  among all some (t ∷ ts) h a = (h t a.0, among all some ts h a.1)

  -- what stands before the body
  front_runs : (form : FuncForm) (start end : ℕ) (given : Option Named) (ps : Params) (comma bare : Bool) (body : Body) → ParamsAssign ps
      → IsScopeOf scope.Function (function_names form ps body) (scope_at (function_scopes kind name (function form start end given ps comma bare body)) (scope_count callee))
      → (scene : Scene) → scene.chain ≡ params_base (function_scopes kind name (function form start end given ps comma bare body)) callee outer
      → Runs no_exits (specials_code scene (scope_at (function_scopes kind name (function form start end given ps comma bare body)) (scope_count callee)).bindings ++ params_code scene ps) 0 0
  front_runs form start end given ps comma bare body targets there scene is =
      let f : Function = function form start end given ps comma bare body in
      let names : List Declaration = function_names form ps body in
      let s : NamedScope = scope_at (function_scopes kind name f) (scope_count callee) in
      let bound : IsBound scene (texts_of names) = (λ t has. subst (λ (c : List LinkView). below_place (resolve c t) ≡ 0) (sym is) (names_below f names there t has 0)) in
      runs_both (specials_run no_exits scene (texts_of names) s.bindings 0 bound (subst (λ (l : List Text). AllTexts l (names_of s.bindings)) (own_names scope.Function names s there) (texts_self (names_of s.bindings))))
      (params_run no_exits scene (texts_of names) ps 0 bound
      (among (texts_of names) (param_names ps) (param_names ps) (λ t has. param_among (param_names ps) (beside_params (has_initializer ps) body) (special_names form (function_uses ps body)) t has) (texts_self (param_names ps))) targets)

  own_scope : (form : FuncForm) (start end : ℕ) (given : Option Named) (ps : Params) (comma bare : Bool) (body : Body) → IsScopeOf scope.Function (function_names form ps body) (scope_at (function_scopes kind name (function form start end given ps comma bare body)) (scope_count callee))
  own_scope form start end given ps comma bare body =
      own_at (function_names form ps body) (uses_without (texts_of (function_names form ps body)) (function_uses ps body)).inner (function_uses ps body).inner [] [] (λ w. []) callee (scopes_body (has_initializer ps) body)

  function_finishes : (f : Function) → FunctionTargets f → Finishes (function_code kind name f outer) 0
  function_finishes (function form start end given ps comma bare (ShortBody value)) targets =
      let f : Function = function form start end given ps comma bare (ShortBody value) in
      finishes_behind (front_runs form start end given ps comma bare (ShortBody value) targets.0 (own_scope form start end given ps comma bare (ShortBody value)) (params_scene (function_scopes kind name f) (starts_of (inner_function kind name f)) callee outer) refl)
      (short_finishes (function_scopes kind name f) (starts_of (inner_function kind name f)) (params_base (function_scopes kind name f) callee outer) (scope_count callee + 1) (has_initializer ps) (param_names ps) value targets.1)
  function_finishes (function form start end given ps comma bare (BracedBody items)) targets =
      let f : Function = function form start end given ps comma bare (BracedBody items) in
      let names : List Declaration = function_names form ps (BracedBody items) in
      let uses : List Text = (uses_without (texts_of names) (function_uses ps (BracedBody items))).inner in
      let inner : List Text = (function_uses ps (BracedBody items)).inner in
      let vars : List Declaration = body_var_names (has_initializer ps) items in
      let own : IsScopeOf scope.Function names (scope_at (function_scopes kind name f) (scope_count callee)) = own_scope form start end given ps comma bare (BracedBody items) in
      finishes_behind (front_runs form start end given ps comma bare (BracedBody items) targets.0 own (params_scene (function_scopes kind name f) (starts_of (inner_function kind name f)) callee outer) refl)
      (body_finishes (function_scopes kind name f) (starts_of (inner_function kind name f)) (params_base (function_scopes kind name f) callee outer) (scope_count callee + 1) (has_initializer ps) (param_names ps) items
      (vars_at names uses inner (body_var_inner items) (block_inner items) (scopes_stmts items) callee vars (top_lexical_names items))
      (lexical_at names uses inner (body_var_inner items) (block_inner items) (scopes_stmts items) callee vars (top_lexical_names items))
      (λ u has n. names_below f names own u (beside_among (param_names ps) (beside_params (has_initializer ps) (BracedBody items)) (special_names form (function_uses ps (BracedBody items))) u has) n)
      targets.1)

-- ---- the theorems

-- The code of a function in which each assignment goes to a place, and each break and continue has its target: bytes that stand
-- for it, or for commands that run alike, have a depth table with its try notes.
pub function_table : (kind : FuncKind) (name : Option Text) (f : Function) (outer : List LinkView) (texts : List (List ℕ)) (bytes : List ℕ) (commands : List Command) → FunctionTargets f → AllAlike (function_script kind name f outer).part.code commands → ShowsCommands texts bytes commands → length bytes < 2 ^ 64 → HasDepthTable bytes (function_script kind name f outer).part.notes
function_table kind name f outer texts bytes commands targets alike shows short = finishes_table texts bytes (function_code kind name f outer) commands (function_finishes kind name outer f targets) alike shows short

script_finishes : (items : Stmts) → StmtsTarget items [] → Finishes (script_code items) 0
script_finishes items targets = record {
  front = one (counted op.GlobalOrEvalDeclInstantiation (function_count items)) ++ stmts_code (script_setting items) items 1 [];
  last = op.RetRval;
  depth = 0;
  is = refl;
  runs = runs_both (runs_after no_exits (counted op.GlobalOrEvalDeclInstantiation (function_count items)) 0 0 refl) (stmts_run no_exits (script_setting items) items 1 [] 0 refl (no_frames no_exits) targets);
  stops = refl;
  room = omega arith;
}

-- the same of the code of a script itself
pub script_table : (items : Stmts) (end : ℕ) (texts : List (List ℕ)) (bytes : List ℕ) (commands : List Command) → StmtsTarget items [] → AllAlike (top_script items end).part.code commands → ShowsCommands texts bytes commands → length bytes < 2 ^ 64 → HasDepthTable bytes (top_script items end).part.notes
script_table items end texts bytes commands targets alike shows short = finishes_table texts bytes (script_code items) commands (script_finishes items targets) alike shows short
