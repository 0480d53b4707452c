-- The parts of a statement's code fit depths of the stack.
use Rattle.std.proofs.Common.{◌≡◌, ◌∙◌, ℕ, suc, ◌+◌, ◌<◌, ◌≤◌, Bool, true, false, if◌then◌else◌, List, [], ◌∷◌, ◌++◌, map, Option, Some, None, refl, sym, ap, subst, inl, inr, arith}
use Rattle.std.proofs.lemmas.Bool.Decides.{eqb_tells, leb_tells}
use Rattle.script_grammar.specs.declared.token.Decl.{Decl}
use Rattle.script_grammar.specs.declared.token.Decl.TheVariants as decl
use Rattle.script_grammar.specs.Tree.{Named, Expr, MaybeExpr, no_expr, some_expr, Function, Binds, no_binds, more_binds, Init, NoInit, ValueInit, BindsInit, Each, TargetEach, BindEach, Clauses, no_clauses, more_clauses, Stmt, Stmts, no_stmts, more_stmts, Block, Declared}
use Rattle.stencil_data.specs.Named.{NamedScope}
use Rattle.stencil_data.specs.declared.scopes.Place.{Place}
use Rattle.stencil_data.specs.declared.scopes.Place.TheVariants as place
use Rattle.stencil_data.specs.Resolve.{resolve}
use Rattle.scope_analysis.specs.DeclaredNames.{Declaration, function_name}
use Rattle.bytecode_buf.specs.declared.opcode.Op.TheVariants as op
use Rattle.bytecode_buf.specs.declared.waits.Aim.TheVariants as aim
use Rattle.bytecode_buf.specs.Command.{plain, counted, named}
use Rattle.bytecode_buf.specs.Pieces.{Code}
use Rattle.emit_exprs.specs.Names.{base}
use Rattle.emit_exprs.specs.declared.uses.Use.TheVariants.{Plainly, Reached}
use Rattle.emit_exprs.specs.Exprs.{Scene, expr_code, target_of, Target, ToName, ToProp, ToElem, NoTarget, base_size, reach_size}
use Rattle.emit_stmts.specs.Frames.{Frame, Entered, scope_at, has_env, kept_values}
use Rattle.emit_stmts.specs.Stmts.{Setting, scene_at, push_env, hiding, hidden_slots, enter_scope, initializing, declaring, declared_in, block_functions, clause_functions, in_scope, var_code, value_or_undefined, lexical_code, bind_code, binds_code, init_code, freshen, test_code, update_code, swapped, store_name, store_target, store_bound, store_each, while_code, do_code, for_code, for_in_code, then_code, choice_code, case_code, cases_code, default_aim, catch_code, catch_enter, catch_leave, try_code, return_code, result_code}
use Rattle.bytecode_flow_laws.specs.Depths.{Exits, with_exit, Runs, raised, depth_behind}
use Rattle.bytecode_flow_laws.proofs.Joining.{runs_none, runs_both}
use Rattle.bytecode_flow_laws.proofs.Landing.{runs_here, runs_turning, runs_turning_if, runs_trying}
use Rattle.bytecode_flow_laws.proofs.Running.{runs_after, runs_whole, runs_end, runs_pick, runs_goto, runs_if_false, runs_if_true, runs_case}
use Rattle.emit_depth_laws.specs.Assigning.{IsPlace, ExprAssigns, MaybeExprAssigns}
use Rattle.emit_depth_laws.specs.Targets.{BindsAssign, InitAssigns, EachAssigns}
use Rattle.emit_depth_laws.proofs.RunningPieces.{runs_to, runs_if, runs_just, basing_runs, writing_runs, init_runs, lambda_runs, below_name}
use Rattle.emit_depth_laws.proofs.RunningExprs.{place_depth, place_reached, code_runs}
use Rattle.emit_depth_laws.proofs.RunningFrames.{HasExits, leave_runs, break_exit}
use Rattle.emit_depth_laws.proofs.RunningFrames as RunningFrames

pub expr_runs : (outs : Exits) (scene : Scene) (e : Expr) (d : ℕ) → ExprAssigns e → Runs outs (expr_code scene e) d (suc d)
expr_runs outs scene e d h = code_runs outs scene Plainly e d h

-- ---- scopes

pub push_runs : (outs : Exits) (s : NamedScope) (number d : ℕ) → Runs outs (push_env op.PushLexicalEnv s number) d d
push_runs outs s number d = runs_if (has_env s) (runs_after outs (counted op.PushLexicalEnv number) d d refl) (runs_none outs d)

slots_behind : (slots : List ℕ) (d : ℕ) → depth_behind (map (λ (i : ℕ). counted op.InitLexical i) slots ++ (plain op.Pop ∷ [])) (suc d) ≡ Some d
slots_behind [] d = refl
slots_behind (s ∷ ss) d = slots_behind ss d

hiding_runs : (outs : Exits) (slots : List ℕ) (d : ℕ) → Runs outs (hiding slots) d d
hiding_runs outs [] d = runs_none outs d
hiding_runs outs (s ∷ ss) d = runs_whole outs (plain op.Uninitialized ∷ map (λ (i : ℕ). counted op.InitLexical i) (s ∷ ss) ++ (plain op.Pop ∷ [])) d d (slots_behind (s ∷ ss) d)

pub enter_runs : (outs : Exits) (the : Setting) (number d : ℕ) → Runs outs (enter_scope the number) d d
enter_runs outs the number d = runs_both (push_runs outs (scope_at the.scopes number) number d) (hiding_runs outs (hidden_slots (scope_at the.scopes number).bindings) d)

pub initializing_runs : (outs : Exits) (scene : Scene) (name : List ℕ) (d : ℕ) → Runs outs (initializing scene name) (suc d) (suc d)
initializing_runs outs scene name d = init_runs outs name (resolve scene.chain name) d

declaring_runs : (outs : Exits) (scene : Scene) (f : Function) (name : Option Named) (d : ℕ) → Runs outs (declaring scene f name) d d
declaring_runs outs scene f None d = runs_none outs d
declaring_runs outs scene f (Some name) d = runs_both (runs_both (lambda_runs outs scene f d) (initializing_runs outs scene name.text d)) (runs_just outs op.Pop (suc d) d refl)

declared_runs : (outs : Exits) (scene : Scene) (s : Stmt) (d : ℕ) → Runs outs (declared_in scene s) d d
declared_runs outs scene (Declared f) d = declaring_runs outs scene f (function_name f) d
declared_runs outs scene (Block items) d = runs_none outs d
declared_runs outs scene _ d = runs_none outs d

pub block_runs : (outs : Exits) (scene : Scene) (ss : Stmts) (d : ℕ) → Runs outs (block_functions scene ss) d d
block_runs outs scene no_stmts d = runs_none outs d
block_runs outs scene (more_stmts s rest) d = runs_both (declared_runs outs scene s d) (block_runs outs scene rest d)

pub clause_runs : (outs : Exits) (scene : Scene) (cs : Clauses) (d : ℕ) → Runs outs (clause_functions scene cs) d d
clause_runs outs scene no_clauses d = runs_none outs d
clause_runs outs scene (more_clauses test items rest) d = runs_both (block_runs outs scene items d) (clause_runs outs scene rest d)

-- frames with as many values, the same exits and the same goals
pub record Inside (outs : Exits) (frames around : List Frame) : Type 0 where
  pub kept : kept_values around ≡ kept_values frames
  pub exits : HasExits outs around
  pub bare : RunningFrames.bare around ≡ RunningFrames.bare frames

pub scope_runs : (outs : Exits) (the : Setting) (ds : List Declaration) (functions : Scene → Code) (content : ℕ → List Frame → Code) (number : ℕ) (frames : List Frame) (d e : ℕ) → HasExits outs frames → ((scene : Scene) → Runs outs (functions scene) d d) → ((n : ℕ) (around : List Frame) → Inside outs frames around → Runs outs (content n around) d e) → Runs outs (in_scope the ds functions content number frames) d e
scope_runs outs the [] functions content number frames d e h f c = runs_both (f (scene_at the frames)) (c number frames (record { kept = refl; exits = h; bare = refl }))
scope_runs outs the (x ∷ ds) functions content number frames d e h f c =
    runs_both (runs_both (runs_both (enter_runs outs the number d) (f (scene_at the (Entered number ∷ frames)))) (c (number + 1) (Entered number ∷ frames) (record { kept = refl; exits = record { out = h.out; again = h.again }; bare = refl }))) (leave_runs outs the.scopes number e)

-- ---- bindings

var_runs : (outs : Exits) (scene : Scene) (name : Named) (value : MaybeExpr) (d : ℕ) → MaybeExprAssigns value → Runs outs (var_code scene name value) d d
var_runs outs scene name no_expr d h = runs_none outs d
var_runs outs scene name (some_expr e) d h =
    runs_both (runs_both (runs_both (basing_runs outs scene name.text d) (expr_runs outs scene e (raised (below_name scene name.text) d) h)) (writing_runs outs scene name.text d)) (runs_just outs op.Pop (suc d) d refl)

pub value_runs : (outs : Exits) (scene : Scene) (value : MaybeExpr) (d : ℕ) → MaybeExprAssigns value → Runs outs (value_or_undefined scene value) d (suc d)
value_runs outs scene no_expr d h = runs_just outs op.Undefined d (suc d) refl
value_runs outs scene (some_expr e) d h = expr_runs outs scene e d h

lexical_runs : (outs : Exits) (scene : Scene) (name : Named) (value : MaybeExpr) (d : ℕ) → MaybeExprAssigns value → Runs outs (lexical_code scene name value) d d
lexical_runs outs scene name value d h = runs_both (runs_both (value_runs outs scene value d h) (initializing_runs outs scene name.text d)) (runs_just outs op.Pop (suc d) d refl)

bind_runs : (outs : Exits) (scene : Scene) (kind : Decl) (name : Named) (value : MaybeExpr) (d : ℕ) → MaybeExprAssigns value → Runs outs (bind_code scene kind name value) d d
bind_runs outs scene decl.Var name value d h = var_runs outs scene name value d h
bind_runs outs scene decl.Let name value d h = lexical_runs outs scene name value d h
bind_runs outs scene decl.Const name value d h = lexical_runs outs scene name value d h

pub binds_run : (outs : Exits) (scene : Scene) (kind : Decl) (binds : Binds) (d : ℕ) → BindsAssign binds → Runs outs (binds_code scene kind binds) d d
binds_run outs scene kind no_binds d h = runs_none outs d
binds_run outs scene kind (more_binds name value rest) d h = runs_both (bind_runs outs scene kind name value d h.0) (binds_run outs scene kind rest d h.1)

-- ---- heads of loops

pub init_of_runs : (outs : Exits) (scene : Scene) (init : Init) (d : ℕ) → InitAssigns init → Runs outs (init_code scene init) d d
init_of_runs outs scene NoInit d h = runs_none outs d
init_of_runs outs scene (ValueInit e) d h = runs_both (expr_runs outs scene e d h) (runs_just outs op.Pop (suc d) d refl)
init_of_runs outs scene (BindsInit kind binds) d h = binds_run outs scene kind binds d h

pub freshen_runs : (outs : Exits) (the : Setting) (ds : List Declaration) (number d : ℕ) → Runs outs (freshen the ds number) d d
freshen_runs outs the [] number d = runs_none outs d
freshen_runs outs the (x ∷ ds) number d = runs_if (has_env (scope_at the.scopes number)) (runs_just outs op.FreshenLexicalEnv d d refl) (runs_none outs d)

pub test_runs : (outs : Exits) (scene : Scene) (level : ℕ) (test : MaybeExpr) (d : ℕ) → outs (aim.Break level) ≡ Some d → MaybeExprAssigns test → Runs outs (test_code scene level test) d d
test_runs outs scene level no_expr d e h = runs_none outs d
test_runs outs scene level (some_expr test) d e h = runs_both (expr_runs outs scene test d h) (runs_if_false outs (aim.Break level) d e)

pub update_runs : (outs : Exits) (scene : Scene) (update : MaybeExpr) (d : ℕ) → MaybeExprAssigns update → Runs outs (update_code scene update) d d
update_runs outs scene no_expr d h = runs_none outs d
update_runs outs scene (some_expr e) d h = runs_both (expr_runs outs scene e d h) (runs_just outs op.Pop (suc d) d refl)

swapped_behind : (name : List ℕ) (p : Place) (d : ℕ) → depth_behind (swapped (base name p)) (suc d) ≡ Some (suc (raised (base_size (base name p)) d))
swapped_behind name place.Global d = refl
swapped_behind name (place.Arg index) d = refl
swapped_behind name (place.Frame slot kind) d = refl
swapped_behind name (place.Env hops slot kind) d = refl
swapped_behind name place.Callee d = refl

store_name_runs : (outs : Exits) (scene : Scene) (name : List ℕ) (d : ℕ) → Runs outs (store_name scene name) (suc d) (suc d)
store_name_runs outs scene name d = runs_both (runs_whole outs (swapped (base name (resolve scene.chain name))) (suc d) (suc (raised (below_name scene name) d)) (swapped_behind name (resolve scene.chain name) d)) (writing_runs outs scene name d)

store_target_runs : (outs : Exits) (scene : Scene) (e : Expr) (t : Target) (d : ℕ) → target_of e ≡ t → ExprAssigns e → Runs outs (store_target scene e t) (suc d) (suc d)
store_target_runs outs scene e (ToName name) d is h = store_name_runs outs scene name d
store_target_runs outs scene e (ToProp name) d is h =
    let place : place_depth scene e (suc d) ≡ suc (suc d) = place_reached scene e (suc d) (subst IsPlace (sym is) tt) ∙ ap (λ (t : Target). raised (reach_size scene t) (suc d)) is in
    runs_both (runs_to place (code_runs outs scene Reached e (suc d) h)) (runs_whole outs (plain op.Swap ∷ named op.StrictSetProp name ∷ []) (suc (suc d)) (suc d) refl)
store_target_runs outs scene e ToElem d is h =
    let place : place_depth scene e (suc d) ≡ suc (suc (suc d)) = place_reached scene e (suc d) (subst IsPlace (sym is) tt) ∙ ap (λ (t : Target). raised (reach_size scene t) (suc d)) is in
    runs_both (runs_to place (code_runs outs scene Reached e (suc d) h)) (runs_both (runs_pick outs 2 (suc (suc (suc d))) (omega arith)) (runs_just outs op.StrictSetElem (suc (suc (suc d))) (suc d) refl))
store_target_runs outs scene e NoTarget d is h = runs_none outs (suc d)

store_bound_runs : (outs : Exits) (scene : Scene) (kind : Decl) (name : List ℕ) (d : ℕ) → Runs outs (store_bound scene kind name) (suc d) (suc d)
store_bound_runs outs scene decl.Var name d = store_name_runs outs scene name d
store_bound_runs outs scene decl.Let name d = initializing_runs outs scene name d
store_bound_runs outs scene decl.Const name d = initializing_runs outs scene name d

pub store_each_runs : (outs : Exits) (scene : Scene) (each : Each) (d : ℕ) → EachAssigns each → Runs outs (store_each scene each) (suc d) (suc d)
store_each_runs outs scene (TargetEach e) d h = store_target_runs outs scene e (target_of e) d refl h
store_each_runs outs scene (BindEach kind name) d h = store_bound_runs outs scene kind name.text d

-- ---- loops

-- inside a loop
abbrev pub loop_outs : Exits → ℕ → ℕ → Exits
loop_outs outs level d = with_exit (aim.Continue level) d (with_exit (aim.Break level) d outs)

pub while_runs : (outs : Exits) (level : ℕ) {test body : Code} (d : ℕ) → Runs (loop_outs outs level d) test d (suc d) → Runs (loop_outs outs level d) body d d → Runs outs (while_code level test body) d d
while_runs outs level d t b =
    runs_here outs (aim.Break level) (runs_turning (with_exit (aim.Break level) d outs) d (runs_here (with_exit (aim.Break level) d outs) (aim.Continue level)
    (runs_both (runs_both (runs_both (runs_just (loop_outs outs level d) op.LoopHead d d refl) t) (runs_if_false (loop_outs outs level d) (aim.Break level) d (break_exit level d outs))) b)))

pub do_runs : (outs : Exits) (level : ℕ) {body test : Code} (d : ℕ) → Runs (loop_outs outs level d) body d d → Runs (with_exit (aim.Break level) d outs) test d (suc d) → Runs outs (do_code level body test) d d
do_runs outs level d b t =
    runs_here outs (aim.Break level) (runs_turning_if (with_exit (aim.Break level) d outs) (runs_both (runs_here (with_exit (aim.Break level) d outs) (aim.Continue level)
    (runs_both (runs_just (loop_outs outs level d) op.LoopHead d d refl) b)) t))

pub for_runs : (outs : Exits) (level : ℕ) {test body fresh update : Code} (d : ℕ) → Runs (loop_outs outs level d) test d d → Runs (loop_outs outs level d) body d d → Runs (with_exit (aim.Break level) d outs) fresh d d → Runs (with_exit (aim.Break level) d outs) update d d → Runs outs (for_code level test body fresh update) d d
for_runs outs level d t b f u =
    runs_here outs (aim.Break level) (runs_turning (with_exit (aim.Break level) d outs) d (runs_both (runs_both (runs_here (with_exit (aim.Break level) d outs) (aim.Continue level)
    (runs_both (runs_both (runs_just (loop_outs outs level d) op.LoopHead d d refl) t) b)) f) u))

-- the keys and the present one are two values more in the body
pub for_in_runs : (outs : Exits) (level : ℕ) {fresh store body : Code} (d : ℕ) → Runs (loop_outs outs level (suc (suc d))) fresh (suc (suc d)) (suc (suc d)) → Runs (loop_outs outs level (suc (suc d))) store (suc (suc (suc d))) (suc (suc (suc d))) → Runs (loop_outs outs level (suc (suc d))) body (suc (suc d)) (suc (suc d)) → Runs outs (for_in_code level fresh store body) (suc d) d
for_in_runs outs level d f s b =
    let inner : Exits = loop_outs outs level (suc (suc d)) in
    let outer : Exits = with_exit (aim.Break level) (suc (suc d)) outs in
    runs_both (runs_here outs (aim.Break level) (runs_turning outer (suc (suc d)) (runs_both (runs_here outer (aim.Continue level)
    (runs_both (runs_both (runs_both (runs_both (runs_both (runs_both
    (runs_whole inner (plain op.LoopHead ∷ plain op.MoreIter ∷ plain op.IsNoIter ∷ []) (suc d) (suc (suc (suc d))) refl)
    (runs_if_true inner (aim.Break level) (suc (suc d)) (break_exit level (suc (suc d)) outs)))
    f) (runs_just inner op.Dup (suc (suc d)) (suc (suc (suc d))) refl)) s) (runs_just inner op.Pop (suc (suc (suc d))) (suc (suc d)) refl)) b))
    (runs_just outer op.Pop (suc (suc d)) (suc d) refl))))
    (runs_just outs op.EndIter (suc (suc d)) d refl)

-- ---- choices

pub then_runs : (outs : Exits) {test body : Code} (d : ℕ) → Runs (with_exit aim.Otherwise d outs) test d (suc d) → Runs (with_exit aim.Otherwise d outs) body d d → Runs outs (then_code test body) d d
then_runs outs d t b = runs_here outs aim.Otherwise (runs_both (runs_both t (runs_if_false (with_exit aim.Otherwise d outs) aim.Otherwise d refl)) b)

pub choice_runs : (outs : Exits) {test first second : Code} (d : ℕ) → Runs (with_exit aim.Otherwise d (with_exit aim.After d outs)) test d (suc d) → Runs (with_exit aim.Otherwise d (with_exit aim.After d outs)) first d d → Runs (with_exit aim.After d outs) second d d → Runs outs (choice_code test first second) d d
choice_runs outs d t f s =
    let outer : Exits = with_exit aim.After d outs in
    let inner : Exits = with_exit aim.Otherwise d outer in
    runs_here outs aim.After (runs_both (runs_here outer aim.Otherwise (runs_both (runs_both (runs_both t (runs_if_false inner aim.Otherwise d refl)) f) (runs_goto inner aim.After d d refl))) s)

-- ---- switch

abbrev pub clause_count : Clauses → ℕ
clause_count no_clauses = 0
clause_count (more_clauses test items rest) = suc (clause_count rest)

-- each clause from a place on has its exit, and the way out
pub record SwitchExits (outs : Exits) (place : ℕ) (cs : Clauses) (level d : ℕ) : Type 0 where
  pub clause : (k : ℕ) → place ≤ k → k < place + clause_count cs → outs (aim.Clause k) ≡ Some d
  pub out : outs (aim.Break level) ≡ Some d

-- the exits of the clauses from a place on
abbrev pub clause_outs : ℕ → Clauses → ℕ → Exits → Exits
clause_outs place no_clauses d outs = outs
clause_outs place (more_clauses test items rest) d outs = with_exit (aim.Clause place) d (clause_outs (place + 1) rest d outs)

clauses_keep : (place : ℕ) (cs : Clauses) (d : ℕ) (outs : Exits) (level : ℕ) → clause_outs place cs d outs (aim.Break level) ≡ outs (aim.Break level)
clauses_keep place no_clauses d outs level = refl
clauses_keep place (more_clauses test items rest) d outs level = clauses_keep (place + 1) rest d outs level

clauses_keep_again : (place : ℕ) (cs : Clauses) (d : ℕ) (outs : Exits) (level : ℕ) → clause_outs place cs d outs (aim.Continue level) ≡ outs (aim.Continue level)
clauses_keep_again place no_clauses d outs level = refl
clauses_keep_again place (more_clauses test items rest) d outs level = clauses_keep_again (place + 1) rest d outs level

pub clause_frames : (place : ℕ) (cs : Clauses) (d : ℕ) (outs : Exits) (frames : List Frame) → HasExits outs frames → HasExits (clause_outs place cs d outs) frames
clause_frames place cs d outs frames h = record {
  out = λ level x k. clauses_keep place cs d outs level ∙ h.out level x k;
  again = λ level x k. clauses_keep_again place cs d outs level ∙ h.again level x k;
}

clause_there : (place : ℕ) (cs : Clauses) (d : ℕ) (outs : Exits) (k : ℕ) → place ≤ k → k < place + clause_count cs → clause_outs place cs d outs (aim.Clause k) ≡ Some d
clause_there place no_clauses d outs k from to = absurd (omega arith)
clause_there place (more_clauses test items rest) d outs k from to = elim (eqb_tells place k) [
  | inl same ↦ ap (λ (b : Bool). if b then Some d else clause_outs (place + 1) rest d outs (aim.Clause k)) same.0
  | inr other ↦
      let more : place + 1 ≤ k = beyond place k from other.1 in
      ap (λ (b : Bool). if b then Some d else clause_outs (place + 1) rest d outs (aim.Clause k)) other.0 ∙ clause_there (place + 1) rest d outs k more (omega arith)
]
  where
    beyond : (a b : ℕ) → a ≤ b → (a ≡ b → ⊥) → a + 1 ≤ b
    beyond a b le ne = elim (leb_tells b a) [ inr under ↦ omega (arith, under.1) | inl over ↦ absurd (ne (omega (arith, over.1))) ]

pub switch_outs : (place : ℕ) (cs : Clauses) (d : ℕ) (outs : Exits) (level : ℕ) → outs (aim.Break level) ≡ Some d → SwitchExits (clause_outs place cs d outs) place cs level d
switch_outs place cs d outs level h = record { clause = λ k from to. clause_there place cs d outs k from to; out = clauses_keep place cs d outs level ∙ h }

later_clauses : (outs : Exits) (place : ℕ) (test : MaybeExpr) (items : Stmts) (rest : Clauses) (level d : ℕ) → SwitchExits outs place (more_clauses test items rest) level d → SwitchExits outs (place + 1) rest level d
later_clauses outs place test items rest level d h = record { clause = λ k from to. h.clause k (omega arith) (omega arith); out = h.out }

first_clause : (outs : Exits) (place : ℕ) (test : MaybeExpr) (items : Stmts) (rest : Clauses) (level d : ℕ) → SwitchExits outs place (more_clauses test items rest) level d → outs (aim.Clause place) ≡ Some d
first_clause outs place test items rest level d h = h.clause place (omega arith) (omega arith)

case_runs : (outs : Exits) (scene : Scene) (place : ℕ) (test : MaybeExpr) (d : ℕ) → outs (aim.Clause place) ≡ Some d → MaybeExprAssigns test → Runs outs (case_code scene place test) (suc d) (suc d)
case_runs outs scene place no_expr d e h = runs_none outs (suc d)
case_runs outs scene place (some_expr test) d e h =
    runs_both (runs_both (runs_both (runs_just outs op.Dup (suc d) (suc (suc d)) refl) (expr_runs outs scene test (suc (suc d)) h)) (runs_just outs op.StrictEq (suc (suc (suc d))) (suc (suc d)) refl)) (runs_case outs (aim.Clause place) d e)

abbrev pub TestsAssign : Clauses → Type 0
TestsAssign no_clauses = Unit {0}
TestsAssign (more_clauses test items rest) = MaybeExprAssigns test × TestsAssign rest

pub cases_run : (outs : Exits) (scene : Scene) (place : ℕ) (cs : Clauses) (level d : ℕ) → SwitchExits outs place cs level d → TestsAssign cs → Runs outs (cases_code scene place cs) (suc d) (suc d)
cases_run outs scene place no_clauses level d e h = runs_none outs (suc d)
cases_run outs scene place (more_clauses test items rest) level d e h =
    runs_both (case_runs outs scene place test d (first_clause outs place test items rest level d e) h.0) (cases_run outs scene (place + 1) rest level d (later_clauses outs place test items rest level d e) h.1)

pub default_exit : (outs : Exits) (level place : ℕ) (cs : Clauses) (d : ℕ) → SwitchExits outs place cs level d → outs (default_aim level place cs) ≡ Some d
default_exit outs level place no_clauses d e = e.out
default_exit outs level place (more_clauses no_expr items rest) d e = first_clause outs place no_expr items rest level d e
default_exit outs level place (more_clauses (some_expr test) items rest) d e = default_exit outs level (place + 1) rest d (later_clauses outs place (some_expr test) items rest level d e)

-- ---- try and leaving

pub catch_runs : (outs : Exits) (scene : Scene) (param : Option Named) (d : ℕ) → Runs outs (catch_code scene param) d d
catch_runs outs scene None d = runs_whole outs (plain op.Exception ∷ plain op.Pop ∷ []) d d refl
catch_runs outs scene (Some name) d = runs_both (runs_both (runs_just outs op.Exception d (suc d) refl) (initializing_runs outs scene name.text d)) (runs_just outs op.Pop (suc d) d refl)

pub catch_enter_runs : (outs : Exits) (the : Setting) (ds : List Declaration) (number d : ℕ) → Runs outs (catch_enter the ds number) d d
catch_enter_runs outs the [] number d = runs_none outs d
catch_enter_runs outs the (x ∷ ds) number d = push_runs outs (scope_at the.scopes number) number d

pub catch_leave_runs : (outs : Exits) (the : Setting) (ds : List Declaration) (number d : ℕ) → Runs outs (catch_leave the ds number) d d
catch_leave_runs outs the [] number d = runs_none outs d
catch_leave_runs outs the (x ∷ ds) number d = leave_runs outs the.scopes number d

pub try_runs : (outs : Exits) {block handler : Code} (d : ℕ) → Runs (with_exit aim.After d outs) block d d → Runs (with_exit aim.After d outs) handler d d → Runs outs (try_code d block handler) d d
try_runs outs d b h =
    let inner : Exits = with_exit aim.After d outs in
    runs_here outs aim.After (runs_both (runs_trying (runs_both b (runs_goto inner aim.After d d refl)) (runs_just inner op.JumpTarget d d refl)) h)

pub return_runs : (outs : Exits) {value : Code} (leaves : Code) (d e : ℕ) → Runs outs value d (suc d) → Runs outs leaves d 0 → Runs outs (return_code value leaves) d e
return_runs outs [] d e v l = runs_both v (runs_end outs (plain op.Return) (suc d) e refl (omega arith))
return_runs outs (x ∷ xs) d e v l = runs_both (runs_both (runs_both v (runs_just outs op.SetRval (suc d) d refl)) l) (runs_end outs (plain op.RetRval) 0 e refl (omega arith))

pub result_runs : (outs : Exits) (is_script : Bool) (d : ℕ) → Runs outs (result_code is_script) (suc d) d
result_runs outs true d = runs_just outs op.SetRval (suc d) d refl
result_runs outs false d = runs_just outs op.Pop (suc d) d refl
