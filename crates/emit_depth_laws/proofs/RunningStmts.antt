-- The code of a statement fits depths of the stack: it leaves as many values as there were, those that the for-ins around keep.
use Rattle.std.proofs.Common.{◌≡◌, ◌∙◌, ℕ, suc, ◌+◌, IsTrue, List, [], ◌∷◌, ◌++◌, length, refl, sym, subst, arith}
use Rattle.script_grammar.specs.Tree.{MaybeExpr, Clauses, no_clauses, more_clauses, Stmt, Stmts, no_stmts, more_stmts, no_stmt, some_stmt, Block, Empty, Debugger, Binding, Value, If, Do, While, For, ForIn, Continue, Break, Return, Throw, Switch, Label, Try, Declared}
use Rattle.scope_analysis.specs.DeclaredNames.{Declaration, lexical_names, clauses_lexical_names, init_lexical_names, each_lexical_names}
use Rattle.scope_analysis.specs.Scopes.{scope_count, catch_names, count_stmt, count_stmts}
use Rattle.bytecode_buf.specs.declared.opcode.Op.TheVariants as op
use Rattle.bytecode_buf.specs.declared.waits.Aim.TheVariants as aim
use Rattle.bytecode_buf.specs.Command.{plain}
use Rattle.bytecode_buf.specs.Pieces.{Waiting, Code, here}
use Rattle.emit_stmts.specs.Frames.{Frame, Loop, KeysLoop, Switching, Labelled, kept_values, exits, Goal, Out, Again, leaving}
use Rattle.emit_stmts.specs.Stmts.{Setting, scene_at, block_functions, clause_functions, no_functions, frames_in, label_text, stmt_code, stmts_code, clauses_code, in_scope, try_code, init_code, freshen, for_code, for_in_code, test_code, update_code, store_each, value_at, cases_code, default_aim}
use Rattle.emit_exprs.specs.Whole.{just}
use Rattle.bytecode_flow_laws.specs.Depths.{Exits, with_exit, Runs}
use Rattle.bytecode_flow_laws.proofs.Joining.{runs_none, runs_both}
use Rattle.bytecode_flow_laws.proofs.Landing.{runs_here}
use Rattle.bytecode_flow_laws.proofs.Running.{runs_end, runs_default}
use Rattle.emit_depth_laws.specs.Targets.{has_goal, StmtTargets, StmtsTarget, ClausesTarget}
use Rattle.emit_depth_laws.proofs.RunningPieces.{runs_from, runs_just}
use Rattle.emit_depth_laws.proofs.RunningFrames.{bare, HasExits, loop_exits, keys_exits, switch_exits, label_exits, break_exit, exits_run, leaving_runs, goal_bare}
use Rattle.emit_depth_laws.proofs.RunningParts.{expr_runs, block_runs, clause_runs, Inside, scope_runs, binds_run, value_runs, init_of_runs, freshen_runs, test_runs, update_runs, store_each_runs, loop_outs, while_runs, do_runs, for_runs, for_in_runs, then_runs, choice_runs, clause_outs, clause_frames, SwitchExits, switch_outs, TestsAssign, cases_run, default_exit, catch_runs, catch_enter_runs, catch_leave_runs, try_runs, return_runs, result_runs}

-- exits of expressions alone
beside : (outs : Exits) (frames : List Frame) (d : ℕ) → HasExits outs frames → HasExits (with_exit aim.Otherwise d outs) frames
beside outs frames d h = record { out = h.out; again = h.again }

behind : (outs : Exits) (frames : List Frame) (d : ℕ) → HasExits outs frames → HasExits (with_exit aim.After d outs) frames
behind outs frames d h = record { out = h.out; again = h.again }

tests : (cs : Clauses) (frames : List Frame) → ClausesTarget cs frames → TestsAssign cs
tests no_clauses frames h = tt
tests (more_clauses test items rest) frames h = (h.0, tests rest frames h.2)

two_kept : (d n : ℕ) → d ≡ n → suc (suc d) ≡ 2 + n
two_kept d n e = omega arith

-- a jump away, where the values are those that are kept
leaves : (outs : Exits) (the : Setting) (goal : Goal) (frames : List Frame) (d : ℕ) → d ≡ kept_values frames → HasExits outs frames → IsTrue (has_goal goal (bare frames)) → Runs outs (leaving the.scopes goal frames) d d
leaves outs the goal frames d k h t = runs_from (sym k) (leaving_runs outs the.scopes goal frames d h (subst IsTrue (goal_bare goal frames) t))

returns : (outs : Exits) (the : Setting) (value : MaybeExpr) (frames : List Frame) (d : ℕ) → d ≡ kept_values frames → Runs outs (exits the.scopes frames) d 0
returns outs the value frames d k = runs_from (sym k) (exits_run outs the.scopes frames)

tried : (outs : Exits) (kept d : ℕ) {block handler : Code} → d ≡ kept → Runs (with_exit aim.After d outs) block d d → Runs (with_exit aim.After d outs) handler d d → Runs outs (try_code kept block handler) d d
tried outs kept d {block} {handler} k b h = subst (λ (n : ℕ). Runs outs (try_code n block handler) d d) k (try_runs outs d b h)

-- inside the scope of a catch parameter
in_kept : (ds : List Declaration) (number : ℕ) (frames : List Frame) → kept_values (frames_in ds number frames) ≡ kept_values frames
in_kept [] number frames = refl
in_kept (x ∷ ds) number frames = refl

in_bare : (ds : List Declaration) (number : ℕ) (frames : List Frame) → bare (frames_in ds number frames) ≡ bare frames
in_bare [] number frames = refl
in_bare (x ∷ ds) number frames = refl

in_exits : (ds : List Declaration) (outs : Exits) (number : ℕ) (frames : List Frame) → HasExits outs frames → HasExits outs (frames_in ds number frames)
in_exits [] outs number frames h = h
in_exits (x ∷ ds) outs number frames h = record { out = h.out; again = h.again }

block_of : (outs : Exits) (the : Setting) (items : Stmts) (number : ℕ) (frames : List Frame) (d : ℕ) → HasExits outs frames → ((n : ℕ) (around : List Frame) → Inside outs frames around → Runs outs (stmts_code the items n around) d d) → Runs outs (in_scope the (lexical_names items) (λ scene. block_functions scene items) (stmts_code the items) number frames) d d
block_of outs the items number frames d h run = scope_runs outs the (lexical_names items) (λ scene. block_functions scene items) (stmts_code the items) number frames d d h (λ scene. block_runs outs scene items d) run

mutual
  pub stmt_runs : (outs : Exits) (the : Setting) (s : Stmt) (number : ℕ) (frames : List Frame) (d : ℕ) → d ≡ kept_values frames → HasExits outs frames → StmtTargets s (bare frames) → Runs outs (stmt_code the s number frames) d d
  stmt_runs outs the (Block items) number frames d k h t =
      block_of outs the items number frames d h (λ n around i. stmts_run outs the items n around d (k ∙ sym i.kept) i.exits (subst (StmtsTarget items) (sym i.bare) t))
  stmt_runs outs the Empty number frames d k h t = runs_none outs d
  stmt_runs outs the (Debugger semi) number frames d k h t = runs_just outs op.Debugger d d refl
  stmt_runs outs the (Binding kind binds semi) number frames d k h t = binds_run outs (scene_at the frames) kind binds d t
  stmt_runs outs the (Value value semi) number frames d k h t = runs_both (expr_runs outs (scene_at the frames) value d t) (result_runs outs the.is_script d)
  stmt_runs outs the (If test then_stmt no_stmt) number frames d k h t =
      then_runs outs d (expr_runs (with_exit aim.Otherwise d outs) (scene_at the frames) test d t.0) (stmt_runs (with_exit aim.Otherwise d outs) the then_stmt number frames d k (beside outs frames d h) t.1)
  stmt_runs outs the (If test then_stmt (some_stmt else_stmt)) number frames d k h t =
      let outer : Exits = with_exit aim.After d outs in
      let inner : Exits = with_exit aim.Otherwise d outer in
      choice_runs outs d (expr_runs inner (scene_at the frames) test d t.0) (stmt_runs inner the then_stmt number frames d k (beside outer frames d (behind outs frames d h)) t.1) (stmt_runs outer the else_stmt (number + count_stmt then_stmt) frames d k (behind outs frames d h) t.2)
  stmt_runs outs the (Do body test semi) number frames d k h t =
      do_runs outs (length frames) d (stmt_runs (loop_outs outs (length frames) d) the body number (Loop ∷ frames) d k (loop_exits outs frames d k h) t.0) (expr_runs (with_exit (aim.Break (length frames)) d outs) (scene_at the (Loop ∷ frames)) test d t.1)
  stmt_runs outs the (While test body) number frames d k h t =
      while_runs outs (length frames) d (expr_runs (loop_outs outs (length frames) d) (scene_at the (Loop ∷ frames)) test d t.0) (stmt_runs (loop_outs outs (length frames) d) the body number (Loop ∷ frames) d k (loop_exits outs frames d k h) t.1)
  stmt_runs outs the (For init test update body) number frames d k h t =
      scope_runs outs the (init_lexical_names init) no_functions
      (λ inside around.
      init_code (scene_at the around) init ++ freshen the (init_lexical_names init) number
      ++ for_code (length around) (test_code (scene_at the (Loop ∷ around)) (length around) test) (stmt_code the body inside (Loop ∷ around))
      (freshen the (init_lexical_names init) number) (update_code (scene_at the (Loop ∷ around)) update))
      number frames d d h (λ scene. runs_none outs d)
      (λ n around i.
      let kept : d ≡ kept_values around = k ∙ sym i.kept in
      let inner : Exits = loop_outs outs (length around) d in
      let outer : Exits = with_exit (aim.Break (length around)) d outs in
      runs_both (runs_both (init_of_runs outs (scene_at the around) init d t.0) (freshen_runs outs the (init_lexical_names init) number d))
      (for_runs outs (length around) d (test_runs inner (scene_at the (Loop ∷ around)) (length around) test d (break_exit (length around) d outs) t.1)
      (stmt_runs inner the body n (Loop ∷ around) d kept (loop_exits outs around d kept i.exits) (subst (λ (fs : List Frame). StmtTargets body (Loop ∷ fs)) (sym i.bare) t.3))
      (freshen_runs outer the (init_lexical_names init) number d) (update_runs outer (scene_at the (Loop ∷ around)) update d t.2)))
  stmt_runs outs the (ForIn each over body) number frames d k h t =
      scope_runs outs the (each_lexical_names each) no_functions
      (λ inside around.
      value_at the around over ++ just op.Iter
      ++ for_in_code (length around) (freshen the (each_lexical_names each) number) (store_each (scene_at the (KeysLoop ∷ around)) each) (stmt_code the body inside (KeysLoop ∷ around)))
      number frames d d h (λ scene. runs_none outs d)
      (λ n around i.
      let kept : suc (suc d) ≡ 2 + kept_values around = two_kept d (kept_values around) (k ∙ sym i.kept) in
      let inner : Exits = loop_outs outs (length around) (suc (suc d)) in
      runs_both (runs_both (expr_runs outs (scene_at the around) over d t.1) (runs_just outs op.Iter (suc d) (suc d) refl))
      (for_in_runs outs (length around) d (freshen_runs inner the (each_lexical_names each) number (suc (suc d))) (store_each_runs inner (scene_at the (KeysLoop ∷ around)) each (suc (suc d)) t.0)
      (stmt_runs inner the body n (KeysLoop ∷ around) (suc (suc d)) kept (keys_exits outs around (suc (suc d)) kept i.exits) (subst (λ (fs : List Frame). StmtTargets body (KeysLoop ∷ fs)) (sym i.bare) t.2))))
  stmt_runs outs the (Continue at label semi) number frames d k h t = leaves outs the (Again (label_text label)) frames d k h t
  stmt_runs outs the (Break at label semi) number frames d k h t = leaves outs the (Out (label_text label)) frames d k h t
  stmt_runs outs the (Return value semi) number frames d k h t = return_runs outs (exits the.scopes frames) d d (value_runs outs (scene_at the frames) value d t) (returns outs the value frames d k)
  stmt_runs outs the (Throw value semi) number frames d k h t = runs_both (expr_runs outs (scene_at the frames) value d t) (runs_end outs (plain op.Throw) (suc d) d refl (omega arith))
  stmt_runs outs the (Switch of clauses) number frames d k h t =
      runs_both (expr_runs outs (scene_at the frames) of d t.0)
      (scope_runs outs the (clauses_lexical_names clauses) (λ scene. clause_functions scene clauses)
      (λ inside around.
      here (aim.Break (length around))
      (clauses_code the 0 clauses inside (Switching ∷ around)
      (cases_code (scene_at the (Switching ∷ around)) 0 clauses ++ (Waiting op.Default (default_aim (length around) 0 clauses) ∷ []))))
      number frames (suc d) d h (λ scene. clause_runs outs scene clauses (suc d))
      (λ n around i.
      let kept : d ≡ kept_values around = k ∙ sym i.kept in
      let outer : Exits = with_exit (aim.Break (length around)) d outs in
      let inner : Exits = clause_outs 0 clauses d outer in
      let there : SwitchExits inner 0 clauses (length around) d = switch_outs 0 clauses d outer (length around) (break_exit (length around) d outs) in
      runs_here outs (aim.Break (length around))
      (clauses_run outer the 0 clauses n (Switching ∷ around) (suc d) d kept (switch_exits outs around d kept i.exits) (subst (λ (fs : List Frame). ClausesTarget clauses (Switching ∷ fs)) (sym i.bare) t.1)
      (runs_both (cases_run inner (scene_at the (Switching ∷ around)) 0 clauses (length around) d there (tests clauses (Switching ∷ bare frames) t.1))
      (runs_default inner (default_aim (length around) 0 clauses) d d (default_exit inner (length around) 0 clauses d there))))))
  stmt_runs outs the (Label name body) number frames d k h t =
      runs_here outs (aim.Break (length frames)) (stmt_runs (with_exit (aim.Break (length frames)) d outs) the body number (Labelled name.text ∷ frames) d k (label_exits outs name.text frames d k h) t)
  stmt_runs outs the (Try body param handler) number frames d k h t =
      let outer : Exits = with_exit aim.After d outs in
      let inside : ℕ = number + (scope_count (lexical_names body) + count_stmts body) in
      tried outs (kept_values frames) d k
      (block_of outer the body number frames d (behind outs frames d h) (λ n around i. stmts_run outer the body n around d (k ∙ sym i.kept) i.exits (subst (StmtsTarget body) (sym i.bare) t.0)))
      (runs_both (runs_both (runs_both (catch_enter_runs outer the (catch_names param) inside d)
      (catch_runs outer (scene_at the (frames_in (catch_names param) inside frames)) param d))
      (block_of outer the handler (inside + scope_count (catch_names param)) (frames_in (catch_names param) inside frames) d (in_exits (catch_names param) outer inside frames (behind outs frames d h))
      (λ n around i. stmts_run outer the handler n around d (k ∙ sym (in_kept (catch_names param) inside frames) ∙ sym i.kept) i.exits (subst (StmtsTarget handler) (sym (in_bare (catch_names param) inside frames) ∙ sym i.bare) t.1))))
      (catch_leave_runs outer the (catch_names param) inside d))
  stmt_runs outs the (Declared f) number frames d k h t = runs_none outs d

  pub stmts_run : (outs : Exits) (the : Setting) (ss : Stmts) (number : ℕ) (frames : List Frame) (d : ℕ) → d ≡ kept_values frames → HasExits outs frames → StmtsTarget ss (bare frames) → Runs outs (stmts_code the ss number frames) d d
  stmts_run outs the no_stmts number frames d k h t = runs_none outs d
  stmts_run outs the (more_stmts s rest) number frames d k h t = runs_both (stmt_runs outs the s number frames d k h t.0) (stmts_run outs the rest (number + count_stmt s) frames d k h t.1)

  clauses_run : (outs : Exits) (the : Setting) (place : ℕ) (cs : Clauses) (number : ℕ) (frames : List Frame) {before : Code} (first d : ℕ) → d ≡ kept_values frames → HasExits outs frames → ClausesTarget cs (bare frames) → Runs (clause_outs place cs d outs) before first d → Runs outs (clauses_code the place cs number frames before) first d
  clauses_run outs the place no_clauses number frames first d k h t r = r
  clauses_run outs the place (more_clauses test items rest) number frames first d k h t r =
      let later : Exits = clause_outs (place + 1) rest d outs in
      clauses_run outs the (place + 1) rest (number + count_stmts items) frames first d k h t.2
      (runs_both (runs_here later (aim.Clause place) r) (stmts_run later the items number frames d k (clause_frames (place + 1) rest d outs frames h) t.1))
