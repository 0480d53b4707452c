-- The jumps in the code of a statement stay within it, but for those that wait.
use Rattle.std.proofs.Common.{ℕ, ◌+◌, Bool, true, false, List, [], ◌∷◌, ◌++◌, map, length, Option, Some, None}
use Rattle.script_grammar.specs.declared.token.Decl.{Decl}
use Rattle.script_grammar.specs.declared.token.Decl.TheVariants as decl
use Rattle.script_grammar.specs.Tree.{Named, Expr, MaybeExpr, no_expr, some_expr, Function, Binds, no_binds, more_binds, Init, NoInit, ValueInit, BindsInit, Each, TargetEach, BindEach, Clauses, no_clauses, more_clauses, Stmt, Stmts, no_stmts, more_stmts, no_stmt, some_stmt, Block, Empty, Debugger, Binding, Value, If, Do, While, For, ForIn, Continue, Break, Return, Throw, Switch, Label, Try, Declared}
use Rattle.stencil_data.specs.Named.{NamedScope}
use Rattle.stencil_data.specs.Resolve.{resolve}
use Rattle.scope_analysis.specs.DeclaredNames.{Declaration, function_name, lexical_names, clauses_lexical_names, init_lexical_names, each_lexical_names}
use Rattle.scope_analysis.specs.Scopes.{scope_count, catch_names, count_stmt, count_stmts}
use Rattle.bytecode_buf.specs.declared.opcode.Op.{Op}
use Rattle.bytecode_buf.specs.declared.opcode.Op.TheVariants as op
use Rattle.bytecode_buf.specs.declared.waits.Aim.TheVariants as aim
use Rattle.bytecode_buf.specs.Command.{Command, plain, counted, named}
use Rattle.bytecode_buf.specs.Pieces.{Waiting, Code, size}
use Rattle.emit_exprs.specs.Names.{base, init}
use Rattle.emit_exprs.specs.declared.uses.Use.TheVariants.{Plainly, Reached}
use Rattle.emit_exprs.specs.Exprs.{Scene, expr_code, target_of, Target, ToName, ToProp, ToElem, NoTarget}
use Rattle.emit_stmts.specs.Frames.{Frame, Loop, KeysLoop, Switching, Labelled, Entered, scope_at, has_env, leave_scope, exit, exits, Goal, Out, Again, is_meant, goal_aim, leaving}
use Rattle.emit_stmts.specs.Stmts.{Setting, scene_at, push_env, hiding, hidden_slots, enter_scope, initializing, declaring, assigning_function, declared_in, block_functions, clause_functions, in_scope, no_functions, frames_in, var_code, value_or_undefined, lexical_code, bind_code, binds_code, init_code, freshen, test_code, update_code, swapped, store_name, store_target, store_bound, store_each, while_code, do_code, for_code, for_in_code, then_code, choice_code, case_code, cases_code, default_aim, catch_code, catch_enter, catch_leave, try_code, return_code, result_code, label_text, stmt_code, stmts_code, clauses_code}
use Rattle.bytecode_flow_laws.specs.Staying.{Stays}
use Rattle.bytecode_flow_laws.proofs.Staying.{NoJumps, stays_none, stays_both, stays_waiting, stays_trying, stays_command, stays_whole, stays_here, stays_turning}
use Rattle.emit_depth_laws.proofs.StayingExprs.{stays_just, stays_if, init_no, base_no, writing_stays, basing_stays, lambda_stays, code_stays}

pub expr_stays : (scene : Scene) (e : Expr) → Stays (expr_code scene e)
expr_stays scene e = code_stays scene Plainly e

-- ---- entering a scope

pub push_stays : (push : Op) (s : NamedScope) (number : ℕ) → Stays (push_env push s number)
push_stays push s number = stays_if (has_env s) (stays_command (counted push number) tt) stays_none

slots_no : (slots : List ℕ) → NoJumps (map (λ (i : ℕ). counted op.InitLexical i) slots ++ (plain op.Pop ∷ []))
slots_no [] = (tt, tt)
slots_no (s ∷ ss) = (tt, slots_no ss)

hiding_stays : (slots : List ℕ) → Stays (hiding slots)
hiding_stays [] = stays_none
hiding_stays (s ∷ ss) = stays_whole (plain op.Uninitialized ∷ map (λ (i : ℕ). counted op.InitLexical i) (s ∷ ss) ++ (plain op.Pop ∷ [])) (tt, slots_no (s ∷ ss))

enter_stays : (the : Setting) (number : ℕ) → Stays (enter_scope the number)
enter_stays the number = stays_both (push_stays op.PushLexicalEnv (scope_at the.scopes number) number) (hiding_stays (hidden_slots (scope_at the.scopes number).bindings))

leave_stays : (scopes : List NamedScope) (number : ℕ) → Stays (leave_scope scopes number)
leave_stays scopes number = stays_if (has_env (scope_at scopes number)) (stays_just op.PopLexicalEnv) stays_none

pub initializing_stays : (scene : Scene) (name : List ℕ) → Stays (initializing scene name)
initializing_stays scene name = stays_whole (init name (resolve scene.chain name)) (init_no name (resolve scene.chain name))

declaring_stays : (scene : Scene) (f : Function) (name : Option Named) → Stays (declaring scene f name)
declaring_stays scene f None = stays_none
declaring_stays scene f (Some name) = stays_both (stays_both (lambda_stays scene f) (initializing_stays scene name.text)) (stays_just op.Pop)

pub assigning_stays : (scene : Scene) (f : Function) (name : Option Named) → Stays (assigning_function scene f name)
assigning_stays scene f None = stays_none
assigning_stays scene f (Some name) = stays_both (stays_both (lambda_stays scene f) (writing_stays scene name.text)) (stays_just op.Pop)

declared_stays : (scene : Scene) (s : Stmt) → Stays (declared_in scene s)
declared_stays scene (Declared f) = declaring_stays scene f (function_name f)
declared_stays scene (Block items) = stays_none
declared_stays scene _ = stays_none

block_stays : (scene : Scene) (ss : Stmts) → Stays (block_functions scene ss)
block_stays scene no_stmts = stays_none
block_stays scene (more_stmts s rest) = stays_both (declared_stays scene s) (block_stays scene rest)

clause_stays : (scene : Scene) (cs : Clauses) → Stays (clause_functions scene cs)
clause_stays scene no_clauses = stays_none
clause_stays scene (more_clauses test items rest) = stays_both (block_stays scene items) (clause_stays scene rest)

pub scope_stays : (the : Setting) (ds : List Declaration) (functions : Scene → Code) (content : ℕ → List Frame → Code) (number : ℕ) (frames : List Frame) → ((scene : Scene) → Stays (functions scene)) → ((n : ℕ) (around : List Frame) → Stays (content n around)) → Stays (in_scope the ds functions content number frames)
scope_stays the [] functions content number frames f c = stays_both (f (scene_at the frames)) (c number frames)
scope_stays the (d ∷ ds) functions content number frames f c =
    stays_both (stays_both (stays_both (enter_stays the number) (f (scene_at the (Entered number ∷ frames)))) (c (number + 1) (Entered number ∷ frames))) (leave_stays the.scopes number)

-- ---- bindings

var_stays : (scene : Scene) (name : Named) (value : MaybeExpr) → Stays (var_code scene name value)
var_stays scene name no_expr = stays_none
var_stays scene name (some_expr e) = stays_both (stays_both (stays_both (basing_stays scene name.text) (expr_stays scene e)) (writing_stays scene name.text)) (stays_just op.Pop)

value_stays : (scene : Scene) (value : MaybeExpr) → Stays (value_or_undefined scene value)
value_stays scene no_expr = stays_just op.Undefined
value_stays scene (some_expr e) = expr_stays scene e

lexical_stays : (scene : Scene) (name : Named) (value : MaybeExpr) → Stays (lexical_code scene name value)
lexical_stays scene name value = stays_both (stays_both (value_stays scene value) (initializing_stays scene name.text)) (stays_just op.Pop)

bind_stays : (scene : Scene) (kind : Decl) (name : Named) (value : MaybeExpr) → Stays (bind_code scene kind name value)
bind_stays scene decl.Var name value = var_stays scene name value
bind_stays scene decl.Let name value = lexical_stays scene name value
bind_stays scene decl.Const name value = lexical_stays scene name value

binds_stay : (scene : Scene) (kind : Decl) (binds : Binds) → Stays (binds_code scene kind binds)
binds_stay scene kind no_binds = stays_none
binds_stay scene kind (more_binds name value rest) = stays_both (bind_stays scene kind name value) (binds_stay scene kind rest)

-- ---- heads of loops

init_stays : (scene : Scene) (init : Init) → Stays (init_code scene init)
init_stays scene NoInit = stays_none
init_stays scene (ValueInit e) = stays_both (expr_stays scene e) (stays_just op.Pop)
init_stays scene (BindsInit kind binds) = binds_stay scene kind binds

freshen_stays : (the : Setting) (ds : List Declaration) (number : ℕ) → Stays (freshen the ds number)
freshen_stays the [] number = stays_none
freshen_stays the (d ∷ ds) number = stays_if (has_env (scope_at the.scopes number)) (stays_just op.FreshenLexicalEnv) stays_none

test_stays : (scene : Scene) (level : ℕ) (test : MaybeExpr) → Stays (test_code scene level test)
test_stays scene level no_expr = stays_none
test_stays scene level (some_expr e) = stays_both (expr_stays scene e) (stays_waiting op.JumpIfFalse (aim.Break level))

update_stays : (scene : Scene) (update : MaybeExpr) → Stays (update_code scene update)
update_stays scene no_expr = stays_none
update_stays scene (some_expr e) = stays_both (expr_stays scene e) (stays_just op.Pop)

both_no : (cs ds : List Command) → NoJumps cs → NoJumps ds → NoJumps (cs ++ ds)
both_no [] ds c d = d
both_no (x ∷ cs) ds c d = (c.0, both_no cs ds c.1 d)

swapped_no : (cs : List Command) → NoJumps cs → NoJumps (swapped cs)
swapped_no [] h = tt
swapped_no (c ∷ cs) h = both_no (c ∷ cs) (plain op.Swap ∷ []) h (tt, tt)

store_name_stays : (scene : Scene) (name : List ℕ) → Stays (store_name scene name)
store_name_stays scene name = stays_both (stays_whole (swapped (base name (resolve scene.chain name))) (swapped_no (base name (resolve scene.chain name)) (base_no name (resolve scene.chain name)))) (writing_stays scene name)

store_target_stays : (scene : Scene) (e : Expr) (t : Target) → Stays (store_target scene e t)
store_target_stays scene e (ToName name) = store_name_stays scene name
store_target_stays scene e (ToProp name) = stays_both (code_stays scene Reached e) (stays_whole (plain op.Swap ∷ named op.StrictSetProp name ∷ []) (tt, (tt, tt)))
store_target_stays scene e ToElem = stays_both (code_stays scene Reached e) (stays_whole (counted op.Pick 2 ∷ plain op.StrictSetElem ∷ []) (tt, (tt, tt)))
store_target_stays scene e NoTarget = stays_none

store_bound_stays : (scene : Scene) (kind : Decl) (name : List ℕ) → Stays (store_bound scene kind name)
store_bound_stays scene decl.Var name = store_name_stays scene name
store_bound_stays scene decl.Let name = initializing_stays scene name
store_bound_stays scene decl.Const name = initializing_stays scene name

store_each_stays : (scene : Scene) (each : Each) → Stays (store_each scene each)
store_each_stays scene (TargetEach e) = store_target_stays scene e (target_of e)
store_each_stays scene (BindEach kind name) = store_bound_stays scene kind name.text

-- ---- loops and choices

while_stays : (level : ℕ) {test body : Code} → Stays test → Stays body → Stays (while_code level test body)
while_stays level t b = stays_here (aim.Break level) (stays_turning op.Goto (stays_here (aim.Continue level) (stays_both (stays_both (stays_both (stays_just op.LoopHead) t) (stays_waiting op.JumpIfFalse (aim.Break level))) b)))

do_stays : (level : ℕ) {body test : Code} → Stays body → Stays test → Stays (do_code level body test)
do_stays level b t = stays_here (aim.Break level) (stays_turning op.JumpIfTrue (stays_both (stays_here (aim.Continue level) (stays_both (stays_just op.LoopHead) b)) t))

for_stays : (level : ℕ) {test body fresh update : Code} → Stays test → Stays body → Stays fresh → Stays update → Stays (for_code level test body fresh update)
for_stays level t b f u = stays_here (aim.Break level) (stays_turning op.Goto (stays_both (stays_both (stays_here (aim.Continue level) (stays_both (stays_both (stays_just op.LoopHead) t) b)) f) u))

for_in_stays : (level : ℕ) {fresh store body : Code} → Stays fresh → Stays store → Stays body → Stays (for_in_code level fresh store body)
for_in_stays level f s b =
    stays_both
    (stays_here (aim.Break level)
    (stays_turning op.Goto
    (stays_both (stays_here (aim.Continue level)
    (stays_both (stays_both (stays_both (stays_both (stays_both (stays_both (stays_whole (plain op.LoopHead ∷ plain op.MoreIter ∷ plain op.IsNoIter ∷ []) (tt, (tt, (tt, tt)))) (stays_waiting op.JumpIfTrue (aim.Break level))) f) (stays_just op.Dup)) s) (stays_just op.Pop)) b)) (stays_just op.Pop))))
    (stays_just op.EndIter)

then_stays : {test body : Code} → Stays test → Stays body → Stays (then_code test body)
then_stays t b = stays_here aim.Otherwise (stays_both (stays_both t (stays_waiting op.JumpIfFalse aim.Otherwise)) b)

choice_stays : {test first second : Code} → Stays test → Stays first → Stays second → Stays (choice_code test first second)
choice_stays t f s =
    stays_here aim.After (stays_both (stays_here aim.Otherwise (stays_both (stays_both (stays_both t (stays_waiting op.JumpIfFalse aim.Otherwise)) f) (stays_waiting op.Goto aim.After))) s)

case_stays : (scene : Scene) (place : ℕ) (test : MaybeExpr) → Stays (case_code scene place test)
case_stays scene place no_expr = stays_none
case_stays scene place (some_expr test) = stays_both (stays_both (stays_both (stays_just op.Dup) (expr_stays scene test)) (stays_just op.StrictEq)) (stays_waiting op.Case (aim.Clause place))

cases_stay : (scene : Scene) (place : ℕ) (cs : Clauses) → Stays (cases_code scene place cs)
cases_stay scene place no_clauses = stays_none
cases_stay scene place (more_clauses test items rest) = stays_both (case_stays scene place test) (cases_stay scene (place + 1) rest)

-- ---- try and leaving

catch_stays : (scene : Scene) (param : Option Named) → Stays (catch_code scene param)
catch_stays scene None = stays_whole (plain op.Exception ∷ plain op.Pop ∷ []) (tt, (tt, tt))
catch_stays scene (Some name) = stays_both (stays_both (stays_just op.Exception) (initializing_stays scene name.text)) (stays_just op.Pop)

catch_enter_stays : (the : Setting) (ds : List Declaration) (number : ℕ) → Stays (catch_enter the ds number)
catch_enter_stays the [] number = stays_none
catch_enter_stays the (d ∷ ds) number = push_stays op.PushLexicalEnv (scope_at the.scopes number) number

catch_leave_stays : (the : Setting) (ds : List Declaration) (number : ℕ) → Stays (catch_leave the ds number)
catch_leave_stays the [] number = stays_none
catch_leave_stays the (d ∷ ds) number = leave_stays the.scopes number

try_stays : (depth : ℕ) {block handler : Code} → Stays block → Stays handler → Stays (try_code depth block handler)
try_stays depth {block} {handler} b h = stays_here aim.After (stays_both (stays_both (stays_both (stays_both (stays_trying (size (block ++ (Waiting op.Goto aim.After ∷ []))) depth) b) (stays_waiting op.Goto aim.After)) (stays_just op.JumpTarget)) h)

exit_stays : (scopes : List NamedScope) (frame : Frame) → Stays (exit scopes frame)
exit_stays scopes Loop = stays_none
exit_stays scopes KeysLoop = stays_just op.EndIter
exit_stays scopes Switching = stays_none
exit_stays scopes (Labelled name) = stays_none
exit_stays scopes (Entered number) = leave_stays scopes number

exits_stay : (scopes : List NamedScope) (frames : List Frame) → Stays (exits scopes frames)
exits_stay scopes [] = stays_none
exits_stay scopes (frame ∷ frames) = stays_both (exit_stays scopes frame) (exits_stay scopes frames)

leaving_stays : (scopes : List NamedScope) (goal : Goal) (frames : List Frame) → Stays (leaving scopes goal frames)
leaving_stays scopes goal [] = stays_none
leaving_stays scopes goal (frame ∷ frames) = stays_if (is_meant goal frame frames) (stays_waiting op.Goto (goal_aim goal (length frames))) (stays_both (exit_stays scopes frame) (leaving_stays scopes goal frames))

return_stays : {value : Code} (leaves : Code) → Stays value → Stays leaves → Stays (return_code value leaves)
return_stays [] v l = stays_both v (stays_just op.Return)
return_stays (x ∷ xs) v l = stays_both (stays_both (stays_both v (stays_just op.SetRval)) l) (stays_just op.RetRval)

result_stays : (is_script : Bool) → Stays (result_code is_script)
result_stays true = stays_just op.SetRval
result_stays false = stays_just op.Pop

-- ---- the equations

mutual
  pub stmt_stays : (the : Setting) (s : Stmt) (number : ℕ) (frames : List Frame) → Stays (stmt_code the s number frames)
  stmt_stays the (Block items) number frames = scope_stays the (lexical_names items) (λ scene. block_functions scene items) (stmts_code the items) number frames (λ scene. block_stays scene items) (stmts_stay the items)
  stmt_stays the Empty number frames = stays_none
  stmt_stays the (Debugger semi) number frames = stays_just op.Debugger
  stmt_stays the (Binding kind binds semi) number frames = binds_stay (scene_at the frames) kind binds
  stmt_stays the (Value value semi) number frames = stays_both (expr_stays (scene_at the frames) value) (result_stays the.is_script)
  stmt_stays the (If test then_stmt no_stmt) number frames = then_stays (expr_stays (scene_at the frames) test) (stmt_stays the then_stmt number frames)
  stmt_stays the (If test then_stmt (some_stmt else_stmt)) number frames = choice_stays (expr_stays (scene_at the frames) test) (stmt_stays the then_stmt number frames) (stmt_stays the else_stmt (number + count_stmt then_stmt) frames)
  stmt_stays the (Do body test semi) number frames = do_stays (length frames) (stmt_stays the body number (Loop ∷ frames)) (expr_stays (scene_at the (Loop ∷ frames)) test)
  stmt_stays the (While test body) number frames = while_stays (length frames) (expr_stays (scene_at the (Loop ∷ frames)) test) (stmt_stays the body number (Loop ∷ frames))
  stmt_stays the (For init test update body) number frames =
      scope_stays the (init_lexical_names init) no_functions _ number frames (λ scene. stays_none)
      (λ inside around.
      stays_both (stays_both (init_stays (scene_at the around) init) (freshen_stays the (init_lexical_names init) number)) (for_stays (length around) (test_stays (scene_at the (Loop ∷ around)) (length around) test) (stmt_stays the body inside (Loop ∷ around))
      (freshen_stays the (init_lexical_names init) number) (update_stays (scene_at the (Loop ∷ around)) update)))
  stmt_stays the (ForIn each over body) number frames =
      scope_stays the (each_lexical_names each) no_functions _ number frames (λ scene. stays_none)
      (λ inside around.
      stays_both (stays_both (expr_stays (scene_at the around) over) (stays_just op.Iter)) (for_in_stays (length around) (freshen_stays the (each_lexical_names each) number) (store_each_stays (scene_at the (KeysLoop ∷ around)) each) (stmt_stays the body inside (KeysLoop ∷ around))))
  stmt_stays the (Continue at label semi) number frames = leaving_stays the.scopes (Again (label_text label)) frames
  stmt_stays the (Break at label semi) number frames = leaving_stays the.scopes (Out (label_text label)) frames
  stmt_stays the (Return value semi) number frames = return_stays (exits the.scopes frames) (value_stays (scene_at the frames) value) (exits_stay the.scopes frames)
  stmt_stays the (Throw value semi) number frames = stays_both (expr_stays (scene_at the frames) value) (stays_just op.Throw)
  stmt_stays the (Switch of clauses) number frames =
      stays_both (expr_stays (scene_at the frames) of) (scope_stays the (clauses_lexical_names clauses) (λ scene. clause_functions scene clauses) _ number frames (λ scene. clause_stays scene clauses)
      (λ inside around.
      stays_here (aim.Break (length around))
      (clauses_stay the 0 clauses inside (Switching ∷ around) _
      (stays_both (cases_stay (scene_at the (Switching ∷ around)) 0 clauses) (stays_waiting op.Default (default_aim (length around) 0 clauses))))))
  stmt_stays the (Label name body) number frames = stays_here (aim.Break (length frames)) (stmt_stays the body number (Labelled name.text ∷ frames))
  stmt_stays the (Try body param handler) number frames =
      let inner : ℕ = number + (scope_count (lexical_names body) + count_stmts body) in
      try_stays _
      (scope_stays the (lexical_names body) (λ scene. block_functions scene body) (stmts_code the body) number frames (λ scene. block_stays scene body) (stmts_stay the body))
      (stays_both (stays_both (stays_both (catch_enter_stays the (catch_names param) inner) (catch_stays (scene_at the (frames_in (catch_names param) inner frames)) param)) (scope_stays the (lexical_names handler) (λ scene. block_functions scene handler) (stmts_code the handler) (inner + scope_count (catch_names param)) (frames_in (catch_names param) inner frames) (λ scene. block_stays scene handler) (stmts_stay the handler))) (catch_leave_stays the (catch_names param) inner))
  stmt_stays the (Declared f) number frames = stays_none

  pub stmts_stay : (the : Setting) (ss : Stmts) (number : ℕ) (frames : List Frame) → Stays (stmts_code the ss number frames)
  stmts_stay the no_stmts number frames = stays_none
  stmts_stay the (more_stmts s rest) number frames = stays_both (stmt_stays the s number frames) (stmts_stay the rest (number + count_stmt s) frames)

  clauses_stay : (the : Setting) (place : ℕ) (cs : Clauses) (number : ℕ) (frames : List Frame) (before : Code) → Stays before → Stays (clauses_code the place cs number frames before)
  clauses_stay the place no_clauses number frames before h = h
  clauses_stay the place (more_clauses test items rest) number frames before h =
      clauses_stay the (place + 1) rest (number + count_stmts items) frames _ (stays_both (stays_here (aim.Clause place) h) (stmts_stay the items number frames))
