-- The code of statements makes no other functions than those that stand in them, and has a try note for each try statement.
use Rattle.std.proofs.Common.{ℕ, suc, ◌+◌, Bool, true, false, List, [], ◌∷◌, ◌++◌, length, map, Option, Some, None, arith}
use Rattle.script_grammar.specs.declared.token.Decl.{Decl}
use Rattle.script_grammar.specs.declared.token.Decl.TheVariants as decl
use Rattle.script_grammar.specs.Tree.{Named, Expr, MaybeExpr, no_expr, some_expr, Function, Binds, no_binds, more_binds, Init, NoInit, ValueInit, BindsInit, Each, TargetEach, BindEach, Clauses, no_clauses, more_clauses, Stmt, Stmts, no_stmts, more_stmts, no_stmt, some_stmt, Block, Empty, Debugger, Binding, Value, If, Do, While, For, ForIn, Continue, Break, Return, Throw, Switch, Label, Try, Declared}
use Rattle.stencil_data.specs.Named.{NamedScope}
use Rattle.stencil_data.specs.Resolve.{resolve}
use Rattle.scope_analysis.specs.DeclaredNames.{Declaration, function_name, lexical_names, clauses_lexical_names, init_lexical_names, each_lexical_names}
use Rattle.scope_analysis.specs.Functions.{enclosed, inner_expr, inner_maybe, inner_binds, inner_init, inner_each, inner_stmt, inner_stmts, inner_clauses}
use Rattle.scope_analysis.specs.Scopes.{scope_count, catch_names, count_stmt, count_stmts}
use Rattle.bytecode_buf.specs.declared.opcode.Op.{Op}
use Rattle.bytecode_buf.specs.declared.opcode.Op.TheVariants as op
use Rattle.bytecode_buf.specs.declared.waits.Aim.TheVariants as aim
use Rattle.bytecode_buf.specs.Command.{Command, Number, plain, counted, named}
use Rattle.bytecode_buf.specs.Pieces.{Waiting, Code, size, here}
use Rattle.emit_exprs.specs.declared.uses.Use.TheVariants.{Plainly, Reached}
use Rattle.emit_exprs.specs.Exprs.{Scene, target_of, Target, ToName, ToProp, ToElem, NoTarget}
use Rattle.emit_exprs.specs.Names.{base, init}
use Rattle.emit_exprs.specs.Whole.{just}
use Rattle.emit_stmts.specs.Frames.{Frame, Loop, KeysLoop, Switching, Labelled, Entered, scope_at, has_env, kept_values, leave_scope, exit, exits, Goal, Out, Again, is_meant, goal_aim, leaving}
use Rattle.emit_stmts.specs.Stmts.{Setting, scene_at, value_at, push_env, hidden_slots, hiding, enter_scope, initializing, declaring, assigning_function, declared_in, block_functions, clause_functions, in_scope, no_functions, frames_in, var_code, value_or_undefined, lexical_code, bind_code, binds_code, init_code, freshen, test_code, update_code, swapped, store_name, store_target, store_bound, store_each, while_code, do_code, for_code, for_in_code, then_code, choice_code, case_code, cases_code, default_aim, catch_code, catch_enter, catch_leave, guarded, try_code, return_code, result_code, label_text, stmt_code, stmts_code, clauses_code}
use Rattle.compile_range_laws.specs.Tries.{tries_stmt, tries_stmts, tries_clauses}
use Rattle.compile_range_laws.proofs.CodeParts.{CodeSmall, Bare, AllBare, nothing, both, fewer, behind, before, tried, commands, command, wait, either, at_here, turns}
use Rattle.compile_range_laws.proofs.ExprCodes.{base_made, init_made, writes, bases, lambdas, expr_small}
use Rattle.compile_range_laws.proofs.Places.{place_of, Placed, front, back}

-- ---- scopes and names

pub pushes : (H : ℕ → Type 0) (push : Op) (s : NamedScope) (number : ℕ) → Bare H push (Number number) → CodeSmall H 0 (push_env push s number)
pushes H push s number h = either (has_env s) (command (counted push number) h) nothing

slots_made : (H : ℕ → Type 0) (slots : List ℕ) → AllBare H (map (λ (i : ℕ). counted op.InitLexical i) slots ++ (plain op.Pop ∷ []))
slots_made H [] = (tt, tt)
slots_made H (s ∷ slots) = (tt, slots_made H slots)

hides : (H : ℕ → Type 0) (slots : List ℕ) → CodeSmall H 0 (hiding slots)
hides H [] = nothing
hides H (s ∷ slots) = commands (plain op.Uninitialized ∷ map (λ (i : ℕ). counted op.InitLexical i) (s ∷ slots) ++ (plain op.Pop ∷ [])) (tt, (tt, slots_made H slots))

enters : (H : ℕ → Type 0) (the : Setting) (number : ℕ) → CodeSmall H 0 (enter_scope the number)
enters H the number = behind (pushes H op.PushLexicalEnv (scope_at the.scopes number) number tt) (hides H (hidden_slots (scope_at the.scopes number).bindings))

leaves : (H : ℕ → Type 0) (scopes : List NamedScope) (number : ℕ) → CodeSmall H 0 (leave_scope scopes number)
leaves H scopes number = either (has_env (scope_at scopes number)) (command (plain op.PopLexicalEnv) tt) nothing

pub initializes : (H : ℕ → Type 0) (scene : Scene) (name : List ℕ) → CodeSmall H 0 (initializing scene name)
initializes H scene name = commands (init name (resolve scene.chain name)) (init_made H name (resolve scene.chain name))

declares : (H : ℕ → Type 0) (scene : Scene) (f : Function) (name : Option Named) → H (place_of scene.starts f) → CodeSmall H 0 (declaring scene f name)
declares H scene f None h = nothing
declares H scene f (Some name) h = behind (behind (lambdas H scene f h) (initializes H scene name.text)) (command (plain op.Pop) tt)

pub assigns : (H : ℕ → Type 0) (scene : Scene) (f : Function) (name : Option Named) → H (place_of scene.starts f) → CodeSmall H 0 (assigning_function scene f name)
assigns H scene f None h = nothing
assigns H scene f (Some name) h = behind (behind (lambdas H scene f h) (writes H scene name.text)) (command (plain op.Pop) tt)

one_declared : (H : ℕ → Type 0) (scene : Scene) (s : Stmt) (next : ℕ) (around : List ℕ) → Placed H scene.starts (inner_stmt s next around) → CodeSmall H 0 (declared_in scene s)
one_declared H scene (Declared f) next around h = declares H scene f (function_name f) h.all.0
one_declared H scene _ next around h = nothing

all_declared : (H : ℕ → Type 0) (scene : Scene) (ss : Stmts) (next : ℕ) (around : List ℕ) → Placed H scene.starts (inner_stmts ss next around) → CodeSmall H 0 (block_functions scene ss)
all_declared H scene no_stmts next around h = nothing
all_declared H scene (more_stmts s rest) next around h = behind (one_declared H scene s next around (front _ h)) (all_declared H scene rest (next + count_stmt s) around (back _ h))

clauses_declared : (H : ℕ → Type 0) (scene : Scene) (cs : Clauses) (next : ℕ) (around : List ℕ) → Placed H scene.starts (inner_clauses cs next around) → CodeSmall H 0 (clause_functions scene cs)
clauses_declared H scene no_clauses next around h = nothing
clauses_declared H scene (more_clauses test items rest) next around h = behind (all_declared H scene items next around (back _ (front _ h))) (clauses_declared H scene rest (next + count_stmts items) around (back _ h))

-- what stands in a scope
pub scoped : {H : ℕ → Type 0} {n : ℕ} (the : Setting) (ds : List Declaration) (functions : Scene → Code) (content : ℕ → List Frame → Code) (number : ℕ) (frames : List Frame)
    → ((fs : List Frame) → CodeSmall H 0 (functions (scene_at the fs))) → ((m : ℕ) (fs : List Frame) → CodeSmall H n (content m fs)) → CodeSmall H n (in_scope the ds functions content number frames)
scoped the [] functions content number frames f c = behind (f frames) (c number frames)
scoped {H} the (d ∷ ds) functions content number frames f c =
    before (behind (behind (enters H the number) (f (Entered number ∷ frames))) (c (number + 1) (Entered number ∷ frames))) (leaves H the.scopes number)

-- ---- bindings

or_undefined : (H : ℕ → Type 0) (scene : Scene) (value : MaybeExpr) (around : List ℕ) → Placed H scene.starts (inner_maybe value around) → CodeSmall H 0 (value_or_undefined scene value)
or_undefined H scene no_expr around h = command (plain op.Undefined) tt
or_undefined H scene (some_expr e) around h = expr_small H scene Plainly e around h

vars : (H : ℕ → Type 0) (scene : Scene) (name : Named) (value : MaybeExpr) (around : List ℕ) → Placed H scene.starts (inner_maybe value around) → CodeSmall H 0 (var_code scene name value)
vars H scene name no_expr around h = nothing
vars H scene name (some_expr e) around h = behind (behind (behind (bases H scene name.text) (expr_small H scene Plainly e around h)) (writes H scene name.text)) (command (plain op.Pop) tt)

lexicals : (H : ℕ → Type 0) (scene : Scene) (name : Named) (value : MaybeExpr) (around : List ℕ) → Placed H scene.starts (inner_maybe value around) → CodeSmall H 0 (lexical_code scene name value)
lexicals H scene name value around h = behind (behind (or_undefined H scene value around h) (initializes H scene name.text)) (command (plain op.Pop) tt)

one_bind : (H : ℕ → Type 0) (scene : Scene) (kind : Decl) (name : Named) (value : MaybeExpr) (around : List ℕ) → Placed H scene.starts (inner_maybe value around) → CodeSmall H 0 (bind_code scene kind name value)
one_bind H scene decl.Var name value around h = vars H scene name value around h
one_bind H scene decl.Let name value around h = lexicals H scene name value around h
one_bind H scene decl.Const name value around h = lexicals H scene name value around h

all_binds : (H : ℕ → Type 0) (scene : Scene) (kind : Decl) (binds : Binds) (around : List ℕ) → Placed H scene.starts (inner_binds binds around) → CodeSmall H 0 (binds_code scene kind binds)
all_binds H scene kind no_binds around h = nothing
all_binds H scene kind (more_binds name value rest) around h = behind (one_bind H scene kind name value around (front _ h)) (all_binds H scene kind rest around (back _ h))

-- ---- heads of loops

inits : (H : ℕ → Type 0) (scene : Scene) (x : Init) (around : List ℕ) → Placed H scene.starts (inner_init x around) → CodeSmall H 0 (init_code scene x)
inits H scene NoInit around h = nothing
inits H scene (ValueInit e) around h = behind (expr_small H scene Plainly e around h) (command (plain op.Pop) tt)
inits H scene (BindsInit kind binds) around h = all_binds H scene kind binds around h

freshens : (H : ℕ → Type 0) (the : Setting) (ds : List Declaration) (number : ℕ) → CodeSmall H 0 (freshen the ds number)
freshens H the [] number = nothing
freshens H the (d ∷ ds) number = either (has_env (scope_at the.scopes number)) (command (plain op.FreshenLexicalEnv) tt) nothing

tests : (H : ℕ → Type 0) (scene : Scene) (level : ℕ) (test : MaybeExpr) (around : List ℕ) → Placed H scene.starts (inner_maybe test around) → CodeSmall H 0 (test_code scene level test)
tests H scene level no_expr around h = nothing
tests H scene level (some_expr e) around h = behind (expr_small H scene Plainly e around h) (wait op.JumpIfFalse (aim.Break level) tt)

updating : (H : ℕ → Type 0) (scene : Scene) (update : MaybeExpr) (around : List ℕ) → Placed H scene.starts (inner_maybe update around) → CodeSmall H 0 (update_code scene update)
updating H scene no_expr around h = nothing
updating H scene (some_expr e) around h = behind (expr_small H scene Plainly e around h) (command (plain op.Pop) tt)

all_both : (H : ℕ → Type 0) (cs ds : List Command) → AllBare H cs → AllBare H ds → AllBare H (cs ++ ds)
all_both H [] ds h k = k
all_both H (c ∷ cs) ds h k = (h.0, all_both H cs ds h.1 k)

swapped_made : (H : ℕ → Type 0) (cs : List Command) → AllBare H cs → AllBare H (swapped cs)
swapped_made H [] h = tt
swapped_made H (c ∷ cs) h = all_both H (c ∷ cs) (plain op.Swap ∷ []) h (tt, tt)

name_stored : (H : ℕ → Type 0) (scene : Scene) (name : List ℕ) → CodeSmall H 0 (store_name scene name)
name_stored H scene name = behind (commands (swapped (base name (resolve scene.chain name))) (swapped_made H (base name (resolve scene.chain name)) (base_made H name (resolve scene.chain name)))) (writes H scene name)

target_stored : (H : ℕ → Type 0) (scene : Scene) (e : Expr) (t : Target) (around : List ℕ) → Placed H scene.starts (inner_expr e around) → CodeSmall H 0 (store_target scene e t)
target_stored H scene e (ToName name) around h = name_stored H scene name
target_stored H scene e (ToProp name) around h = behind (expr_small H scene Reached e around h) (commands (plain op.Swap ∷ named op.StrictSetProp name ∷ []) (tt, (tt, tt)))
target_stored H scene e ToElem around h = behind (expr_small H scene Reached e around h) (commands (counted op.Pick 2 ∷ plain op.StrictSetElem ∷ []) (tt, (tt, tt)))
target_stored H scene e NoTarget around h = nothing

bound_stored : (H : ℕ → Type 0) (scene : Scene) (kind : Decl) (name : List ℕ) → CodeSmall H 0 (store_bound scene kind name)
bound_stored H scene decl.Var name = name_stored H scene name
bound_stored H scene decl.Let name = initializes H scene name
bound_stored H scene decl.Const name = initializes H scene name

each_stored : (H : ℕ → Type 0) (scene : Scene) (x : Each) (around : List ℕ) → Placed H scene.starts (inner_each x around) → CodeSmall H 0 (store_each scene x)
each_stored H scene (TargetEach e) around h = target_stored H scene e (target_of e) around h
each_stored H scene (BindEach kind name) around h = bound_stored H scene kind name.text

-- ---- loops and choices

whiles : {H : ℕ → Type 0} {n : ℕ} {test body : Code} (level : ℕ) → CodeSmall H 0 test → CodeSmall H n body → CodeSmall H n (while_code level test body)
whiles level h k = at_here (aim.Break level) (turns op.Goto tt (at_here (aim.Continue level) (behind (behind (behind (command (plain op.LoopHead) tt) h) (wait op.JumpIfFalse (aim.Break level) tt)) k)))

dos : {H : ℕ → Type 0} {n : ℕ} {body test : Code} (level : ℕ) → CodeSmall H n body → CodeSmall H 0 test → CodeSmall H n (do_code level body test)
dos level h k = at_here (aim.Break level) (turns op.JumpIfTrue tt (before (at_here (aim.Continue level) (behind (command (plain op.LoopHead) tt) h)) k))

fors : {H : ℕ → Type 0} {n : ℕ} {test body fresh update : Code} (level : ℕ) → CodeSmall H 0 test → CodeSmall H n body → CodeSmall H 0 fresh → CodeSmall H 0 update → CodeSmall H n (for_code level test body fresh update)
fors level h k f u = at_here (aim.Break level) (turns op.Goto tt (before (before (at_here (aim.Continue level) (behind (behind (command (plain op.LoopHead) tt) h) k)) f) u))

for_ins : {H : ℕ → Type 0} {n : ℕ} {fresh store body : Code} (level : ℕ) → CodeSmall H 0 fresh → CodeSmall H 0 store → CodeSmall H n body → CodeSmall H n (for_in_code level fresh store body)
for_ins level f s k =
    before (at_here (aim.Break level) (turns op.Goto tt (before (at_here (aim.Continue level)
    (behind (behind (behind (behind (behind (behind (commands (plain op.LoopHead ∷ plain op.MoreIter ∷ plain op.IsNoIter ∷ []) (tt, (tt, (tt, tt)))) (wait op.JumpIfTrue (aim.Break level) tt)) f) (command (plain op.Dup) tt)) s) (command (plain op.Pop) tt)) k))
    (command (plain op.Pop) tt)))) (command (plain op.EndIter) tt)

thens : {H : ℕ → Type 0} {n : ℕ} {test body : Code} → CodeSmall H 0 test → CodeSmall H n body → CodeSmall H n (then_code test body)
thens h k = at_here aim.Otherwise (behind (behind h (wait op.JumpIfFalse aim.Otherwise tt)) k)

choices : {H : ℕ → Type 0} {m n : ℕ} {test first second : Code} → CodeSmall H 0 test → CodeSmall H m first → CodeSmall H n second → CodeSmall H (m + n) (choice_code test first second)
choices h k l = at_here aim.After (both (at_here aim.Otherwise (before (behind (behind h (wait op.JumpIfFalse aim.Otherwise tt)) k) (wait op.Goto aim.After tt))) l)

one_case : (H : ℕ → Type 0) (scene : Scene) (place : ℕ) (test : MaybeExpr) (around : List ℕ) → Placed H scene.starts (inner_maybe test around) → CodeSmall H 0 (case_code scene place test)
one_case H scene place no_expr around h = nothing
one_case H scene place (some_expr e) around h = behind (behind (behind (command (plain op.Dup) tt) (expr_small H scene Plainly e around h)) (command (plain op.StrictEq) tt)) (wait op.Case (aim.Clause place) tt)

all_cases : (H : ℕ → Type 0) (scene : Scene) (place : ℕ) (cs : Clauses) (next : ℕ) (around : List ℕ) → Placed H scene.starts (inner_clauses cs next around) → CodeSmall H 0 (cases_code scene place cs)
all_cases H scene place no_clauses next around h = nothing
all_cases H scene place (more_clauses test items rest) next around h = behind (one_case H scene place test around (front _ (front _ h))) (all_cases H scene (place + 1) rest (next + count_stmts items) around (back _ h))

-- ---- try, and leaving

catches : (H : ℕ → Type 0) (scene : Scene) (param : Option Named) → CodeSmall H 0 (catch_code scene param)
catches H scene None = commands (plain op.Exception ∷ plain op.Pop ∷ []) (tt, (tt, tt))
catches H scene (Some name) = behind (behind (command (plain op.Exception) tt) (initializes H scene name.text)) (command (plain op.Pop) tt)

catch_enters : (H : ℕ → Type 0) (the : Setting) (ds : List Declaration) (number : ℕ) → CodeSmall H 0 (catch_enter the ds number)
catch_enters H the [] number = nothing
catch_enters H the (d ∷ ds) number = pushes H op.PushLexicalEnv (scope_at the.scopes number) number tt

catch_leaves : (H : ℕ → Type 0) (the : Setting) (ds : List Declaration) (number : ℕ) → CodeSmall H 0 (catch_leave the ds number)
catch_leaves H the [] number = nothing
catch_leaves H the (d ∷ ds) number = leaves H the.scopes number

guards : {H : ℕ → Type 0} {n : ℕ} {block : Code} (depth : ℕ) → CodeSmall H n block → CodeSmall H (suc n) (guarded depth block)
guards {block = block} depth h = tried (size (block ++ (Waiting op.Goto aim.After ∷ []))) depth (before h (wait op.Goto aim.After tt))

trying : {H : ℕ → Type 0} {m n : ℕ} {block handler : Code} (depth : ℕ) → CodeSmall H m block → CodeSmall H n handler → CodeSmall H (suc m + n) (try_code depth block handler)
trying depth h k = at_here aim.After (both (before (guards depth h) (command (plain op.JumpTarget) tt)) k)

one_exit : (H : ℕ → Type 0) (scopes : List NamedScope) (frame : Frame) → CodeSmall H 0 (exit scopes frame)
one_exit H scopes Loop = nothing
one_exit H scopes KeysLoop = command (plain op.EndIter) tt
one_exit H scopes Switching = nothing
one_exit H scopes (Labelled name) = nothing
one_exit H scopes (Entered number) = leaves H scopes number

all_exits : (H : ℕ → Type 0) (scopes : List NamedScope) (frames : List Frame) → CodeSmall H 0 (exits scopes frames)
all_exits H scopes [] = nothing
all_exits H scopes (frame ∷ frames) = behind (one_exit H scopes frame) (all_exits H scopes frames)

jumps : (H : ℕ → Type 0) (scopes : List NamedScope) (goal : Goal) (frames : List Frame) → CodeSmall H 0 (leaving scopes goal frames)
jumps H scopes goal [] = nothing
jumps H scopes goal (frame ∷ frames) = either (is_meant goal frame frames) (wait op.Goto (goal_aim goal (length frames)) tt) (behind (one_exit H scopes frame) (jumps H scopes goal frames))

returns : {H : ℕ → Type 0} {value : Code} (out : Code) → CodeSmall H 0 value → CodeSmall H 0 out → CodeSmall H 0 (return_code value out)
returns [] h k = behind h (command (plain op.Return) tt)
returns (x ∷ xs) h k = behind (behind (behind h (command (plain op.SetRval) tt)) k) (command (plain op.RetRval) tt)

results : (H : ℕ → Type 0) (is_script : Bool) → CodeSmall H 0 (result_code is_script)
results H true = command (plain op.SetRval) tt
results H false = command (plain op.Pop) tt

-- ---- statements

mutual
  stmt_small : (H : ℕ → Type 0) (the : Setting) (s : Stmt) (number : ℕ) (frames : List Frame) (next : ℕ) (around : List ℕ) → Placed H the.starts (inner_stmt s next around) → CodeSmall H (tries_stmt s) (stmt_code the s number frames)
  stmt_small H the (Block items) number frames next around h =
      let n = next + scope_count (lexical_names items) in
      let r = enclosed (lexical_names items) next around in
      scoped the (lexical_names items) (λ scene. block_functions scene items) (stmts_code the items) number frames (λ fs. all_declared H (scene_at the fs) items n r h) (λ m fs. stmts_small H the items m fs n r h)
  stmt_small H the Empty number frames next around h = nothing
  stmt_small H the (Debugger semi) number frames next around h = command (plain op.Debugger) tt
  stmt_small H the (Binding kind binds semi) number frames next around h = all_binds H (scene_at the frames) kind binds around h
  stmt_small H the (Value value semi) number frames next around h = behind (expr_small H (scene_at the frames) Plainly value around h) (results H the.is_script)
  stmt_small H the (If test then_stmt no_stmt) number frames next around h =
      fewer (omega arith) (thens (expr_small H (scene_at the frames) Plainly test around (front _ (front _ h))) (stmt_small H the then_stmt number frames next around (back _ (front _ h))))
  stmt_small H the (If test then_stmt (some_stmt else_stmt)) number frames next around h =
      choices (expr_small H (scene_at the frames) Plainly test around (front _ (front _ h))) (stmt_small H the then_stmt number frames next around (back _ (front _ h)))
      (stmt_small H the else_stmt (number + count_stmt then_stmt) frames (next + count_stmt then_stmt) around (back _ h))
  stmt_small H the (Do body test semi) number frames next around h =
      dos (length frames) (stmt_small H the body number (Loop ∷ frames) next around (front _ h)) (expr_small H (scene_at the (Loop ∷ frames)) Plainly test around (back _ h))
  stmt_small H the (While test body) number frames next around h =
      whiles (length frames) (expr_small H (scene_at the (Loop ∷ frames)) Plainly test around (front _ h)) (stmt_small H the body number (Loop ∷ frames) next around (back _ h))
  stmt_small H the (For init test update body) number frames next around h =
      let n = next + scope_count (init_lexical_names init) in
      let r = enclosed (init_lexical_names init) next around in
      scoped the (init_lexical_names init) no_functions
      (λ inside fs.
      init_code (scene_at the fs) init ++ freshen the (init_lexical_names init) number
      ++ for_code (length fs) (test_code (scene_at the (Loop ∷ fs)) (length fs) test) (stmt_code the body inside (Loop ∷ fs))
      (freshen the (init_lexical_names init) number) (update_code (scene_at the (Loop ∷ fs)) update))
      number frames (λ fs. nothing)
      (λ m fs. behind (behind (inits H (scene_at the fs) init r (front _ (front _ (front _ h)))) (freshens H the (init_lexical_names init) number))
      (fors (length fs) (tests H (scene_at the (Loop ∷ fs)) (length fs) test r (back _ (front _ (front _ h)))) (stmt_small H the body m (Loop ∷ fs) n r (back _ h))
      (freshens H the (init_lexical_names init) number) (updating H (scene_at the (Loop ∷ fs)) update r (back _ (front _ h)))))
  stmt_small H the (ForIn each over body) number frames next around h =
      let n = next + scope_count (each_lexical_names each) in
      let r = enclosed (each_lexical_names each) next around in
      scoped the (each_lexical_names each) no_functions
      (λ inside fs.
      value_at the fs over ++ just op.Iter
      ++ for_in_code (length fs) (freshen the (each_lexical_names each) number) (store_each (scene_at the (KeysLoop ∷ fs)) each) (stmt_code the body inside (KeysLoop ∷ fs)))
      number frames (λ fs. nothing)
      (λ m fs. behind (behind (expr_small H (scene_at the fs) Plainly over r (back _ (front _ h))) (command (plain op.Iter) tt))
      (for_ins (length fs) (freshens H the (each_lexical_names each) number) (each_stored H (scene_at the (KeysLoop ∷ fs)) each r (front _ (front _ h))) (stmt_small H the body m (KeysLoop ∷ fs) n r (back _ h))))
  stmt_small H the (Continue at label semi) number frames next around h = jumps H the.scopes (Again (label_text label)) frames
  stmt_small H the (Break at label semi) number frames next around h = jumps H the.scopes (Out (label_text label)) frames
  stmt_small H the (Return value semi) number frames next around h = returns (exits the.scopes frames) (or_undefined H (scene_at the frames) value around h) (all_exits H the.scopes frames)
  stmt_small H the (Throw value semi) number frames next around h = behind (expr_small H (scene_at the frames) Plainly value around h) (command (plain op.Throw) tt)
  stmt_small H the (Switch of clauses) number frames next around h =
      let n = next + scope_count (clauses_lexical_names clauses) in
      let r = enclosed (clauses_lexical_names clauses) next around in
      behind (expr_small H (scene_at the frames) Plainly of around (front _ h))
      (scoped the (clauses_lexical_names clauses) (λ scene. clause_functions scene clauses)
      (λ inside fs.
      here (aim.Break (length fs))
      (clauses_code the 0 clauses inside (Switching ∷ fs)
      (cases_code (scene_at the (Switching ∷ fs)) 0 clauses ++ (Waiting op.Default (default_aim (length fs) 0 clauses) ∷ []))))
      number frames (λ fs. clauses_declared H (scene_at the fs) clauses n r (back _ h))
      (λ m fs. at_here (aim.Break (length fs)) (fewer (omega arith) (clauses_small H the 0 clauses m (Switching ∷ fs) n r (back _ h)
      (behind (all_cases H (scene_at the (Switching ∷ fs)) 0 clauses n r (back _ h)) (wait op.Default (default_aim (length fs) 0 clauses) tt))))))
  stmt_small H the (Label name body) number frames next around h = at_here (aim.Break (length frames)) (stmt_small H the body number (Labelled name.text ∷ frames) next around h)
  stmt_small H the (Try body param handler) number frames next around h =
      let c = number + (scope_count (lexical_names body) + count_stmts body) in
      let fs = frames_in (catch_names param) c frames in
      let n = next + scope_count (lexical_names body) in
      let r = enclosed (lexical_names body) next around in
      let k = next + (scope_count (lexical_names body) + count_stmts body) in
      let o = k + scope_count (catch_names param) + scope_count (lexical_names handler) in
      let q = enclosed (lexical_names handler) (k + scope_count (catch_names param)) (enclosed (catch_names param) k around) in
      trying (kept_values frames)
      (scoped the (lexical_names body) (λ scene. block_functions scene body) (stmts_code the body) number frames (λ gs. all_declared H (scene_at the gs) body n r (front _ h)) (λ m gs. stmts_small H the body m gs n r (front _ h)))
      (before (behind (behind (catch_enters H the (catch_names param) c) (catches H (scene_at the fs) param))
      (scoped the (lexical_names handler) (λ scene. block_functions scene handler) (stmts_code the handler) (c + scope_count (catch_names param)) fs (λ gs. all_declared H (scene_at the gs) handler o q (back _ h)) (λ m gs. stmts_small H the handler m gs o q (back _ h))))
      (catch_leaves H the (catch_names param) c))
  stmt_small H the (Declared f) number frames next around h = nothing

  pub stmts_small : (H : ℕ → Type 0) (the : Setting) (ss : Stmts) (number : ℕ) (frames : List Frame) (next : ℕ) (around : List ℕ) → Placed H the.starts (inner_stmts ss next around) → CodeSmall H (tries_stmts ss) (stmts_code the ss number frames)
  stmts_small H the no_stmts number frames next around h = nothing
  stmts_small H the (more_stmts s rest) number frames next around h =
      both (stmt_small H the s number frames next around (front _ h)) (stmts_small H the rest (number + count_stmt s) frames (next + count_stmt s) around (back _ h))

  clauses_small : (H : ℕ → Type 0) {m : ℕ} {code : Code} (the : Setting) (place : ℕ) (cs : Clauses) (number : ℕ) (frames : List Frame) (next : ℕ) (around : List ℕ) → Placed H the.starts (inner_clauses cs next around) → CodeSmall H m code
      → CodeSmall H (m + tries_clauses cs) (clauses_code the place cs number frames code)
  clauses_small H the place no_clauses number frames next around h k = fewer (omega arith) k
  clauses_small H the place (more_clauses test items rest) number frames next around h k =
      fewer (omega arith) (clauses_small H the (place + 1) rest (number + count_stmts items) frames (next + count_stmts items) around (back _ h) (both (at_here (aim.Clause place) k) (stmts_small H the items number frames next around (back _ (front _ h)))))
