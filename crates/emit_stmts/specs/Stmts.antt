-- The code of statements: one equation for each of their forms. What a statement does is ECMA-262's, 12th edition, clause
-- 14; the instructions are this project's own choice.
use Rattle.std.specs.Prelude.{ℕ, ◌+◌, Bool, true, false, if◌then◌else◌, List, [], ◌∷◌, ◌++◌, map, length, Option, Some, None, option_map}
use Rattle.script_grammar.specs.declared.token.Decl.{Decl}
use Rattle.script_grammar.specs.declared.token.Decl.TheVariants as decl
use Rattle.script_grammar.specs.Tree.{Named, Expr, MaybeExpr, no_expr, some_expr, Function, Binds, no_binds, more_binds, Init, NoInit}
use Rattle.script_grammar.specs.Tree.{ValueInit, BindsInit, Each, TargetEach, BindEach, Clauses, no_clauses, more_clauses, Stmt, Stmts}
use Rattle.script_grammar.specs.Tree.{no_stmts, more_stmts, no_stmt, some_stmt, Block, Empty, Debugger, Binding, Value, If, Do, While, For}
use Rattle.script_grammar.specs.Tree.{ForIn, Continue, Break, Return, Throw, Switch, Label, Try, Declared}
use Rattle.stencil_data.specs.declared.chains.LinkName.{LinkName}
use Rattle.stencil_data.specs.declared.scopes.BindKind.{BindKind}
use Rattle.stencil_data.specs.declared.scopes.BindKind.TheVariants as bind
use Rattle.stencil_data.specs.declared.scopes.Slot.{Slot}
use Rattle.stencil_data.specs.declared.scopes.Slot.TheVariants as slot
use Rattle.stencil_data.specs.LinkView.{LinkView}
use Rattle.stencil_data.specs.Named.{NamedScope}
use Rattle.stencil_data.specs.Resolve.{resolve}
use Rattle.scope_analysis.specs.DeclaredNames.{Declaration, function_name, lexical_names, clauses_lexical_names, init_lexical_names}
use Rattle.scope_analysis.specs.DeclaredNames.{each_lexical_names}
use Rattle.scope_analysis.specs.Scopes.{scope_count, catch_names, count_stmt, count_stmts}
use Rattle.bytecode_buf.specs.declared.opcode.Op.{Op}
use Rattle.bytecode_buf.specs.declared.opcode.Op.TheVariants as op
use Rattle.bytecode_buf.specs.declared.waits.Aim.{Aim}
use Rattle.bytecode_buf.specs.declared.waits.Aim.TheVariants as aim
use Rattle.bytecode_buf.specs.Command.{Command, plain, counted, named}
use Rattle.bytecode_buf.specs.Pieces.{Waiting, Trying, Code, one, size, here, turning}
use Rattle.emit_exprs.specs.Names.{base, init}
use Rattle.emit_exprs.specs.declared.uses.Use.TheVariants.{Reached}
use Rattle.emit_exprs.specs.Exprs.{Scene, writing, basing, lambda_code, expr_code, code_of, target_of, Target, ToName, ToProp, ToElem, NoTarget}
use Rattle.emit_exprs.specs.Whole.{whole, just}
use Rattle.emit_stmts.specs.Frames.{Frame, Loop, KeysLoop, Switching, Labelled, Entered, scope_at, has_env, chain_of, kept_values}
use Rattle.emit_stmts.specs.Frames.{leave_scope, exits, Out, Again, leaving}

-- what is the same in a whole body: the scopes around it, its function's scopes, where the functions directly in the
-- function start, and whether it is a script's
pub record Setting : Type 0 where
  pub base : List LinkView
  pub scopes : List NamedScope
  pub starts : List ℕ
  pub is_script : Bool

abbrev pub scene_at : Setting → List Frame → Scene
scene_at the frames = record { chain = chain_of the.scopes the.base frames; starts = the.starts }

abbrev pub value_at : Setting → List Frame → Expr → Code
value_at the frames e = expr_code (scene_at the frames) e

-- ---- entering a scope

abbrev pub push_env : Op → NamedScope → ℕ → Code
push_env push s number = if has_env s then one (counted push number) else []

-- the frame slot of a `let` or a `const`
abbrev pub hidden_slot : BindKind → Slot → List ℕ
hidden_slot bind.Let (slot.Frame index) = index ∷ []
hidden_slot bind.Const (slot.Frame index) = index ∷ []
hidden_slot _ _ = []

abbrev pub hidden_slots : List LinkName → List ℕ
hidden_slots [] = []
hidden_slots (b ∷ bs) = hidden_slot b.kind b.slot ++ hidden_slots bs

-- these slots are not initialized yet
abbrev pub hiding : List ℕ → Code
hiding [] = []
hiding (s ∷ ss) = whole (plain op.Uninitialized ∷ map (λ (i : ℕ). counted op.InitLexical i) (s ∷ ss) ++ (plain op.Pop ∷ []))

abbrev pub enter_scope : Setting → ℕ → Code
enter_scope the number = push_env op.PushLexicalEnv (scope_at the.scopes number) number ++ hiding (hidden_slots (scope_at the.scopes number).bindings)

-- a value into a lexical name or a catch parameter for the first time
abbrev pub initializing : Scene → List ℕ → Code
initializing scene name = whole (init name (resolve scene.chain name))

-- a function that is declared in a block, and one at the top of a function's body
abbrev pub declaring : Scene → Function → Option Named → Code
declaring scene f None = []
declaring scene f (Some name) = lambda_code scene f ++ initializing scene name.text ++ just op.Pop

abbrev pub assigning_function : Scene → Function → Option Named → Code
assigning_function scene f None = []
assigning_function scene f (Some name) = lambda_code scene f ++ writing scene name.text ++ just op.Pop

abbrev pub declared_in : Scene → Stmt → Code
declared_in scene (Declared f) = declaring scene f (function_name f)
declared_in scene _ = []

abbrev pub block_functions : Scene → Stmts → Code
block_functions scene no_stmts = []
block_functions scene (more_stmts s rest) = declared_in scene s ++ block_functions scene rest

abbrev pub clause_functions : Scene → Clauses → Code
clause_functions scene no_clauses = []
clause_functions scene (more_clauses test items rest) = block_functions scene items ++ clause_functions scene rest

-- what stands in a scope of these declarations, which is entered and left where there is one
abbrev pub in_scope : Setting → List Declaration → (Scene → Code) → (ℕ → List Frame → Code) → ℕ → List Frame → Code
in_scope the [] functions content number frames = functions (scene_at the frames) ++ content number frames
in_scope the (d ∷ ds) functions content number frames =
    enter_scope the number ++ functions (scene_at the (Entered number ∷ frames)) ++ content (number + 1) (Entered number ∷ frames)
    ++ leave_scope the.scopes number

abbrev pub no_functions : Scene → Code
no_functions scene = []

-- the frames inside a scope of these declarations
abbrev pub frames_in : List Declaration → ℕ → List Frame → List Frame
frames_in [] number frames = frames
frames_in (d ∷ ds) number frames = Entered number ∷ frames

-- ---- bindings

abbrev pub var_code : Scene → Named → MaybeExpr → Code
var_code scene name no_expr = []
var_code scene name (some_expr e) = basing scene name.text ++ expr_code scene e ++ writing scene name.text ++ just op.Pop

abbrev pub value_or_undefined : Scene → MaybeExpr → Code
value_or_undefined scene no_expr = just op.Undefined
value_or_undefined scene (some_expr e) = expr_code scene e

abbrev pub lexical_code : Scene → Named → MaybeExpr → Code
lexical_code scene name value = value_or_undefined scene value ++ initializing scene name.text ++ just op.Pop

abbrev pub bind_code : Scene → Decl → Named → MaybeExpr → Code
bind_code scene decl.Var name value = var_code scene name value
bind_code scene decl.Let name value = lexical_code scene name value
bind_code scene decl.Const name value = lexical_code scene name value

abbrev pub binds_code : Scene → Decl → Binds → Code
binds_code scene kind no_binds = []
binds_code scene kind (more_binds name value rest) = bind_code scene kind name value ++ binds_code scene kind rest

-- ---- heads of loops

abbrev pub init_code : Scene → Init → Code
init_code scene NoInit = []
init_code scene (ValueInit e) = expr_code scene e ++ just op.Pop
init_code scene (BindsInit kind binds) = binds_code scene kind binds

-- a new environment for each turn (CreatePerIterationEnvironment), where the head's scope has one
abbrev pub freshen : Setting → List Declaration → ℕ → Code
freshen the [] number = []
freshen the (d ∷ ds) number = if has_env (scope_at the.scopes number) then just op.FreshenLexicalEnv else []

abbrev pub test_code : Scene → ℕ → MaybeExpr → Code
test_code scene level no_expr = []
test_code scene level (some_expr e) = expr_code scene e ++ (Waiting op.JumpIfFalse (aim.Break level) ∷ [])

abbrev pub update_code : Scene → MaybeExpr → Code
update_code scene no_expr = []
update_code scene (some_expr e) = expr_code scene e ++ just op.Pop

-- the value on top of the stack into a name, which may want its base below
abbrev pub swapped : List Command → List Command
swapped [] = []
swapped (c ∷ cs) = (c ∷ cs) ++ (plain op.Swap ∷ [])

abbrev pub store_name : Scene → List ℕ → Code
store_name scene name = whole (swapped (base name (resolve scene.chain name))) ++ writing scene name

abbrev pub store_target : Scene → Expr → Target → Code
store_target scene e (ToName name) = store_name scene name
store_target scene e (ToProp name) = code_of scene Reached e ++ whole (plain op.Swap ∷ named op.StrictSetProp name ∷ [])
store_target scene e ToElem = code_of scene Reached e ++ whole (counted op.Pick 2 ∷ plain op.StrictSetElem ∷ [])
store_target scene e NoTarget = []

abbrev pub store_bound : Scene → Decl → List ℕ → Code
store_bound scene decl.Var name = store_name scene name
store_bound scene decl.Let name = initializing scene name
store_bound scene decl.Const name = initializing scene name

abbrev pub store_each : Scene → Each → Code
store_each scene (TargetEach e) = store_target scene e (target_of e)
store_each scene (BindEach kind name) = store_bound scene kind name.text

-- ---- loops, by the code of their parts

abbrev pub while_code : ℕ → Code → Code → Code
while_code level test body =
    here (aim.Break level) (turning op.Goto (here (aim.Continue level)
    (just op.LoopHead ++ test ++ (Waiting op.JumpIfFalse (aim.Break level) ∷ []) ++ body)))

abbrev pub do_code : ℕ → Code → Code → Code
do_code level body test = here (aim.Break level) (turning op.JumpIfTrue (here (aim.Continue level) (just op.LoopHead ++ body) ++ test))

abbrev pub for_code : ℕ → Code → Code → Code → Code → Code
for_code level test body fresh update =
    here (aim.Break level) (turning op.Goto (here (aim.Continue level) (just op.LoopHead ++ test ++ body) ++ fresh ++ update))

abbrev pub for_in_code : ℕ → Code → Code → Code → Code
for_in_code level fresh store body =
    here (aim.Break level)
    (turning op.Goto
    (here (aim.Continue level)
    (whole (plain op.LoopHead ∷ plain op.MoreIter ∷ plain op.IsNoIter ∷ []) ++ (Waiting op.JumpIfTrue (aim.Break level) ∷ []) ++ fresh
    ++ just op.Dup ++ store ++ just op.Pop ++ body)
    ++ just op.Pop))
    ++ just op.EndIter

-- ---- choices

abbrev pub then_code : Code → Code → Code
then_code test body = here aim.Otherwise (test ++ (Waiting op.JumpIfFalse aim.Otherwise ∷ []) ++ body)

abbrev pub choice_code : Code → Code → Code → Code
choice_code test first second =
    here aim.After (here aim.Otherwise (test ++ (Waiting op.JumpIfFalse aim.Otherwise ∷ []) ++ first ++ (Waiting op.Goto aim.After ∷ [])) ++ second)

-- the test of the clause at a place, which goes there where it holds
abbrev pub case_code : Scene → ℕ → MaybeExpr → Code
case_code scene place no_expr = []
case_code scene place (some_expr test) = just op.Dup ++ expr_code scene test ++ just op.StrictEq ++ (Waiting op.Case (aim.Clause place) ∷ [])

-- the tests of a switch, which go to the clauses by their places
abbrev pub cases_code : Scene → ℕ → Clauses → Code
cases_code scene place no_clauses = []
cases_code scene place (more_clauses test items rest) = case_code scene place test ++ cases_code scene (place + 1) rest

-- where it goes when no test holds: to the default, or out of the switch
abbrev pub default_aim : ℕ → ℕ → Clauses → Aim
default_aim level place no_clauses = aim.Break level
default_aim level place (more_clauses no_expr items rest) = aim.Clause place
default_aim level place (more_clauses (some_expr test) items rest) = default_aim level (place + 1) rest

-- ---- try

abbrev pub catch_code : Scene → Option Named → Code
catch_code scene None = whole (plain op.Exception ∷ plain op.Pop ∷ [])
catch_code scene (Some name) = just op.Exception ++ initializing scene name.text ++ just op.Pop

abbrev pub catch_enter : Setting → List Declaration → ℕ → Code
catch_enter the [] number = []
catch_enter the (d ∷ ds) number = push_env op.PushLexicalEnv (scope_at the.scopes number) number

abbrev pub catch_leave : Setting → List Declaration → ℕ → Code
catch_leave the [] number = []
catch_leave the (d ∷ ds) number = leave_scope the.scopes number

-- the block is guarded from after the Try to after the jump over the handler
abbrev pub guarded : ℕ → Code → Code
guarded depth block = Trying (size (block ++ (Waiting op.Goto aim.After ∷ []))) depth ∷ block ++ (Waiting op.Goto aim.After ∷ [])

abbrev pub try_code : ℕ → Code → Code → Code
try_code depth block handler = here aim.After (guarded depth block ++ just op.JumpTarget ++ handler)

-- ---- leaving a function

abbrev pub return_code : Code → Code → Code
return_code value [] = value ++ just op.Return
return_code value (x ∷ xs) = value ++ just op.SetRval ++ (x ∷ xs) ++ just op.RetRval

-- an expression statement's value is the script's result, or dropped
abbrev pub result_code : Bool → Code
result_code true = just op.SetRval
result_code false = just op.Pop

abbrev pub label_text : Option Named → Option (List ℕ)
label_text label = option_map (λ (name : Named). name.text) label

-- ---- the equations; the number is that of the first scope in the statement

abbrev mutual
  pub stmt_code : Setting → Stmt → ℕ → List Frame → Code
  stmt_code the (Block items) number frames = in_scope the (lexical_names items) (λ scene. block_functions scene items)
      (stmts_code the items) number frames
  stmt_code the Empty number frames = []
  stmt_code the (Debugger semi) number frames = just op.Debugger
  stmt_code the (Binding kind binds semi) number frames = binds_code (scene_at the frames) kind binds
  stmt_code the (Value value semi) number frames = value_at the frames value ++ result_code the.is_script
  stmt_code the (If test then_stmt no_stmt) number frames = then_code (value_at the frames test) (stmt_code the then_stmt number frames)
  stmt_code the (If test then_stmt (some_stmt else_stmt)) number frames =
      choice_code (value_at the frames test) (stmt_code the then_stmt number frames) (stmt_code the else_stmt (number + count_stmt then_stmt) frames)
  stmt_code the (Do body test semi) number frames = do_code (length frames) (stmt_code the body number (Loop ∷ frames))
      (value_at the (Loop ∷ frames) test)
  stmt_code the (While test body) number frames = while_code (length frames) (value_at the (Loop ∷ frames) test)
      (stmt_code the body number (Loop ∷ frames))
  stmt_code the (For init test update body) number frames =
      in_scope the (init_lexical_names init) no_functions
      (λ inside around.
      init_code (scene_at the around) init ++ freshen the (init_lexical_names init) number
      ++ for_code (length around) (test_code (scene_at the (Loop ∷ around)) (length around) test) (stmt_code the body inside (Loop ∷ around))
      (freshen the (init_lexical_names init) number) (update_code (scene_at the (Loop ∷ around)) update))
      number frames
  stmt_code the (ForIn each over body) number frames =
      in_scope the (each_lexical_names each) no_functions
      (λ inside around.
      value_at the around over ++ just op.Iter
      ++ for_in_code (length around) (freshen the (each_lexical_names each) number) (store_each (scene_at the (KeysLoop ∷ around)) each)
      (stmt_code the body inside (KeysLoop ∷ around)))
      number frames
  stmt_code the (Continue at label semi) number frames = leaving the.scopes (Again (label_text label)) frames
  stmt_code the (Break at label semi) number frames = leaving the.scopes (Out (label_text label)) frames
  stmt_code the (Return value semi) number frames = return_code (value_or_undefined (scene_at the frames) value) (exits the.scopes frames)
  stmt_code the (Throw value semi) number frames = value_at the frames value ++ just op.Throw
  stmt_code the (Switch of clauses) number frames =
      value_at the frames of
      ++ in_scope the (clauses_lexical_names clauses) (λ scene. clause_functions scene clauses)
      (λ inside around.
      here (aim.Break (length around))
      (clauses_code the 0 clauses inside (Switching ∷ around)
      (cases_code (scene_at the (Switching ∷ around)) 0 clauses ++ (Waiting op.Default (default_aim (length around) 0 clauses) ∷ []))))
      number frames
  stmt_code the (Label name body) number frames = here (aim.Break (length frames)) (stmt_code the body number (Labelled name.text ∷ frames))
  stmt_code the (Try body param handler) number frames =
      try_code (kept_values frames)
      (in_scope the (lexical_names body) (λ scene. block_functions scene body) (stmts_code the body) number frames)
      (catch_enter the (catch_names param) (number + (scope_count (lexical_names body) + count_stmts body))
      ++ catch_code (scene_at the (frames_in (catch_names param) (number + (scope_count (lexical_names body) + count_stmts body)) frames)) param
      ++ in_scope the (lexical_names handler) (λ scene. block_functions scene handler) (stmts_code the handler)
      (number + (scope_count (lexical_names body) + count_stmts body) + scope_count (catch_names param))
      (frames_in (catch_names param) (number + (scope_count (lexical_names body) + count_stmts body)) frames)
      ++ catch_leave the (catch_names param) (number + (scope_count (lexical_names body) + count_stmts body)))
  stmt_code the (Declared f) number frames = []

  pub stmts_code : Setting → Stmts → ℕ → List Frame → Code
  stmts_code the no_stmts number frames = []
  stmts_code the (more_stmts s rest) number frames = stmt_code the s number frames ++ stmts_code the rest (number + count_stmt s) frames

  -- the clauses from a place on, after this code: the jumps to a clause go to its beginning
  pub clauses_code : Setting → ℕ → Clauses → ℕ → List Frame → Code → Code
  clauses_code the place no_clauses number frames before = before
  clauses_code the place (more_clauses test items rest) number frames before =
      clauses_code the (place + 1) rest (number + count_stmts items) frames (here (aim.Clause place) before ++ stmts_code the items number frames)
