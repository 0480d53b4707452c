-- Statements in which each assignment goes to a place, and each break and continue has its target in its function (ECMA-262,
-- 12th edition, clauses 14.8.1 and 14.9.1 with 8.2).
use Rattle.std.specs.Prelude.{Bool, true, false, if◌then◌else◌, IsTrue, List, [], ◌∷◌}
use Rattle.script_grammar.specs.Tree.{Function, function, Params, no_params, more_params, Body, BracedBody, ShortBody, Binds, no_binds, more_binds}
use Rattle.script_grammar.specs.Tree.{Init, NoInit, ValueInit, BindsInit, Each, TargetEach, BindEach, Clauses, no_clauses, more_clauses, Stmt, Stmts}
use Rattle.script_grammar.specs.Tree.{no_stmts, more_stmts, MaybeStmt, no_stmt, some_stmt, Block, Empty, Debugger, Binding, Value, If, Do, While, For}
use Rattle.script_grammar.specs.Tree.{ForIn, Continue, Break, Return, Throw, Switch, Label, Try, Declared}
use Rattle.emit_stmts.specs.Frames.{Frame, Loop, KeysLoop, Switching, Labelled, Goal, Out, Again, is_meant}
use Rattle.emit_stmts.specs.Stmts.{label_text}
use Rattle.emit_depth_laws.specs.Assigning.{ExprAssigns, MaybeExprAssigns}

-- one of the frames is the goal
abbrev pub has_goal : Goal → List Frame → Bool
has_goal goal [] = false
has_goal goal (frame ∷ frames) = if is_meant goal frame frames then true else has_goal goal frames

abbrev pub BindsAssign : Binds → Type 0
BindsAssign no_binds = Unit {0}
BindsAssign (more_binds name value rest) = MaybeExprAssigns value × BindsAssign rest

abbrev pub InitAssigns : Init → Type 0
InitAssigns NoInit = Unit {0}
InitAssigns (ValueInit e) = ExprAssigns e
InitAssigns (BindsInit kind binds) = BindsAssign binds

abbrev pub EachAssigns : Each → Type 0
EachAssigns (TargetEach e) = ExprAssigns e
EachAssigns (BindEach kind name) = Unit {0}

-- of statements inside these frames, of which none is a scope
abbrev mutual
  pub StmtTargets : Stmt → List Frame → Type 0
  StmtTargets (Block items) frames = StmtsTarget items frames
  StmtTargets Empty frames = Unit {0}
  StmtTargets (Debugger semi) frames = Unit {0}
  StmtTargets (Binding kind binds semi) frames = BindsAssign binds
  StmtTargets (Value value semi) frames = ExprAssigns value
  StmtTargets (If test then_stmt else_stmt) frames = ExprAssigns test × StmtTargets then_stmt frames × ElseTargets else_stmt frames
  StmtTargets (Do body test semi) frames = StmtTargets body (Loop ∷ frames) × ExprAssigns test
  StmtTargets (While test body) frames = ExprAssigns test × StmtTargets body (Loop ∷ frames)
  StmtTargets (For init test update body) frames =
      InitAssigns init × MaybeExprAssigns test × MaybeExprAssigns update × StmtTargets body (Loop ∷ frames)
  StmtTargets (ForIn each over body) frames = EachAssigns each × ExprAssigns over × StmtTargets body (KeysLoop ∷ frames)
  StmtTargets (Continue at label semi) frames = IsTrue (has_goal (Again (label_text label)) frames)
  StmtTargets (Break at label semi) frames = IsTrue (has_goal (Out (label_text label)) frames)
  StmtTargets (Return value semi) frames = MaybeExprAssigns value
  StmtTargets (Throw value semi) frames = ExprAssigns value
  StmtTargets (Switch of clauses) frames = ExprAssigns of × ClausesTarget clauses (Switching ∷ frames)
  StmtTargets (Label name body) frames = StmtTargets body (Labelled name.text ∷ frames)
  StmtTargets (Try body param handler) frames = StmtsTarget body frames × StmtsTarget handler frames
  StmtTargets (Declared f) frames = Unit {0}

  pub StmtsTarget : Stmts → List Frame → Type 0
  StmtsTarget no_stmts frames = Unit {0}
  StmtsTarget (more_stmts s rest) frames = StmtTargets s frames × StmtsTarget rest frames

  pub ElseTargets : MaybeStmt → List Frame → Type 0
  ElseTargets no_stmt frames = Unit {0}
  ElseTargets (some_stmt s) frames = StmtTargets s frames

  pub ClausesTarget : Clauses → List Frame → Type 0
  ClausesTarget no_clauses frames = Unit {0}
  ClausesTarget (more_clauses test items rest) frames = MaybeExprAssigns test × StmtsTarget items frames × ClausesTarget rest frames

-- ---- functions

abbrev pub ParamsAssign : Params → Type 0
ParamsAssign no_params = Unit {0}
ParamsAssign (more_params name value rest more) = MaybeExprAssigns value × ParamsAssign more

abbrev pub BodyTargets : Body → Type 0
BodyTargets (BracedBody items) = StmtsTarget items []
BodyTargets (ShortBody value) = ExprAssigns value

abbrev pub FunctionTargets : Function → Type 0
FunctionTargets (function _ _ _ _ params _ _ body) = ParamsAssign params × BodyTargets body
