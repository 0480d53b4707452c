-- That the code of parts of statements was appended: blocks, branches, turns of loops, clauses, what is guarded and what
-- handles.
use Rattle.std.specs.Prelude.{ℕ, ◌+◌, ◌<◌, ◌^◌, List, [], ◌∷◌, ◌++◌, Option, map, length, option_map}
use Rattle.script_grammar.specs.declared.tree.Clause.{Clause}
use Rattle.script_grammar.specs.declared.tree.Each.{Each}
use Rattle.script_grammar.specs.declared.tree.Expr.{Expr}
use Rattle.script_grammar.specs.declared.tree.Ident.{Ident}
use Rattle.script_grammar.specs.declared.tree.Stmt.{Stmt}
use Rattle.script_grammar.specs.Interpretation.{maybe_named}
use Rattle.script_grammar.specs.Tree.{Named, Stmts, Clauses, MaybeExpr}
use Rattle.script_grammar.specs.Tree as model
use Rattle.script_grammar.specs.TreeLists.{maybe_expr_of, stmts_of, clauses_of}
use Rattle.script_grammar.specs.TreeOf.{expr_of, each_of, stmt_of, clause_of}
use Rattle.scope_analysis.specs.DeclaredNames.{lexical_names}
use Rattle.scope_analysis.specs.Scopes.{scope_count, catch_names, count_stmt, count_stmts, count_clauses}
use Rattle.bytecode_buf.specs.declared.opcode.Op.TheVariants as op
use Rattle.bytecode_buf.specs.declared.waits.Aim.TheVariants as aim
use Rattle.bytecode_buf.specs.Appends.{Emitted}
use Rattle.bytecode_buf.specs.Pieces.{Code, Waiting, here}
use Rattle.emit_exprs.specs.Exprs.{expr_code}
use Rattle.emit_exprs.specs.Fitting.{ExprFits, MaybeExprFits}
use Rattle.emit_exprs.specs.Whole.{just}
use Rattle.emit_stmts.specs.Frames.{Frame, Loop, KeysLoop, Switching, kept_values}
use Rattle.emit_stmts.specs.HeadCode.{freshen_head}
use Rattle.emit_stmts.specs.Positions.{Position, World, setting, within}
use Rattle.emit_stmts.specs.StmtCode.{Written}
use Rattle.emit_stmts.specs.StmtFits.{HasRoom, room_in, StmtFits, StmtsFit, ClausesFit, EachFits}
use Rattle.emit_stmts.specs.Stmts.{Setting, scene_at, block_functions, in_scope, stmt_code, stmts_code, clauses_code, cases_code}
use Rattle.emit_stmts.specs.Stmts.{default_aim, test_code, update_code, store_each, for_code, for_in_code, guarded, catch_enter}
use Rattle.emit_stmts.specs.Stmts.{catch_code, catch_leave, frames_in}

abbrev pub stmts_in : Position → World → List Stmt → Stmts
stmts_in p w ss = stmts_of (map (stmt_of (within p w)) ss)

abbrev pub clauses_in : Position → World → List Clause → Clauses
clauses_in p w cs = clauses_of (map (clause_of (within p w)) cs)

abbrev pub maybe_in : Position → World → Option Expr → MaybeExpr
maybe_in p w e = maybe_expr_of (option_map (expr_of (within p w)) e)

-- ---- blocks

abbrev pub BlockFits : ℕ → ℕ → Stmts → Type 0
BlockFits room kept items = HasRoom (lexical_names items) room × StmtsFit (room_in (lexical_names items) room) kept items

abbrev pub block_count : Stmts → ℕ
block_count items = scope_count (lexical_names items) + count_stmts items

abbrev pub block_code : Setting → Stmts → ℕ → List Frame → Code
block_code the items number frames = in_scope the (lexical_names items) (λ scene. block_functions scene items) (stmts_code the items) number frames

pub record BlockWritten (p : Position) (old new : Emitted) (number next : ℕ) (ss : List Stmt) : Type 0 where
  pub code : Written p old new number next (λ w. BlockFits p.room (kept_values p.frames) (stmts_in p w ss))
      (λ w. block_count (stmts_in p w ss)) (λ w n. block_code (setting p w) (stmts_in p w ss) n p.frames)

-- ---- choices

-- an `if` up to its second branch
abbrev pub first_code : Code → Code → Code
first_code test first = here aim.Otherwise (test ++ (Waiting op.JumpIfFalse aim.Otherwise ∷ []) ++ first ++ (Waiting op.Goto aim.After ∷ []))

pub record FirstWritten (p : Position) (old new : Emitted) (number next : ℕ) (test : Expr) (s : Stmt) : Type 0 where
  pub code : Written p old new number next (λ w. ExprFits (expr_of (within p w) test)
      × StmtFits p.room (kept_values p.frames) (stmt_of (within p w) s)) (λ w. count_stmt (stmt_of (within p w) s))
      (λ w n. first_code (expr_code (scene_at (setting p w) p.frames) (expr_of (within p w) test))
      (stmt_code (setting p w) (stmt_of (within p w) s) n p.frames))

-- ---- loops

-- the turns of a `for` whose head has this scope, if any
abbrev pub turns_code : Setting → Option ℕ → MaybeExpr → MaybeExpr → model.Stmt → ℕ → List Frame → Code
turns_code the head test update body number frames =
    for_code (length frames) (test_code (scene_at the (Loop ∷ frames)) (length frames) test) (stmt_code the body number (Loop ∷ frames))
    (freshen_head the.scopes head) (update_code (scene_at the (Loop ∷ frames)) update)

pub record ForWritten (p : Position) (old new : Emitted) (number next : ℕ) (head : Option ℕ) (test update : Option Expr) (s : Stmt) : Type 0 where
  pub code : Written p old new number next (λ w. MaybeExprFits (maybe_in p w test) × MaybeExprFits (maybe_in p w update)
      × StmtFits p.room (kept_values p.frames) (stmt_of (within p w) s)) (λ w. count_stmt (stmt_of (within p w) s))
      (λ w n. turns_code (setting p w) head (maybe_in p w test) (maybe_in p w update) (stmt_of (within p w) s) n p.frames)

-- a for-in whose head has this scope, if any
abbrev pub keys_turns : Setting → Option ℕ → model.Each → model.Expr → model.Stmt → ℕ → List Frame → Code
keys_turns the head each over body number frames =
    expr_code (scene_at the frames) over ++ just op.Iter
    ++ for_in_code (length frames) (freshen_head the.scopes head) (store_each (scene_at the (KeysLoop ∷ frames)) each)
    (stmt_code the body number (KeysLoop ∷ frames))

pub record ForInWritten (p : Position) (old new : Emitted) (number next : ℕ) (head : Option ℕ) (each : Each) (over : Expr) (s : Stmt) : Type 0 where
  pub code : Written p old new number next (λ w. EachFits (each_of (within p w) each) × ExprFits (expr_of (within p w) over)
      × StmtFits p.room (2 + kept_values p.frames) (stmt_of (within p w) s)) (λ w. count_stmt (stmt_of (within p w) s))
      (λ w n. keys_turns (setting p w) head (each_of (within p w) each) (expr_of (within p w) over) (stmt_of (within p w) s) n p.frames)

-- ---- switches

-- the tests of a switch, and its clauses
abbrev pub switch_code : Setting → Clauses → ℕ → List Frame → Code
switch_code the clauses number frames =
    here (aim.Break (length frames))
    (clauses_code the 0 clauses number (Switching ∷ frames)
    (cases_code (scene_at the (Switching ∷ frames)) 0 clauses ++ (Waiting op.Default (default_aim (length frames) 0 clauses) ∷ [])))

pub record ClausesWritten (p : Position) (old new : Emitted) (number next : ℕ) (cs : List Clause) : Type 0 where
  pub code : Written p old new number next (λ w. ClausesFit p.room (kept_values p.frames) (clauses_in p w cs))
      (λ w. count_clauses (clauses_in p w cs)) (λ w n. switch_code (setting p w) (clauses_in p w cs) n p.frames)

-- ---- try

pub record GuardedWritten (p : Position) (old new : Emitted) (number next : ℕ) (ss : List Stmt) : Type 0 where
  pub code : Written p old new number next (λ w. (kept_values p.frames < 2 ^ 32)
      × BlockFits p.room (kept_values p.frames) (stmts_in p w ss)) (λ w. block_count (stmts_in p w ss))
      (λ w n. guarded (kept_values p.frames) (block_code (setting p w) (stmts_in p w ss) n p.frames))

abbrev pub HandlerFits : ℕ → ℕ → Option Named → Stmts → Type 0
HandlerFits room kept param handler = HasRoom (catch_names param) room × BlockFits (room_in (catch_names param) room) kept handler

abbrev pub handler_code : Setting → Option Named → Stmts → ℕ → List Frame → Code
handler_code the param handler number frames =
    catch_enter the (catch_names param) number
    ++ catch_code (scene_at the (frames_in (catch_names param) number frames)) param
    ++ block_code the handler (number + scope_count (catch_names param)) (frames_in (catch_names param) number frames)
    ++ catch_leave the (catch_names param) number

pub record HandlerWritten (p : Position) (old new : Emitted) (number next : ℕ) (param : Option Ident) (ss : List Stmt) : Type 0 where
  pub code : Written p old new number next (λ w. HandlerFits p.room (kept_values p.frames) (maybe_named (within p w) param)
      (stmts_in p w ss)) (λ w. scope_count (catch_names (maybe_named (within p w) param)) + block_count (stmts_in p w ss))
      (λ w n. handler_code (setting p w) (maybe_named (within p w) param) (stmts_in p w ss) n p.frames)
