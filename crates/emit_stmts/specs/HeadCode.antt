-- That the heads of loops and of a switch were appended.
use Rattle.std.specs.Prelude.{◌≡◌, ℕ, List, Option, Some, None, if◌then◌else◌, [], ◌∷◌, ◌++◌, map, option_map}
use Rattle.script_grammar.specs.declared.tree.Clause.{Clause}
use Rattle.script_grammar.specs.declared.tree.Expr.{Expr}
use Rattle.script_grammar.specs.TreeLists.{maybe_expr_of, clauses_of}
use Rattle.script_grammar.specs.TreeOf.{expr_of, clause_of}
use Rattle.stencil_data.specs.declared.stencils.TryNote.{TryNote}
use Rattle.stencil_data.specs.Named.{NamedScope}
use Rattle.bytecode_buf.specs.declared.opcode.Op.TheVariants as op
use Rattle.bytecode_buf.specs.declared.waits.Aim.TheVariants as aim
use Rattle.bytecode_buf.specs.declared.waits.Wait.{Wait}
use Rattle.bytecode_buf.specs.Appends.{Emitted, Appends}
use Rattle.bytecode_buf.specs.Command.{plain}
use Rattle.bytecode_buf.specs.Emits.{emitted}
use Rattle.bytecode_buf.specs.Pieces.{Code, Waiting}
use Rattle.emit_exprs.specs.Fitting.{MaybeExprFits}
use Rattle.emit_exprs.specs.Whole.{whole, just}
use Rattle.emit_stmts.specs.declared.stmt_context.StmtContext.{StmtContext}
use Rattle.emit_stmts.specs.Frames.{scope_at, has_env, kept_values}
use Rattle.emit_stmts.specs.Positions.{Position, World, position_of, scene, within}
use Rattle.emit_stmts.specs.StmtCode.{Written}
use Rattle.emit_stmts.specs.StmtFits.{ClausesFit}
use Rattle.emit_stmts.specs.Stmts.{case_code, cases_code, test_code}

-- a new environment for a turn, where the head has this scope and that has one
abbrev pub freshen_head : List NamedScope → Option ℕ → Code
freshen_head scopes None = []
freshen_head scopes (Some number) = if has_env (scope_at scopes number) then just op.FreshenLexicalEnv else []

-- the test of a loop
pub record Tested (s : StmtContext) (bytes : List ℕ) (waits : List Wait) (bytes_new : List ℕ) (waits_new : List Wait) (level : ℕ)
    (test : Option Expr) : Type 0 where
  pub made : (notes : List TryNote) (number : ℕ)
      → Written (position_of s) (emitted bytes waits notes) (emitted bytes_new waits_new notes) number number
      (λ w. MaybeExprFits (maybe_expr_of (option_map (expr_of (within (position_of s) w)) test))) (λ w. 0)
      (λ w i. test_code (scene (position_of s)) level (maybe_expr_of (option_map (expr_of (within (position_of s) w)) test)))

-- that of a for-in
abbrev pub keys_code : ℕ → Code
keys_code level = whole (plain op.LoopHead ∷ plain op.MoreIter ∷ plain op.IsNoIter ∷ []) ++ (Waiting op.JumpIfTrue (aim.Break level) ∷ [])

pub record KeysTested (bytes : List ℕ) (waits : List Wait) (bytes_new : List ℕ) (waits_new : List Wait) (level : ℕ) : Type 0 where
  pub made : (p : Position) (notes : List TryNote) (number : ℕ)
      → Written p (emitted bytes waits notes) (emitted bytes_new waits_new notes) number number (λ w. Unit {0}) (λ w. 0) (λ w i. keys_code level)

-- Tests of clauses were appended, whose jumps wait for the clauses; where these counts fit, this code.
pub record Choosing (p : Position) (old new : Emitted) (fits : World → Type 0) (code : World → Code) : Type 0 where
  pub written : Code
  pub appends : Appends p.texts old new written
  pub is : (w : World) → fits w → written ≡ code w

-- the test of the clause at a place, and those of all clauses
pub record CaseWritten (s : StmtContext) (bytes : List ℕ) (waits : List Wait) (bytes_new : List ℕ) (waits_new : List Wait) (place : ℕ)
    (test : Option Expr) : Type 0 where
  pub made : (notes : List TryNote)
      → Choosing (position_of s) (emitted bytes waits notes) (emitted bytes_new waits_new notes)
      (λ w. MaybeExprFits (maybe_expr_of (option_map (expr_of (within (position_of s) w)) test)))
      (λ w. case_code (scene (position_of s)) place (maybe_expr_of (option_map (expr_of (within (position_of s) w)) test)))

pub record CasesWritten (s : StmtContext) (bytes : List ℕ) (waits : List Wait) (bytes_new : List ℕ) (waits_new : List Wait)
    (clauses : List Clause) : Type 0 where
  pub made : (notes : List TryNote)
      → Choosing (position_of s) (emitted bytes waits notes) (emitted bytes_new waits_new notes)
      (λ w. ClausesFit (position_of s).room (kept_values (position_of s).frames)
      (clauses_of (map (clause_of (within (position_of s) w)) clauses))) (λ w. cases_code (scene (position_of s)) 0
      (clauses_of (map (clause_of (within (position_of s) w)) clauses)))
