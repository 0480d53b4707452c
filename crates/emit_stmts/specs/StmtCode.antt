-- That the code of a statement was appended: whatever the tree was, some code; and the code of what the statement stands
-- for, under the texts of its position, where its counts fit and the chain is that of the frames around it.
use Rattle.std.specs.Prelude.{◌≡◌, ℕ, ◌+◌, ◌<◌, ◌^◌, List, map}
use Rattle.script_grammar.specs.declared.tree.Stmt.{Stmt}
use Rattle.script_grammar.specs.Tree as model
use Rattle.script_grammar.specs.TreeLists.{stmts_of}
use Rattle.script_grammar.specs.TreeOf.{stmt_of}
use Rattle.scope_analysis.specs.Scopes.{count_stmt, count_stmts}
use Rattle.bytecode_buf.specs.Pieces.{Code}
use Rattle.bytecode_buf.specs.Appends.{Emitted, Appends}
use Rattle.emit_stmts.specs.Apart.{Apart}
use Rattle.emit_stmts.specs.Frames.{kept_values}
use Rattle.emit_stmts.specs.Positions.{Position, World, Stands, setting, within}
use Rattle.emit_stmts.specs.StmtFits.{StmtFits, StmtsFit}
use Rattle.emit_stmts.specs.Stmts.{stmt_code, stmts_code}

-- Some code was appended, whose first scope has this number; no jump in it waits for a clause of a switch around. Where
-- these counts fit, and the numbers of its scopes, the next number is after n scopes, and the code is this one.
pub record Written (p : Position) (old new : Emitted) (number next : ℕ) (fits : World → Type 0) (count : World → ℕ)
    (code : World → ℕ → Code) : Type 0 where
  pub written : Code
  pub appends : Appends p.texts old new written
  pub apart : Apart written
  pub counted : (w : World) → fits w → number + count w < 2 ^ 64 → next ≡ number + count w
  pub is : (w : World) → Stands p w → fits w → number + count w < 2 ^ 64 → written ≡ code w number

-- the statement of the model
pub record RowWritten (p : Position) (old new : Emitted) (number next : ℕ) (m : World → model.Stmt) : Type 0 where
  pub code : Written p old new number next (λ w. StmtFits p.room (kept_values p.frames) (m w)) (λ w. count_stmt (m w))
      (λ w n. stmt_code (setting p w) (m w) n p.frames)

pub record StmtWritten (p : Position) (old new : Emitted) (number next : ℕ) (s : Stmt) : Type 0 where
  pub row : RowWritten p old new number next (λ w. stmt_of (within p w) s)

pub record StmtsWritten (p : Position) (old new : Emitted) (number next : ℕ) (ss : List Stmt) : Type 0 where
  pub code : Written p old new number next (λ w. StmtsFit p.room (kept_values p.frames) (stmts_of (map (stmt_of (within p w)) ss)))
      (λ w. count_stmts (stmts_of (map (stmt_of (within p w)) ss)))
      (λ w n. stmts_code (setting p w) (stmts_of (map (stmt_of (within p w)) ss)) n p.frames)
