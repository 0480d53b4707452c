-- That what leaves the frames around a statement was appended.
use Rattle.std.specs.Prelude.{ℕ, Bool, true, false, List, [], ◌∷◌, Option, option_map}
use Rattle.script_grammar.specs.declared.tree.Ident.{Ident}
use Rattle.stencil_data.specs.declared.stencils.TryNote.{TryNote}
use Rattle.stencil_data.specs.StandsFor.{text_at}
use Rattle.bytecode_buf.specs.declared.waits.Wait.{Wait}
use Rattle.bytecode_buf.specs.Appends.{Appends}
use Rattle.bytecode_buf.specs.Pieces.{Code}
use Rattle.bytecode_buf.specs.Emits.{emitted}
use Rattle.emit_exprs.specs.Sites.{EmitsAt}
use Rattle.emit_stmts.specs.declared.frames.Frame.{Frame}
use Rattle.emit_stmts.specs.declared.leaving.Goal.{Goal}
use Rattle.emit_stmts.specs.declared.leaving.Goal.TheVariants as goal
use Rattle.emit_stmts.specs.declared.stmt_context.StmtContext.{StmtContext}
use Rattle.emit_stmts.specs.Frames.{Out, Again, exits, leaving}
use Rattle.emit_stmts.specs.Frames as model
use Rattle.emit_stmts.specs.Positions.{position_of, frames_in}

abbrev pub label_in : List (List ℕ) → Option Ident → Option (List ℕ)
label_in texts label = option_map (λ (name : Ident). text_at texts name.atom) label

abbrev pub goal_in : List (List ℕ) → Goal → model.Goal
goal_in texts (goal.Out label) = Out (label_in texts label)
goal_in texts (goal.Again label) = Again (label_in texts label)

pub record Exits (s : StmtContext) (old new : List ℕ) (frames : List Frame) : Type 0 where
  pub made : EmitsAt s.exprs old new (exits (position_of s).scopes (frames_in s.exprs.texts.now frames))

-- a jump to this goal, out of these frames
pub record Leaves (s : StmtContext) (bytes : List ℕ) (waits : List Wait) (bytes_new : List ℕ) (waits_new : List Wait) (goal : Goal)
    (frames : List Frame) : Type 0 where
  pub appends : (notes : List TryNote) → Appends s.exprs.texts.now (emitted bytes waits notes) (emitted bytes_new waits_new notes)
      (leaving (position_of s).scopes (goal_in s.exprs.texts.now goal) (frames_in s.exprs.texts.now frames))

-- there is an instruction
abbrev pub has_code : Code → Bool
has_code [] = false
has_code (p ∷ ps) = true
