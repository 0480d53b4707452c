-- The jumps that wait among the operands of a binary list.
use Rattle.std.specs.Prelude.{◌≡◌, ℕ, true, List, [], ◌∷◌, map}
use Rattle.script_grammar.specs.declared.tree.Operand.{Operand}
use Rattle.script_grammar.specs.Interpretation.{Interpretation}
use Rattle.script_grammar.specs.Tree.{Stmts}
use Rattle.script_grammar.specs.TreeLists.{operands_of}
use Rattle.script_grammar.specs.TreeOf.{operand_of}
use Rattle.stencil_data.specs.declared.stencils.TryNote.{TryNote}
use Rattle.bytecode_buf.specs.declared.waits.Aim.TheVariants as aim
use Rattle.bytecode_buf.specs.declared.waits.Wait.{Wait}
use Rattle.bytecode_buf.specs.Pieces.{Code, same_aim, here}
use Rattle.bytecode_buf.specs.Appends.{Appends}
use Rattle.bytecode_buf.specs.Emits.{emitted}
use Rattle.emit_operators.specs.declared.operators.Joining.{Joining}
use Rattle.emit_operators.specs.declared.operators.Joining.TheVariants.{FromLeft, FromRight, Shortcut}
use Rattle.emit_exprs.specs.declared.site.Site.{Site}
use Rattle.emit_exprs.specs.Sites.{EmitsAt, scene_of}
use Rattle.emit_exprs.specs.Exprs.{before_operand, operands_code, joined}
use Rattle.emit_exprs.specs.Fitting.{OperandsFit}
use Rattle.emit_exprs.specs.TreeCode.{at_site}

-- jumps that all wait for what follows
abbrev pub AllAfter : List Wait → Type 0
AllAfter [] = Unit {0}
AllAfter (w ∷ ws) = (same_aim aim.After w.aim ≡ true) × AllAfter ws

-- the jumps that wait among operands
abbrev pub WaitsOf : Joining → List Wait → Type 0
WaitsOf FromLeft waits = waits ≡ []
WaitsOf FromRight waits = waits ≡ []
WaitsOf (Shortcut short) waits = AllAfter waits

-- what stands before an operand was appended
pub record Begins (how : Joining) (bytes : List ℕ) (waits : List Wait) (bytes_new : List ℕ) (waits_new : List Wait) : Type 0 where
  pub appends : (texts : List (List ℕ)) (notes : List TryNote)
      → Appends texts (emitted bytes waits notes) (emitted bytes_new waits_new notes) (before_operand how)
  pub keeps : WaitsOf how waits → WaitsOf how waits_new

-- the jumps, which all wait for what follows, were sent to the end
pub record Ends (s : Site) (bytes : List ℕ) (waits : List Wait) (new : List ℕ) : Type 0 where
  pub under : AllAfter waits → (start : List ℕ) (code : Code)
      → ((notes : List TryNote) → Appends s.texts.now (emitted start [] notes) (emitted bytes waits notes) code)
      → EmitsAt s start new (here aim.After code)

-- the code of the operands is the list's
pub record Joins (s : Site) (how : Joining) (rest : List Operand) (bytes : List ℕ) (waits : List Wait) (new : List ℕ) : Type 0 where
  pub under : (i : Interpretation) → WaitsOf how waits → (start : List ℕ) (code : Code)
      → ((notes : List TryNote) → Appends s.texts.now (emitted start [] notes) (emitted bytes waits notes) code)
      → EmitsAt s start new (joined how (operands_of (map (operand_of i) rest)) code)

-- the operands after the first
pub record OperandsEmit (s : Site) (how : Joining) (bytes : List ℕ) (waits : List Wait) (new : List ℕ) (waits_new : List Wait)
    (rest : List Operand) : Type 0 where
  pub written : Code
  pub appends : (notes : List TryNote) → Appends s.texts.now (emitted bytes waits notes) (emitted new waits_new notes) written
  pub keeps : WaitsOf how waits → WaitsOf how waits_new
  pub is : (bodies : ℕ → Stmts) → OperandsFit (operands_of (map (operand_of (at_site s bodies)) rest))
      → written ≡ operands_code (scene_of s) how (operands_of (map (operand_of (at_site s bodies)) rest))
