-- That the code of a script was appended, and when a script's own stencil stands for the definition of it.
use Rattle.std.specs.Prelude.{◌≡◌, ℕ, ◌+◌, ◌<◌, ◌^◌, List, ◌++◌, map}
use Rattle.script_grammar.specs.declared.tree.Stmt.{Stmt}
use Rattle.script_grammar.specs.Tree.{Stmts}
use Rattle.script_grammar.specs.TreeLists.{stmts_of}
use Rattle.script_grammar.specs.TreeOf.{stmt_of}
use Rattle.stencil_data.specs.declared.functions.Extent.{Extent}
use Rattle.stencil_data.specs.declared.stencils.TryNote.{TryNote}
use Rattle.stencil_data.specs.StandsFor.{ScopesStandFor, FunctionStandsFor}
use Rattle.stencil_data.specs.Views.{ScopeView, FunctionView}
use Rattle.scope_analysis.specs.Functions.{inner_script}
use Rattle.scope_analysis.specs.Kept.{under}
use Rattle.scope_analysis.specs.Scopes.{count_stmts, script_scopes}
use Rattle.bytecode_buf.specs.declared.opcode.Op.TheVariants as op
use Rattle.bytecode_buf.specs.Appends.{Emitted}
use Rattle.bytecode_buf.specs.Command.{counted, ShowsCommands}
use Rattle.bytecode_buf.specs.Pieces.{Code, one, settled, notes}
use Rattle.emit_exprs.specs.Whole.{just}
use Rattle.emit_stmts.specs.Frames.{Frame, kept_values}
use Rattle.emit_stmts.specs.Functions.{function_count, extents_of, script_code, top_script}
use Rattle.emit_stmts.specs.PartCode.{stmts_in}
use Rattle.emit_stmts.specs.Positions.{Position, setting}
use Rattle.emit_stmts.specs.StmtCode.{Written}
use Rattle.emit_stmts.specs.StmtFits.{StmtsFit}
use Rattle.emit_stmts.specs.Stmts.{Setting, stmts_code}

-- ---- the code

-- the number of the functions declared at the top, the statements, the end
abbrev pub whole_code : Setting → Stmts → ℕ → List Frame → Code
whole_code the items number frames = one (counted op.GlobalOrEvalDeclInstantiation (function_count items))
    ++ stmts_code the items number frames ++ just op.RetRval

abbrev pub WholeFits : ℕ → ℕ → Stmts → Type 0
WholeFits room kept items = (function_count items < 2 ^ 32) × StmtsFit room kept items

pub record ScriptWritten (p : Position) (old new : Emitted) (number next : ℕ) (ss : List Stmt) : Type 0 where
  pub code : Written p old new number next (λ w. WholeFits p.room (kept_values p.frames) (stmts_in p w ss))
      (λ w. count_stmts (stmts_in p w ss)) (λ w n. whole_code (setting p w) (stmts_in p w ss) n p.frames)

-- ---- the stencil

-- what statements stand for, whatever the bodies of the functions that were passed over
abbrev pub script_in : List (List ℕ) → (ℕ → Stmts) → List Stmt → Stmts
script_in texts bodies ss = stmts_of (map (stmt_of (under texts bodies)) ss)

-- the scopes and the functions that stand directly in a script are these, and its counts fit
pub record Belong (texts : List (List ℕ)) (scopes : List ScopeView) (inner : List Extent) (items : Stmts) : Type 0 where
  pub scopes_are : ScopesStandFor texts scopes (script_scopes items)
  pub inner_are : inner ≡ extents_of (inner_script items)
  pub fit : WholeFits 64999 0 items
  pub numbered : 1 + count_stmts items < 2 ^ 64

-- these bytes and try notes are the script's own
pub record HasScriptCode (texts : List (List ℕ)) (items : Stmts) (bytes : List ℕ) (ns : List TryNote) : Type 0 where
  pub code : ShowsCommands texts bytes (settled (script_code items))
  pub notes_are : ns ≡ notes (script_code items)

-- the code in the making is that of a script with these scopes and functions
abbrev pub Drafted : List (List ℕ) → List ScopeView → List Extent → List Stmt → List ℕ → List TryNote → Type 0
Drafted texts scopes inner ss bytes ns = (bodies : ℕ → Stmts) → Belong texts scopes inner (script_in texts bodies ss)
    → HasScriptCode texts (script_in texts bodies ss) bytes ns

-- the stencil stands for the script's own, whose text ends here
abbrev pub IsTop : List (List ℕ) → List ScopeView → List Extent → List Stmt → ℕ → FunctionView → Type 0
IsTop texts scopes inner ss end top =
    (bodies : ℕ → Stmts) → Belong texts scopes inner (script_in texts bodies ss)
    → FunctionStandsFor ShowsCommands texts top (top_script (script_in texts bodies ss) end).part
