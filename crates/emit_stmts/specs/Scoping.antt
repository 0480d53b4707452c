-- Scopes of a statement's function by their numbers, and slots that are hidden.
use Rattle.std.specs.Prelude.{ℕ, ◌<◌, Bool, if◌then◌else◌, List, [], ◌∷◌, map, Option, Some, None}
use Rattle.stencil_data.specs.Named.{NamedScope}
use Rattle.bytecode_buf.specs.declared.opcode.Op.{Op}
use Rattle.bytecode_buf.specs.declared.opcode.Op.TheVariants as op
use Rattle.bytecode_buf.specs.Command.{counted}
use Rattle.bytecode_buf.specs.Pieces.{Code}
use Rattle.emit_exprs.specs.Whole.{just, whole}
use Rattle.emit_stmts.specs.declared.stmt_context.StmtContext.{StmtContext}
use Rattle.emit_stmts.specs.Frames.{scope_at}
use Rattle.emit_stmts.specs.Positions.{position_of}

abbrev pub scope_in : StmtContext → ℕ → NamedScope
scope_in s number = scope_at (position_of s).scopes number

abbrev pub hidden_in : Option ℕ → List ℕ
hidden_in None = []
hidden_in (Some slot) = slot ∷ []

-- each is below this bound
abbrev pub AllBelow : ℕ → List ℕ → Type 0
AllBelow bound [] = Unit {0}
AllBelow bound (n ∷ ns) = (n < bound) × AllBelow bound ns

-- the marker into each of these slots
abbrev pub hiding_each : List ℕ → Code
hiding_each slots = whole (map (λ (i : ℕ). counted op.InitLexical i) slots)

-- an instruction of a scope that has an environment
abbrev pub enters : Bool → Op → Code
enters has opcode = if has then just opcode else []
