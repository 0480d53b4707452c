-- The atoms of a stencil in the order in which its image has them, and how many texts they name.
use Rattle.std.specs.Prelude.{◌==◌, ℕ, ◌+◌, nat_lt, if◌then◌else◌, List, [], ◌∷◌, ◌++◌, flat_map, Option, Some, None}
use Rattle.stencil_data.specs.declared.records.ClosedName.{ClosedName}
use Rattle.stencil_data.specs.declared.scopes.Binding.{Binding}
use Rattle.stencil_data.specs.declared.stencils.Entry.{Entry}
use Rattle.stencil_data.specs.declared.stencils.Entry.TheVariants as entry
use Rattle.stencil_data.specs.MergedView.{MergedView}
use Rattle.stencil_data.specs.Views.{ScopeView, RecordView, FunctionView}
use Rattle.bytecode_buf.specs.declared.instruction.Instr.{Instr}
use Rattle.bytecode_buf.specs.declared.opcode.Shape.{Shape}
use Rattle.bytecode_buf.specs.declared.opcode.Shape.TheVariants as shape
use Rattle.bytecode_buf.specs.Layout.{Numbered, instructions}
use Rattle.bytecode_buf.specs.Width.{shape_of}

abbrev pub name_atoms : Option ℕ → List ℕ
name_atoms None = []
name_atoms (Some atom) = atom ∷ []

abbrev pub binding_atoms : Binding → List ℕ
binding_atoms binding = binding.atom ∷ []

abbrev pub scope_atoms : ScopeView → List ℕ
scope_atoms scope = flat_map binding_atoms scope.bindings

abbrev pub operand_atoms : Shape → ℕ → List ℕ
operand_atoms shape.Atom a = a ∷ []
operand_atoms _ a = []

abbrev pub instruction_atoms : Numbered → List ℕ
instruction_atoms i = operand_atoms (shape_of i.op) i.a

-- the same, of an instruction as it is read
abbrev pub read_atoms : Instr → List ℕ
read_atoms instr = operand_atoms (shape_of instr.op) instr.a

abbrev pub code_atoms : List ℕ → List ℕ
code_atoms code = flat_map instruction_atoms (instructions code)

abbrev pub function_atoms : FunctionView → List ℕ
function_atoms f = name_atoms f.name ++ (flat_map scope_atoms f.scopes ++ code_atoms f.code)

abbrev pub closed_atoms : ClosedName → List ℕ
closed_atoms name = name.atom ∷ []

abbrev pub record_atoms : RecordView → List ℕ
record_atoms lazy = name_atoms lazy.name ++ flat_map closed_atoms lazy.closed

abbrev pub entry_atoms : Entry → List ℕ
entry_atoms entry.Lazy = []
entry_atoms (entry.Compiled f) = function_atoms f

abbrev pub stencil_atoms : MergedView → List ℕ
stencil_atoms m = function_atoms m.top ++ (flat_map record_atoms m.records ++ flat_map entry_atoms m.entries)

-- ---- numbering

abbrev pub next_seen : ℕ → ℕ → ℕ
next_seen seen atom = if atom == seen then seen + 1 else seen

-- How many texts are named once these atoms are named too; none where an atom is named before a lower one.
abbrev pub seen_after : ℕ → List ℕ → Option ℕ
seen_after seen [] = Some seen
seen_after seen (atom ∷ atoms) = if nat_lt seen atom then None else seen_after (next_seen seen atom) atoms
