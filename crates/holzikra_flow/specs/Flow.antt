-- With which environments the instructions of a code run. Environments are those of ECMA-262, clause 9.1; which opcodes
-- push and pop them is this project's own choice.
use Rattle.std.specs.Prelude.{◌≡◌, ℕ, ◌+◌, ◌%◌, ◌^◌, ◌<◌, Bool, true, false, List, length, drop, slice_get, Option, Some, option_map}
use Rattle.std.specs.Int.{cast_unsigned, w64}
use Rattle.stencil_data.specs.declared.stencils.TryNote.{TryNote}
use Rattle.bytecode_buf.specs.declared.instruction.Instr.{Instr}
use Rattle.bytecode_buf.specs.declared.opcode.Op.{Op}
use Rattle.bytecode_buf.specs.declared.opcode.Op.TheVariants as op
use Rattle.bytecode_buf.specs.Layout.{decoded, instr_at}
use Rattle.bytecode_buf.specs.Machine as machine
use Rattle.bytecode_buf.specs.Machine.{flow_of, FallThrough, Jump, Branch, Terminates}
use Rattle.bytecode_buf.specs.Width.{is_jump}
use Rattle.holzikra_flow.specs.declared.environments.Environment.{Environment}
use Rattle.holzikra_flow.specs.declared.environments.Environment.TheVariants.{Inner}
use Rattle.holzikra_flow.specs.declared.step.Change.{Change}
use Rattle.holzikra_flow.specs.declared.step.Change.TheVariants as change

-- control may go to the next instruction
abbrev pub goes_on : machine.Flow → Bool
goes_on FallThrough = true
goes_on Jump = false
goes_on Branch = true
goes_on Terminates = false

-- what an instruction does with the environment with which it runs
abbrev pub change_of : Op → ℕ → Change
change_of op.PushLexicalEnv scope = change.Push scope
change_of op.PushVarEnv scope = change.Push scope
change_of op.PopLexicalEnv scope = change.Pop
change_of _ scope = change.Keep

-- `number` is that of the environment of this scope of this function, inside of another
abbrev pub IsInner : List Environment → ℕ → ℕ → ℕ → ℕ → Type 0
IsInner all number function scope outer = slice_get all number ≡ Some (Inner function scope outer)

-- the environment behind a change in the code of a function
abbrev pub Changes : List Environment → ℕ → Change → ℕ → ℕ → Type 0
Changes all function change.Keep before after = after ≡ before
Changes all function (change.Push scope) before after = IsInner all after function scope before
Changes all function change.Pop before after = (owner : ℕ) × (scope : ℕ) × IsInner all before owner scope after

abbrev pub Follows : List Environment → ℕ → Instr → ℕ → ℕ → Type 0
Follows all function instr before after = Changes all function (change_of instr.op instr.a) before after

-- the instruction at an offset runs with this environment
abbrev pub RunsWith : List (Option ℕ) → ℕ → ℕ → Type 0
RunsWith reached at environment = slice_get reached at ≡ Some (Some environment)

-- the instruction at an offset runs with the environment behind another instruction
abbrev pub LandsWith : List Environment → ℕ → List (Option ℕ) → Instr → ℕ → ℕ → Type 0
LandsWith all function reached instr before to = (after : ℕ) × RunsWith reached to after × Follows all function instr before after

-- an instruction stands at the offset, and wherever it leads the environment is the one behind it
pub record StepFits (all : List Environment) (function : ℕ) (code : List ℕ) (reached : List (Option ℕ)) (at before : ℕ) : Type 0 where
  pub instr : Instr
  pub is : Some instr ≡ option_map (instr_at at) (decoded (drop at code))
  pub next : goes_on (flow_of instr.op) ≡ true → LandsWith all function reached instr before instr.next
  pub target : is_jump instr.op ≡ true → LandsWith all function reached instr before ((at + cast_unsigned w64 instr.to) % 2 ^ 64)

abbrev pub PlaceFits : List Environment → ℕ → List ℕ → List (Option ℕ) → ℕ → Type 0
PlaceFits all function code reached at = (before : ℕ) → RunsWith reached at before → StepFits all function code reached at before

-- a throw inside a try note goes to its end with the environment of its start
abbrev pub CatchFits : List (Option ℕ) → TryNote → Type 0
CatchFits reached note = (before : ℕ) → RunsWith reached note.start before → RunsWith reached note.end before

abbrev pub NoteFits : List (Option ℕ) → List TryNote → ℕ → Type 0
NoteFits reached notes k = (note : TryNote) → slice_get notes k ≡ Some note → CatchFits reached note

-- environments at the offsets of a function's code that fit every step that the code can make
pub record IsFlow (all : List Environment) (function : ℕ) (code : List ℕ) (notes : List TryNote) (reached : List (Option ℕ)) : Type 0 where
  pub steps : (at : ℕ) → at < length reached → PlaceFits all function code reached at
  pub catches : (k : ℕ) → k < length notes → NoteFits reached notes k
