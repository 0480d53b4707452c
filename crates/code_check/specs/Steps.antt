-- What an instruction does, as the verifier reads it. This project's own choice.
use Rattle.std.specs.Prelude.{◌≡◌, ℕ, ◌+◌, ◌-◌, ◌%◌, ◌^◌, ◌<◌, ◌≤◌, Bool, true, false, if◌then◌else◌, IfSome, List, [], ◌∷◌, ◌++◌, Option, Some, None}
use Rattle.std.specs.Int.{cast_unsigned, w64}
use Rattle.bytecode_buf.specs.declared.instruction.Instr.{Instr}
use Rattle.bytecode_buf.specs.declared.opcode.Count.{Count}
use Rattle.bytecode_buf.specs.declared.opcode.Count.TheVariants as count
use Rattle.bytecode_buf.specs.Width.{first_of, is_jump}
use Rattle.bytecode_buf.specs.Layout.{Numbered}
use Rattle.bytecode_buf.specs.Machine.{Flow, FallThrough, Jump, Branch, Terminates, State, flow_of, flows, given_away_by, taken}
use Rattle.code_check.specs.declared.step.Landing.{Landing}
use Rattle.code_check.specs.declared.step.Step.{Step}

-- the operand fits its width
abbrev pub FitsWidth : Instr → Type 0
FitsWidth instr = instr.a < 256 ^ first_of instr.op

-- a count fits 64 bits
abbrev pub AmountFits : Count → ℕ → Type 0
AmountFits (count.Fixed n) operand = Unit {0}
AmountFits (count.More n) operand = operand + n < 2 ^ 64

-- control may go to the next instruction
abbrev pub goes_further : Flow → Bool
goes_further FallThrough = true
goes_further Jump = false
goes_further Branch = true
goes_further Terminates = false

-- where an instruction that gives n values may go
abbrev pub next_landing : Instr → ℕ → Option Landing
next_landing instr given = if goes_further (flow_of instr.op) then Some (record { at = instr.next; given = given }) else None

abbrev pub target_landing : ℕ → Instr → ℕ → Option Landing
target_landing at instr given =
    if is_jump instr.op then Some (record { at = (at + cast_unsigned w64 instr.to) % 2 ^ 64; given = given_away_by instr.op given }) else None

-- no instruction gives more than two values above those that it takes
abbrev pub GainsLittle : Step → Type 0
GainsLittle step = IfSome step.next (λ l. l.given ≤ step.taken + 2) × IfSome step.target (λ l. l.given ≤ step.taken + 2)

-- the state that is reached where n values are taken
abbrev pub landed : ℕ → ℕ → Landing → State
landed depth taken l = record { at = l.at; depth = depth - taken + l.given }

abbrev pub landed_if : ℕ → ℕ → Option Landing → List State
landed_if depth taken None = []
landed_if depth taken (Some l) = landed depth taken l ∷ []

-- this is what the instruction at an offset does
pub record IsStepOf (i : Numbered) (at : ℕ) (step : Step) : Type 0 where
  pub taken : step.taken ≡ taken i
  pub flows : (depth : ℕ) → landed_if depth step.taken step.next ++ landed_if depth step.taken step.target
      ≡ flows (flow_of i.op) i (record { at = at; depth = depth })
