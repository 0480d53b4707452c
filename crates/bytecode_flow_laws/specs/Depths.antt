-- Depths of the stack that fit each step of a code, for pieces of code that are put together. This project's own choice.
use Rattle.std.specs.Prelude.{◌≡◌, ℕ, zero, suc, ◌+◌, ◌-◌, ◌^◌, ◌≤◌, ◌⊎◌, if◌then◌else◌, List, [], ◌∷◌, map, Option, Some, None}
use Rattle.bytecode_buf.specs.declared.opcode.Count.{Count}
use Rattle.bytecode_buf.specs.declared.opcode.Count.TheVariants as count
use Rattle.bytecode_buf.specs.declared.opcode.Op.{Op}
use Rattle.bytecode_buf.specs.declared.waits.Aim.{Aim}
use Rattle.bytecode_buf.specs.Command.{Operand, Distance, Command}
use Rattle.bytecode_buf.specs.Machine.{amount, Flow, FallThrough, Jump, Branch, Terminates, flow_of, given_away_by}
use Rattle.bytecode_buf.specs.Pieces.{Piece, Whole, Waiting, Trying, Code, command_width, width_by, size, same_aim}
use Rattle.bytecode_buf.specs.Table.{row_of}
use Rattle.bytecode_buf.specs.Width.{width_of}
use Rattle.bytecode_flow_laws.specs.Staying.{number_in}

-- ---- one step

-- what is taken from the stack, and what is given to it
pub record Changes (taken given before after : ℕ) : Type 0 where
  pub rest : ℕ
  pub before_is : before ≡ rest + taken
  pub after_is : after ≡ rest + given

-- the step leads to a depth of this kind
pub record Leads (Fit : ℕ → Type 0) (taken given before : ℕ) : Type 0 where
  pub depth : ℕ
  pub fit : Fit depth
  pub changes : Changes taken given before depth

-- the steps that control may take from a depth: to the next instruction, or to the target, where the depth is a fitting one
abbrev pub Steps : Flow → (taken given gone before : ℕ) → (Next Goes : ℕ → Type 0) → Type 0
Steps FallThrough taken given gone before Next Goes = Leads Next taken given before
Steps Jump taken given gone before Next Goes = Leads Goes taken gone before
Steps Branch taken given gone before Next Goes = Leads Next taken given before × Leads Goes taken gone before
Steps Terminates taken given gone before Next Goes = taken ≤ before

-- what an opcode takes and gives, beside this number as its operand
abbrev pub takes : Op → ℕ → ℕ
takes op n = amount (row_of op).pops n

abbrev pub gives : Op → ℕ → ℕ
gives op n = amount (row_of op).pushes n

abbrev pub OpSteps : Op → ℕ → ℕ → (Next Goes : ℕ → Type 0) → Type 0
OpSteps op n before Next Goes = Steps (flow_of op) (takes op n) (gives op n) (given_away_by op (gives op n)) before Next Goes

-- ---- offsets

-- an offset at which one of the instructions of these widths begins, or their end
abbrev pub IsStart : List ℕ → ℕ → Type 0
IsStart [] at = at ≡ 0
IsStart (w ∷ ws) at = (at ≡ 0) ⊎ ((rest : ℕ) × (at ≡ w + rest) × IsStart ws rest)

abbrev pub total : List ℕ → ℕ
total [] = 0
total (w ∷ ws) = w + total ws

abbrev pub widths : Code → List ℕ
widths code = map (λ (p : Piece Command). width_by command_width p) code

-- a distance, which is one back where it is a number of bytes below 2^64, leads there
abbrev pub Goes : ℕ → ℕ → ℕ → Type 0
Goes at distance target = (at + distance ≡ target) ⊎ ((back : ℕ) × (distance ≡ 2 ^ 64 - back) × (at ≡ target + back))

-- a jump of this distance leads to a start with this depth
pub record Lands (ws : List ℕ) (depth_at : ℕ → ℕ) (at distance depth : ℕ) : Type 0 where
  pub target : ℕ
  pub goes : Goes at distance target
  pub start : IsStart ws target
  pub is : depth_at target ≡ depth

abbrev pub OperandLands : List ℕ → (ℕ → ℕ) → ℕ → Operand → ℕ → Type 0
OperandLands ws depth_at at (Distance distance) depth = Lands ws depth_at at distance depth
OperandLands ws depth_at at _ depth = ⊥

-- ---- pieces

-- the depths at which jumps may wait for their aims
abbrev pub Exits : Type 0
Exits = Aim → Option ℕ

abbrev pub with_exit : Aim → ℕ → Exits → Exits
with_exit aim depth exits other = if same_aim aim other then Some depth else exits other

abbrev pub no_exits : Exits
no_exits aim = None

-- what a Try guards ends at a start, with the depth that a throw leaves
pub record Guards (ws : List ℕ) (depth_at : ℕ → ℕ) (at guarded depth : ℕ) : Type 0 where
  pub further : depth_at (at + 1) ≡ depth_at at
  pub end : IsStart ws (at + 1 + guarded)
  pub is : depth_at (at + 1 + guarded) ≡ depth

-- a piece at an offset, among pieces of these widths with these depths
abbrev pub PieceRuns : Exits → List ℕ → (ℕ → ℕ) → ℕ → Piece Command → Type 0
PieceRuns exits ws depth_at at (Whole c) = OpSteps c.op (number_in c.operand) (depth_at at)
    (λ depth. depth_at (at + width_of c.op) ≡ depth) (λ depth. OperandLands ws depth_at at c.operand depth)
PieceRuns exits ws depth_at at (Waiting op aim) = OpSteps op 0 (depth_at at) (λ depth. depth_at (at + width_of op) ≡ depth)
    (λ depth. exits aim ≡ Some depth)
PieceRuns exits ws depth_at at (Trying guarded depth) = Guards ws depth_at at guarded depth

abbrev pub PiecesRun : Exits → List ℕ → (ℕ → ℕ) → ℕ → Code → Type 0
PiecesRun exits ws depth_at at [] = Unit {0}
PiecesRun exits ws depth_at at (p ∷ ps) = PieceRuns exits ws depth_at at p × PiecesRun exits ws depth_at (at + width_by command_width p) ps

-- The code has depths, from the first depth at its beginning to the last one at its end, that fit each step; a jump that
-- waits for an aim does so at the depth of that exit.
pub record Runs (exits : Exits) (code : Code) (first last : ℕ) : Type 0 where
  pub depth_at : ℕ → ℕ
  pub begins : depth_at 0 ≡ first
  pub ends : depth_at (size code) ≡ last
  pub pieces : PiecesRun exits (widths code) depth_at 0 code

-- ---- commands one after another, without jumps

-- n values less, where there are m
abbrev pub lowered : ℕ → ℕ → Option ℕ
lowered zero depth = Some depth
lowered (suc n) zero = None
lowered (suc n) (suc depth) = lowered n depth

-- n values more
abbrev pub raised : ℕ → ℕ → ℕ
raised zero depth = depth
raised (suc n) depth = suc (raised n depth)

abbrev pub raised_option : ℕ → Option ℕ → Option ℕ
raised_option n None = None
raised_option n (Some depth) = Some (raised n depth)

abbrev pub counted_after : Count → Count → ℕ → Option ℕ
counted_after (count.Fixed taken) (count.Fixed given) depth = raised_option given (lowered taken depth)
counted_after _ _ depth = None

abbrev pub flow_after : Flow → Op → ℕ → Option ℕ
flow_after FallThrough op depth = counted_after (row_of op).pops (row_of op).pushes depth
flow_after Jump op depth = None
flow_after Branch op depth = None
flow_after Terminates op depth = None

-- the depth after an instruction that always goes to the next one, where its counts need no operand
abbrev pub depth_after : Op → ℕ → Option ℕ
depth_after op depth = flow_after (flow_of op) op depth

abbrev pub all_after : List Command → Option ℕ → Option ℕ
all_after [] depth = depth
all_after (c ∷ cs) None = None
all_after (c ∷ cs) (Some depth) = all_after cs (depth_after c.op depth)

-- the depth after such commands
abbrev pub depth_behind : List Command → ℕ → Option ℕ
depth_behind commands depth = all_after commands (Some depth)
