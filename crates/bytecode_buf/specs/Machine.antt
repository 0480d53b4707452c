-- How code runs as far as offsets and stack depths go, and tables of depths. This project's own choice.
use Rattle.std.specs.Prelude.{◌≡◌, ℕ, ◌+◌, ◌-◌, ◌^◌, ◌%◌, nat_le, nat_lt, nat_eq, if◌then◌else◌, Bool, true, false, ◌&&◌, List, [], ◌∷◌}
use Rattle.std.specs.Prelude.{◌++◌, Option, Some, None, All, Contains}
use Rattle.stencil_data.specs.declared.stencils.TryNote.{TryNote}
use Rattle.bytecode_buf.specs.declared.opcode.Op.{Op}
use Rattle.bytecode_buf.specs.declared.opcode.Op.TheVariants as op
use Rattle.bytecode_buf.specs.declared.opcode.Count.{Count}
use Rattle.bytecode_buf.specs.declared.opcode.Count.TheVariants as count
use Rattle.bytecode_buf.specs.Table.{row_of}
use Rattle.bytecode_buf.specs.Width.{width_of}
use Rattle.bytecode_buf.specs.Layout.{Numbered, instructions}

-- how many values a count is, by the instruction's operand
abbrev pub amount : Count → ℕ → ℕ
amount (count.Fixed n) operand = n
amount (count.More n) operand = operand + n

-- the values that an instruction takes, and those that it gives
abbrev pub taken : Numbered → ℕ
taken i = amount (row_of i.op).pops i.a

abbrev pub given : Numbered → ℕ
given i = amount (row_of i.op).pushes i.a

-- where control goes from an instruction
pub data Flow : Type 0 where
  -- to the next instruction alone
  FallThrough : Flow
  -- to its target alone
  Jump : Flow
  -- to either
  Branch : Flow
  -- nowhere
  Terminates : Flow

-- Each opcode has a line of its own: a new one does not go on to the next instruction by default.
abbrev pub flow_of : Op → Flow
flow_of op.Undefined = FallThrough
flow_of op.Null = FallThrough
flow_of op.False = FallThrough
flow_of op.True = FallThrough
flow_of op.Zero = FallThrough
flow_of op.One = FallThrough
flow_of op.Hole = FallThrough
flow_of op.Uninitialized = FallThrough
flow_of op.Callee = FallThrough
flow_of op.FunctionThis = FallThrough
flow_of op.GlobalThis = FallThrough
flow_of op.Arguments = FallThrough
flow_of op.IsConstructing = FallThrough
flow_of op.NewInit = FallThrough
flow_of op.Exception = FallThrough
flow_of op.Int8 = FallThrough
flow_of op.Uint16 = FallThrough
flow_of op.Uint24 = FallThrough
flow_of op.Int32 = FallThrough
flow_of op.Double = FallThrough
flow_of op.String = FallThrough
flow_of op.Pos = FallThrough
flow_of op.Neg = FallThrough
flow_of op.BitNot = FallThrough
flow_of op.Not = FallThrough
flow_of op.Typeof = FallThrough
flow_of op.TypeofExpr = FallThrough
flow_of op.Void = FallThrough
flow_of op.Inc = FallThrough
flow_of op.Dec = FallThrough
flow_of op.ToNumeric = FallThrough
flow_of op.ToPropertyKey = FallThrough
flow_of op.ToString = FallThrough
flow_of op.Add = FallThrough
flow_of op.Sub = FallThrough
flow_of op.Mul = FallThrough
flow_of op.Div = FallThrough
flow_of op.Mod = FallThrough
flow_of op.Pow = FallThrough
flow_of op.BitOr = FallThrough
flow_of op.BitXor = FallThrough
flow_of op.BitAnd = FallThrough
flow_of op.Lsh = FallThrough
flow_of op.Rsh = FallThrough
flow_of op.Ursh = FallThrough
flow_of op.Eq = FallThrough
flow_of op.Ne = FallThrough
flow_of op.StrictEq = FallThrough
flow_of op.StrictNe = FallThrough
flow_of op.Lt = FallThrough
flow_of op.Le = FallThrough
flow_of op.Gt = FallThrough
flow_of op.Ge = FallThrough
flow_of op.In = FallThrough
flow_of op.Instanceof = FallThrough
flow_of op.GetElem = FallThrough
flow_of op.StrictDelElem = FallThrough
flow_of op.GetGName = FallThrough
flow_of op.BindGName = FallThrough
flow_of op.StrictSetGName = FallThrough
flow_of op.InitGLexical = FallThrough
flow_of op.ThrowSetConst = FallThrough
flow_of op.GetArg = FallThrough
flow_of op.SetArg = FallThrough
flow_of op.GetLocal = FallThrough
flow_of op.SetLocal = FallThrough
flow_of op.InitLexical = FallThrough
flow_of op.CheckLexical = FallThrough
flow_of op.GetAliasedVar = FallThrough
flow_of op.SetAliasedVar = FallThrough
flow_of op.InitAliasedLexical = FallThrough
flow_of op.CheckAliasedLexical = FallThrough
flow_of op.NewArray = FallThrough
flow_of op.InitElemArray = FallThrough
flow_of op.InitProp = FallThrough
flow_of op.InitPropGetter = FallThrough
flow_of op.InitPropSetter = FallThrough
flow_of op.InitElem = FallThrough
flow_of op.InitElemGetter = FallThrough
flow_of op.InitElemSetter = FallThrough
flow_of op.MutateProto = FallThrough
flow_of op.GetProp = FallThrough
flow_of op.StrictSetProp = FallThrough
flow_of op.StrictDelProp = FallThrough
flow_of op.StrictSetElem = FallThrough
flow_of op.Call = FallThrough
flow_of op.New = FallThrough
flow_of op.Lambda = FallThrough
flow_of op.JumpTarget = FallThrough
flow_of op.LoopHead = FallThrough
flow_of op.Goto = Jump
flow_of op.JumpIfFalse = Branch
flow_of op.JumpIfTrue = Branch
flow_of op.And = Branch
flow_of op.Or = Branch
flow_of op.Coalesce = Branch
flow_of op.Case = Branch
flow_of op.Default = Jump
flow_of op.Return = Terminates
flow_of op.SetRval = FallThrough
flow_of op.RetRval = Terminates
flow_of op.Throw = Terminates
flow_of op.Try = FallThrough
flow_of op.Iter = FallThrough
flow_of op.MoreIter = FallThrough
flow_of op.IsNoIter = FallThrough
flow_of op.EndIter = FallThrough
flow_of op.Debugger = FallThrough
flow_of op.PushLexicalEnv = FallThrough
flow_of op.PopLexicalEnv = FallThrough
flow_of op.FreshenLexicalEnv = FallThrough
flow_of op.GlobalOrEvalDeclInstantiation = FallThrough
flow_of op.Pop = FallThrough
flow_of op.Dup = FallThrough
flow_of op.Dup2 = FallThrough
flow_of op.Swap = FallThrough
flow_of op.Pick = FallThrough
flow_of op.Unpick = FallThrough
flow_of op.Rest = FallThrough
flow_of op.PushVarEnv = FallThrough

-- the values that an instruction gives where it goes to its target: a Case gives none there
abbrev pub given_away_by : Op → ℕ → ℕ
given_away_by op.Case pushed = 0
given_away_by _ pushed = pushed

abbrev pub given_away : Numbered → ℕ
given_away i = given_away_by i.op (given i)

-- an offset, and the number of values on the stack
pub record State : Type 0 where
  pub at : ℕ
  pub depth : ℕ

abbrev pub first_state : State
first_state = record { at = 0; depth = 0 }

-- the instruction at an offset of the list that starts at 0
abbrev pub instruction_in : List Numbered → ℕ → Option Numbered
instruction_in [] at = None
instruction_in (i ∷ is) at = if nat_eq at 0 then Some i else (if nat_le (width_of i.op) at then instruction_in is (at - width_of i.op) else None)

abbrev pub instruction_at : List ℕ → ℕ → Option Numbered
instruction_at code at = instruction_in (instructions code) at

-- the next instruction, and the jump's target, after the instruction at a state
abbrev pub behind : Numbered → State → State
behind i s = record { at = s.at + width_of i.op; depth = s.depth - taken i + given i }

abbrev pub away : Numbered → State → State
away i s = record { at = (s.at + i.a) % 2 ^ 64; depth = s.depth - taken i + given_away i }

abbrev pub flows : Flow → Numbered → State → List State
flows FallThrough i s = behind i s ∷ []
flows Jump i s = away i s ∷ []
flows Branch i s = behind i s ∷ away i s ∷ []
flows Terminates i s = []

-- the states to which a throw at a state may go: a note's end, where the note is around it and the stack is as deep
abbrev pub is_caught_by : State → TryNote → Bool
is_caught_by s note = nat_le note.start s.at && nat_lt s.at note.end && nat_le note.depth s.depth

abbrev pub caught : List TryNote → State → List State
caught [] s = []
caught (note ∷ notes) s = if is_caught_by s note then record { at = note.end; depth = note.depth } ∷ caught notes s else caught notes s

-- the states to which a step may lead
abbrev pub steps_by : Option Numbered → List TryNote → State → List State
steps_by None notes s = []
steps_by (Some i) notes s = flows (flow_of i.op) i s ++ caught notes s

abbrev pub steps : List ℕ → List TryNote → State → List State
steps code notes s = steps_by (instruction_at code s.at) notes s

-- the offset is that of no instruction, or the instruction takes more than there is
abbrev pub stuck_by : Option Numbered → ℕ → Bool
stuck_by None depth = true
stuck_by (Some i) depth = nat_lt depth (taken i)

abbrev pub is_stuck : List ℕ → State → Bool
is_stuck code s = stuck_by (instruction_at code s.at) s.depth

-- some number of steps leads from the first state to this one
pub data Reaches (code : List ℕ) (notes : List TryNote) : State → Type 0 where
  start : Reaches code notes first_state
  further : (s t : State) → Reaches code notes s → Contains (steps code notes s) t → Reaches code notes t

-- A table gives some offsets one depth each: it has the first state, none of its states is stuck, and each step from
-- one of them leads to one of them.
pub record IsDepthTable (code : List ℕ) (notes : List TryNote) (table : ℕ → Option ℕ) : Type 0 where
  pub first : table 0 ≡ Some 0
  pub free : (s : State) → table s.at ≡ Some s.depth → is_stuck code s ≡ false
  pub closed : (s : State) → table s.at ≡ Some s.depth → All (λ t. table t.at ≡ Some t.depth) (steps code notes s)

abbrev pub HasDepthTable : List ℕ → List TryNote → Type 0
HasDepthTable code notes = (table : ℕ → Option ℕ) × IsDepthTable code notes table

-- the least table has only states that are reached
pub record IsLeastTable (code : List ℕ) (notes : List TryNote) (table : ℕ → Option ℕ) : Type 0 where
  pub is : IsDepthTable code notes table
  pub reached : (s : State) → table s.at ≡ Some s.depth → Reaches code notes s
