-- The parts of a stencil in range that are sizes and numbers of things, said of the values that it stands for. This project's
-- own choice.
use Rattle.std.specs.Prelude.{◌≡◌, ℕ, ◌+◌, ◌-◌, ◌^◌, ◌%◌, ◌<◌, ◌≤◌, IfSome, List, [], ◌∷◌, length, map, slice_get, Option, Some, None}
use Rattle.stencil_data.specs.declared.functions.Extent.{Extent}
use Rattle.stencil_data.specs.declared.functions.FuncKind.TheVariants as func
use Rattle.stencil_data.specs.Named.{NamedScope, NamedFunction, NamedRecord, NamedMerged}
use Rattle.bytecode_buf.specs.declared.opcode.Op.{Op}
use Rattle.bytecode_buf.specs.declared.opcode.Op.TheVariants as op
use Rattle.bytecode_buf.specs.Command.{Command, Operand, Nothing, Number, Text, Aliased, Distance, Target}
use Rattle.bytecode_buf.specs.InRange.{Small, NumbersWithin}
use Rattle.bytecode_buf.specs.Width.{width_of}

-- each scope's parent is below its own number, and its counts are small
abbrev pub ScopesSmall : ℕ → List NamedScope → Type 0
ScopesSmall number [] = Unit {0}
ScopesSmall number (s ∷ ss) = IfSome s.parent (λ parent. parent < number) × Small (length s.bindings) × Small s.env_slots
    × ScopesSmall (number + 1) ss

-- an instruction that makes a function names it by a number, of which this holds
abbrev pub Makes : (ℕ → Type 0) → Op → Operand → Type 0
Makes Holds op.Lambda Nothing = ⊥
Makes Holds op.Lambda (Number n) = Holds n
Makes Holds op.Lambda (Text t) = ⊥
Makes Holds op.Lambda (Aliased hops slot) = ⊥
Makes Holds op.Lambda (Distance n) = ⊥
Makes Holds op.Lambda (Target n) = ⊥
Makes Holds _ operand = Unit {0}

abbrev pub AllMake : (ℕ → Type 0) → List Command → Type 0
AllMake Holds [] = Unit {0}
AllMake Holds (c ∷ cs) = Makes Holds c.op c.operand × AllMake Holds cs

-- a jump at an offset goes to an offset from 0 to this size
abbrev pub Lands : ℕ → ℕ → Operand → Type 0
Lands size at Nothing = Unit {0}
Lands size at (Number n) = Unit {0}
Lands size at (Text t) = Unit {0}
Lands size at (Aliased hops slot) = Unit {0}
Lands size at (Distance distance) = (at + distance) % 2 ^ 64 ≤ size
Lands size at (Target offset) = offset ≤ size

abbrev pub AllLand : ℕ → ℕ → List Command → Type 0
AllLand size at [] = Unit {0}
AllLand size at (c ∷ cs) = Lands size at c.operand × AllLand size (at + width_of c.op) cs

-- the bytes that commands take
abbrev pub code_size : List Command → ℕ
code_size [] = 0
code_size (c ∷ cs) = width_of c.op + code_size cs

-- a number from 1 to the count of the functions
abbrev pub IsNumber : ℕ → ℕ → Type 0
IsNumber functions n = (1 ≤ n) × (n ≤ functions)

-- a compiled function among n
pub record PartSmall (functions : ℕ) (part : NamedFunction (List Command)) : Type 0 where
  pub params : Small part.params
  pub few_scopes : Small (length part.scopes)
  pub scopes : ScopesSmall 0 part.scopes
  pub few_notes : Small (length part.notes)
  pub few_inner : Small (length part.inner)
  pub made : AllMake (IsNumber functions) part.code
  pub jumps : AllLand (code_size part.code) 0 part.code

abbrev pub RecordsSmall : ℕ → List NamedRecord → Type 0
RecordsSmall functions [] = Unit {0}
RecordsSmall functions (lazy ∷ records) = Small (length lazy.inner) × Small (length lazy.closed) × NumbersWithin functions lazy.inner
    × RecordsSmall functions records

abbrev pub extent_or : Option NamedRecord → Extent
extent_or None = record { start = 0; end = 0 }
extent_or (Some lazy) = lazy.extent

-- the extent of the function with this number
abbrev pub extent_of : List NamedRecord → ℕ → Extent
extent_of records number = extent_or (slice_get records (number - 1))

-- a compiled function agrees with its record
pub record PartAgrees (functions : ℕ) (records : List NamedRecord) (lazy : NamedRecord) (part : NamedFunction (List Command)) : Type 0 where
  pub small : PartSmall functions part
  pub extent : part.extent ≡ lazy.extent
  pub kind : part.kind ≡ lazy.kind
  pub name : part.name ≡ lazy.name
  pub inner : part.inner ≡ map (extent_of records) lazy.inner

abbrev pub EntryAgrees : ℕ → List NamedRecord → NamedRecord → Option (NamedFunction (List Command)) → Type 0
EntryAgrees functions records lazy None = Unit {0}
EntryAgrees functions records lazy (Some part) = PartAgrees functions records lazy part

-- as many entries as records, each with its own
abbrev pub EntriesAgree : ℕ → List NamedRecord → List NamedRecord → List (Option (NamedFunction (List Command))) → Type 0
EntriesAgree functions all [] [] = Unit {0}
EntriesAgree functions all [] (e ∷ entries) = ⊥
EntriesAgree functions all (lazy ∷ records) [] = ⊥
EntriesAgree functions all (lazy ∷ records) (e ∷ entries) = EntryAgrees functions all lazy e × EntriesAgree functions all records entries

-- the top is a declaration without a name or parameters, from offset 0 on
pub record TopSmall (functions : ℕ) (top : NamedFunction (List Command)) : Type 0 where
  pub small : PartSmall functions top
  pub kind : top.kind ≡ func.Declared
  pub name : top.name ≡ None
  pub params : top.params ≡ 0
  pub start : top.extent.start ≡ 0

pub record MergedSmall (merged : NamedMerged (List Command)) : Type 0 where
  pub few : Small (length merged.records)
  pub records : RecordsSmall (length merged.records) merged.records
  pub top : TopSmall (length merged.records) merged.top
  pub entries : EntriesAgree (length merged.records) merged.records merged.records merged.entries
