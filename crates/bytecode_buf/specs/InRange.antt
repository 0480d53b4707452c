-- Merged stencils whose numbers are in range. This project's own choice.
use Rattle.std.specs.Prelude.{◌≡◌, ℕ, ◌+◌, ◌-◌, ◌^◌, ◌%◌, ◌<◌, ◌≤◌, IfSome, List, [], ◌∷◌, length, map, slice_get, Option, Some, None}
use Rattle.stencil_data.specs.declared.functions.Extent.{Extent}
use Rattle.stencil_data.specs.declared.functions.FuncKind.TheVariants as func
use Rattle.stencil_data.specs.declared.stencils.Entry.{Entry}
use Rattle.stencil_data.specs.declared.stencils.Entry.TheVariants as entry
use Rattle.stencil_data.specs.Views.{ScopeView, RecordView, FunctionView}
use Rattle.stencil_data.specs.MergedView.{MergedView}
use Rattle.stencil_data.specs.StandsFor.{ScopesWithin, RecordsWithin, NameWithin}
use Rattle.bytecode_buf.specs.declared.opcode.Op.{Op}
use Rattle.bytecode_buf.specs.declared.opcode.Op.TheVariants as op
use Rattle.bytecode_buf.specs.declared.opcode.Shape.{Shape}
use Rattle.bytecode_buf.specs.declared.opcode.Shape.TheVariants as shape
use Rattle.bytecode_buf.specs.Width.{shape_of, width_of}
use Rattle.bytecode_buf.specs.Layout.{Numbered, instructions, IsWhole}

-- a count fits 32 bits
abbrev pub Small : ℕ → Type 0
Small n = n < 2 ^ 32

-- ---- code

abbrev pub AtomWithin : Shape → ℕ → ℕ → Type 0
AtomWithin shape.Atom atom texts = atom < texts
AtomWithin _ a texts = Unit {0}

abbrev pub LambdaWithin : Op → ℕ → ℕ → Type 0
LambdaWithin op.Lambda number functions = (1 ≤ number) × (number ≤ functions)
LambdaWithin _ a functions = Unit {0}

-- the jump at an offset goes to an offset from 0 to the code's length
abbrev pub JumpWithin : Shape → ℕ → ℕ → ℕ → Type 0
JumpWithin shape.Jump at distance size = (at + distance) % 2 ^ 64 ≤ size
JumpWithin _ at a size = Unit {0}

abbrev pub InstructionWithin : ℕ → ℕ → ℕ → ℕ → Numbered → Type 0
InstructionWithin texts functions size at i =
    AtomWithin (shape_of i.op) i.a texts × LambdaWithin i.op i.a functions × JumpWithin (shape_of i.op) at i.a size

abbrev pub InstructionsWithin : ℕ → ℕ → ℕ → ℕ → List Numbered → Type 0
InstructionsWithin texts functions size at [] = Unit {0}
InstructionsWithin texts functions size at (i ∷ is) =
    InstructionWithin texts functions size at i × InstructionsWithin texts functions size (at + width_of i.op) is

-- whole instructions, whose atoms are below the count of texts, whose functions are from 1 to their count, and whose
-- jumps stay within the code
pub record CodeInRange (texts functions : ℕ) (code : List ℕ) : Type 0 where
  pub whole : IsWhole code
  pub operands : InstructionsWithin texts functions (length code) 0 (instructions code)

-- ---- parts

abbrev pub TextsSmall : List (List ℕ) → Type 0
TextsSmall [] = Unit {0}
TextsSmall (text ∷ texts) = Small (length text) × TextsSmall texts

-- each scope's parent is below its own number, and its counts are small
abbrev pub ScopesInRange : ℕ → List ScopeView → Type 0
ScopesInRange number [] = Unit {0}
ScopesInRange number (scope ∷ scopes) =
    IfSome scope.parent (λ parent. parent < number) × Small (length scope.bindings) × Small scope.env_slots × ScopesInRange (number + 1) scopes

-- a compiled function among n texts and functions
pub record FunctionInRange (texts functions : ℕ) (part : FunctionView) : Type 0 where
  pub name : NameWithin texts part.name
  pub params : Small part.params
  pub scopes_small : Small (length part.scopes)
  pub scopes : ScopesInRange 0 part.scopes
  pub bindings : ScopesWithin texts part.scopes
  pub notes_small : Small (length part.notes)
  pub inner_small : Small (length part.inner)
  pub code : CodeInRange texts functions part.code

abbrev pub NumbersWithin : ℕ → List ℕ → Type 0
NumbersWithin functions [] = Unit {0}
NumbersWithin functions (n ∷ ns) = (1 ≤ n) × (n ≤ functions) × NumbersWithin functions ns

abbrev pub RecordsInRange : ℕ → List RecordView → Type 0
RecordsInRange functions [] = Unit {0}
RecordsInRange functions (lazy ∷ records) =
    Small (length lazy.inner) × Small (length lazy.closed) × NumbersWithin functions lazy.inner × RecordsInRange functions records

abbrev pub extent_or : Option RecordView → Extent
extent_or None = record { start = 0; end = 0 }
extent_or (Some lazy) = lazy.extent

-- the extent of the function with this number
abbrev pub extent_of : List RecordView → ℕ → Extent
extent_of records number = extent_or (slice_get records (number - 1))

-- a compiled entry agrees with its record
pub record EntryAgrees (texts functions : ℕ) (records : List RecordView) (lazy : RecordView) (part : FunctionView) : Type 0 where
  pub range : FunctionInRange texts functions part
  pub extent : part.extent ≡ lazy.extent
  pub kind : part.kind ≡ lazy.kind
  pub name : part.name ≡ lazy.name
  pub inner : part.inner ≡ map (extent_of records) lazy.inner

abbrev pub EntryInRange : ℕ → ℕ → List RecordView → RecordView → Entry → Type 0
EntryInRange texts functions records lazy entry.Lazy = Unit {0}
EntryInRange texts functions records lazy (entry.Compiled part) = EntryAgrees texts functions records lazy part

-- as many entries as records, each in range
abbrev pub EntriesInRange : ℕ → ℕ → List RecordView → List RecordView → List Entry → Type 0
EntriesInRange texts functions all [] [] = Unit {0}
EntriesInRange texts functions all [] (e ∷ entries) = ⊥
EntriesInRange texts functions all (lazy ∷ records) [] = ⊥
EntriesInRange texts functions all (lazy ∷ records) (e ∷ entries) =
    EntryInRange texts functions all lazy e × EntriesInRange texts functions all records entries

-- the top is a declaration without a name or parameters, from offset 0 on
pub record TopInRange (texts functions : ℕ) (top : FunctionView) : Type 0 where
  pub range : FunctionInRange texts functions top
  pub kind : top.kind ≡ func.Declared
  pub name : top.name ≡ None
  pub params : top.params ≡ 0
  pub start : top.extent.start ≡ 0

-- a merged stencil in range
pub record InRange (merged : MergedView) : Type 0 where
  pub texts_small : Small (length merged.texts)
  pub units_small : TextsSmall merged.texts
  pub records_small : Small (length merged.records)
  pub atoms : RecordsWithin (length merged.texts) merged.records
  pub records : RecordsInRange (length merged.records) merged.records
  pub top : TopInRange (length merged.texts) (length merged.records) merged.top
  pub entries : EntriesInRange (length merged.texts) (length merged.records) merged.records merged.records merged.entries
