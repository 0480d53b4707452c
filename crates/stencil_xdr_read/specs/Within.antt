-- What is left of being in range where atoms are left out, and counts and widths fit already.
use Rattle.std.specs.Prelude.{◌≡◌, ℕ, ◌+◌, ◌<◌, ◌≤◌, List, [], ◌∷◌, length, map, Option, Some, None, IfSome, slice_get, slice_index}
use Rattle.std.specs.Int.{cast_unsigned, w64}
use Rattle.stencil_data.specs.declared.functions.Extent.{Extent}
use Rattle.stencil_data.specs.declared.functions.FuncKind.TheVariants as func
use Rattle.stencil_data.specs.declared.stencils.Entry.{Entry}
use Rattle.stencil_data.specs.declared.stencils.Entry.TheVariants as entry
use Rattle.stencil_data.specs.MergedView.{MergedView}
use Rattle.stencil_data.specs.Views.{ScopeView, RecordView, FunctionView}
use Rattle.bytecode_buf.specs.declared.instruction.Instr.{Instr}
use Rattle.bytecode_buf.specs.InRange.{LambdaWithin, JumpWithin, extent_of}
use Rattle.bytecode_buf.specs.Layout.{Numbered, instructions, IsWhole}
use Rattle.bytecode_buf.specs.Width.{shape_of, width_of}

-- each item at its place, from a place on
abbrev pub EachFrom : {A : Type 0} → (ℕ → A → Type 0) → ℕ → List A → Type 0
EachFrom Holds at [] = Unit {0}
EachFrom Holds at (x ∷ xs) = Holds at x × EachFrom Holds (at + 1) xs

-- ---- records

abbrev pub IsNumber : ℕ → ℕ → Type 0
IsNumber functions n = (1 ≤ n) × (n ≤ functions)

abbrev pub AreNumbers : ℕ → List ℕ → Type 0
AreNumbers functions ns = EachFrom (λ at n. IsNumber functions n) 0 ns

abbrev pub HaveNumbers : ℕ → List RecordView → Type 0
HaveNumbers functions records = EachFrom (λ at (lazy : RecordView). AreNumbers functions lazy.inner) 0 records

-- ---- functions

abbrev pub ParentBelow : ℕ → ScopeView → Type 0
ParentBelow number scope = IfSome scope.parent (λ parent. parent < number)

abbrev pub AreParentsBelow : List ScopeView → Type 0
AreParentsBelow scopes = EachFrom ParentBelow 0 scopes

-- an instruction at an offset
abbrev pub TargetWithin : ℕ → ℕ → ℕ → Numbered → Type 0
TargetWithin functions size at i = LambdaWithin i.op i.a functions × JumpWithin (shape_of i.op) at i.a size

abbrev pub TargetsWithin : ℕ → ℕ → ℕ → List Numbered → Type 0
TargetsWithin functions size at [] = Unit {0}
TargetsWithin functions size at (i ∷ is) = TargetWithin functions size at i × TargetsWithin functions size (at + width_of i.op) is

-- the same, of an instruction as it is read
abbrev pub ReadWithin : ℕ → ℕ → ℕ → Instr → Type 0
ReadWithin functions size at instr = LambdaWithin instr.op instr.a functions × JumpWithin (shape_of instr.op) at (cast_unsigned w64 instr.to) size

abbrev pub CodeWithin : ℕ → List ℕ → Type 0
CodeWithin functions code = IsWhole code × TargetsWithin functions (length code) 0 (instructions code)

abbrev pub PartWithin : ℕ → FunctionView → Type 0
PartWithin functions part = AreParentsBelow part.scopes × CodeWithin functions part.code

-- ---- entries

abbrev pub AreExtentsOf : List RecordView → List ℕ → List Extent → Type 0
AreExtentsOf records numbers extents = EachFrom (λ at (extent : Extent). extent ≡ extent_of records (slice_index numbers at)) 0 extents

abbrev pub HasHeadOf : RecordView → FunctionView → Type 0
HasHeadOf lazy part = (part.extent ≡ lazy.extent) × (part.kind ≡ lazy.kind) × (part.name ≡ lazy.name)

abbrev pub IsPartOf : List RecordView → RecordView → FunctionView → Type 0
IsPartOf records lazy part = HasHeadOf lazy part × (part.inner ≡ map (extent_of records) lazy.inner) × PartWithin (length records) part

abbrev pub IsEntryOf : List RecordView → RecordView → Entry → Type 0
IsEntryOf records lazy entry.Lazy = Unit {0}
IsEntryOf records lazy (entry.Compiled part) = IsPartOf records lazy part

abbrev pub IsEntryOfSome : List RecordView → Option RecordView → Entry → Type 0
IsEntryOfSome records None e = ⊥
IsEntryOfSome records (Some lazy) e = IsEntryOf records lazy e

abbrev pub IsEntryAt : List RecordView → ℕ → Entry → Type 0
IsEntryAt records at e = IsEntryOfSome records (slice_get records at) e

abbrev pub AreEntries : List RecordView → List Entry → Type 0
AreEntries records entries = EachFrom (IsEntryAt records) 0 entries

-- ---- stencils

abbrev pub HasTopHead : FunctionView → Type 0
HasTopHead top = (top.kind ≡ func.Declared) × (top.name ≡ None) × (top.params ≡ 0) × (top.extent.start ≡ 0)

abbrev pub TopWithin : ℕ → FunctionView → Type 0
TopWithin functions top = HasTopHead top × PartWithin functions top

abbrev pub StencilWithin : MergedView → Type 0
StencilWithin m = HaveNumbers (length m.records) m.records × TopWithin (length m.records) m.top × AreEntries m.records m.entries
