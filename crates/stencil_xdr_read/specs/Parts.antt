-- The bytes of the parts of an image where an atom is the number that stands there: this project's own choice.
use Rattle.std.specs.Prelude.{ℕ, List, [], ◌∷◌, ◌++◌, length, Option, Some, None}
use Rattle.stencil_data.specs.declared.functions.Extent.{Extent}
use Rattle.stencil_data.specs.declared.functions.FuncKind.{FuncKind}
use Rattle.stencil_data.specs.declared.records.ClosedName.{ClosedName}
use Rattle.stencil_data.specs.declared.scopes.Binding.{Binding}
use Rattle.stencil_data.specs.declared.scopes.BindKind.{BindKind}
use Rattle.stencil_data.specs.declared.scopes.ScopeKind.{ScopeKind}
use Rattle.stencil_data.specs.declared.scopes.Slot.{Slot}
use Rattle.stencil_data.specs.declared.scopes.Slot.TheVariants as slot
use Rattle.stencil_data.specs.declared.stencils.Entry.{Entry}
use Rattle.stencil_data.specs.declared.stencils.Entry.TheVariants as entry
use Rattle.stencil_data.specs.declared.stencils.TryNote.{TryNote}
use Rattle.stencil_data.specs.Views.{ScopeView, RecordView, FunctionView}
use Rattle.stencil_xdr_specs.specs.Image.{function_kind, scope_kind, bind_kind}
use Rattle.stencil_xdr_read.specs.Reading.{number, byte, Fits, pair_bytes, FitPair, maybe_bytes, FitMaybe, list_bytes, FitList}

abbrev pub FunctionKind : Type 0
FunctionKind = FuncKind

abbrev pub KindOfScope : Type 0
KindOfScope = ScopeKind

abbrev pub KindOfBinding : Type 0
KindOfBinding = BindKind

abbrev pub Always : {A : Type 0} → A → Type 0
Always x = Unit {0}

-- ---- texts and extents

abbrev pub text_bytes : List ℕ → List ℕ
text_bytes = list_bytes (number 2)

abbrev pub FitText : List ℕ → Type 0
FitText = FitList (Fits 2)

abbrev pub extent_parts : Extent → ℕ × ℕ
extent_parts e = (e.start, e.end)

abbrev pub extent_bytes : Extent → List ℕ
extent_bytes e = pair_bytes (number 4) (number 4) (extent_parts e)

abbrev pub FitExtent : Extent → Type 0
FitExtent e = FitPair (Fits 4) (Fits 4) (extent_parts e)

-- ---- kinds and slots

abbrev pub function_kind_bytes : FuncKind → List ℕ
function_kind_bytes kind = byte (function_kind kind)

abbrev pub scope_kind_bytes : ScopeKind → List ℕ
scope_kind_bytes kind = byte (scope_kind kind)

abbrev pub bind_kind_bytes : BindKind → List ℕ
bind_kind_bytes kind = byte (bind_kind kind)

abbrev pub slot_bytes : Slot → List ℕ
slot_bytes slot.Global = 0 ∷ []
slot_bytes (slot.Arg i) = 1 ∷ number 4 i
slot_bytes (slot.Frame i) = 2 ∷ number 4 i
slot_bytes (slot.Env i) = 3 ∷ number 4 i
slot_bytes slot.Callee = 4 ∷ []

abbrev pub FitSlot : Slot → Type 0
FitSlot slot.Global = Unit {0}
FitSlot (slot.Arg i) = Fits 4 i
FitSlot (slot.Frame i) = Fits 4 i
FitSlot (slot.Env i) = Fits 4 i
FitSlot slot.Callee = Unit {0}

-- ---- bindings and scopes

abbrev pub binding_parts : Binding → ℕ × (BindKind × Slot)
binding_parts b = (b.atom, (b.kind, b.slot))

abbrev pub binding_bytes : Binding → List ℕ
binding_bytes b = pair_bytes (number 4) (pair_bytes bind_kind_bytes slot_bytes) (binding_parts b)

abbrev pub FitBinding : Binding → Type 0
FitBinding b = FitPair (Fits 4) (FitPair Always FitSlot) (binding_parts b)

abbrev pub scope_parts : ScopeView → ScopeKind × (Option ℕ × (List Binding × ℕ))
scope_parts s = (s.kind, (s.parent, (s.bindings, s.env_slots)))

abbrev pub scope_bytes : ScopeView → List ℕ
scope_bytes s = pair_bytes scope_kind_bytes (pair_bytes (maybe_bytes (number 4)) (pair_bytes (list_bytes binding_bytes) (number 4))) (scope_parts s)

abbrev pub FitScope : ScopeView → Type 0
FitScope s = FitPair Always (FitPair (FitMaybe (Fits 4)) (FitPair (FitList FitBinding) (Fits 4))) (scope_parts s)

-- ---- notes and codes

abbrev pub note_parts : TryNote → ℕ × (ℕ × ℕ)
note_parts n = (n.start, (n.end, n.depth))

abbrev pub note_bytes : TryNote → List ℕ
note_bytes n = pair_bytes (number 8) (pair_bytes (number 8) (number 4)) (note_parts n)

abbrev pub FitNote : TryNote → Type 0
FitNote n = FitPair (Fits 8) (FitPair (Fits 8) (Fits 4)) (note_parts n)

abbrev pub code_bytes : List ℕ → List ℕ
code_bytes code = number 8 (length code) ++ code

abbrev pub FitCode : List ℕ → Type 0
FitCode code = Fits 8 (length code)

-- ---- functions, records and entries

abbrev pub FunctionParts : Type 0
FunctionParts = (Extent × (FuncKind × (Option ℕ × ℕ))) × (List ScopeView × (List ℕ × (List TryNote × List Extent)))

abbrev pub function_parts : FunctionView → FunctionParts
function_parts f = ((f.extent, (f.kind, (f.name, f.params))), (f.scopes, (f.code, (f.notes, f.inner))))

abbrev pub function_parts_bytes : FunctionParts → List ℕ
function_parts_bytes =
    pair_bytes (pair_bytes extent_bytes (pair_bytes function_kind_bytes (pair_bytes (maybe_bytes (number 4)) (number 4))))
    (pair_bytes (list_bytes scope_bytes) (pair_bytes code_bytes (pair_bytes (list_bytes note_bytes) (list_bytes extent_bytes))))

abbrev pub FitFunctionParts : FunctionParts → Type 0
FitFunctionParts =
    FitPair (FitPair FitExtent (FitPair Always (FitPair (FitMaybe (Fits 4)) (Fits 4))))
    (FitPair (FitList FitScope) (FitPair FitCode (FitPair (FitList FitNote) (FitList FitExtent))))

abbrev pub function_bytes : FunctionView → List ℕ
function_bytes f = function_parts_bytes (function_parts f)

abbrev pub FitFunction : FunctionView → Type 0
FitFunction f = FitFunctionParts (function_parts f)

abbrev pub closed_parts : ClosedName → ℕ × ℕ
closed_parts c = (c.scope, c.atom)

abbrev pub closed_bytes : ClosedName → List ℕ
closed_bytes c = pair_bytes (number 4) (number 4) (closed_parts c)

abbrev pub FitClosed : ClosedName → Type 0
FitClosed c = FitPair (Fits 4) (Fits 4) (closed_parts c)

abbrev pub RecordParts : Type 0
RecordParts = (Extent × (FuncKind × Option ℕ)) × (List ℕ × List ClosedName)

abbrev pub record_parts : RecordView → RecordParts
record_parts r = ((r.extent, (r.kind, r.name)), (r.inner, r.closed))

abbrev pub record_parts_bytes : RecordParts → List ℕ
record_parts_bytes =
    pair_bytes (pair_bytes extent_bytes (pair_bytes function_kind_bytes (maybe_bytes (number 4))))
    (pair_bytes (list_bytes (number 4)) (list_bytes closed_bytes))

abbrev pub FitRecordParts : RecordParts → Type 0
FitRecordParts =
    FitPair (FitPair FitExtent (FitPair Always (FitMaybe (Fits 4))))
    (FitPair (FitList (Fits 4)) (FitList FitClosed))

abbrev pub record_bytes : RecordView → List ℕ
record_bytes r = record_parts_bytes (record_parts r)

abbrev pub FitRecord : RecordView → Type 0
FitRecord r = FitRecordParts (record_parts r)

abbrev pub entry_part : Entry → Option FunctionView
entry_part entry.Lazy = None
entry_part (entry.Compiled f) = Some f

abbrev pub entry_bytes : Entry → List ℕ
entry_bytes e = maybe_bytes function_bytes (entry_part e)

abbrev pub FitEntry : Entry → Type 0
FitEntry e = FitMaybe FitFunction (entry_part e)
