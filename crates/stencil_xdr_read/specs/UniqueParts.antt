-- The parts of an image are told apart by their bytes, whatever follows.
use Rattle.std.specs.Prelude.{◌≡◌, ℕ, zero, suc, List, ◌++◌, length, Option, Some, None}
use Rattle.std.proofs.Common.{refl, sym, ◌∙◌, ap, append_assoc, take, drop, take_at, drop_at}
use Rattle.stencil_data.specs.declared.functions.Extent.{Extent}
use Rattle.stencil_data.specs.declared.functions.FuncKind.{FuncKind}
use Rattle.stencil_data.specs.declared.functions.FuncKind.TheVariants as func
use Rattle.stencil_data.specs.declared.records.ClosedName.{ClosedName}
use Rattle.stencil_data.specs.declared.scopes.Binding.{Binding}
use Rattle.stencil_data.specs.declared.scopes.BindKind.{BindKind}
use Rattle.stencil_data.specs.declared.scopes.BindKind.TheVariants as bind
use Rattle.stencil_data.specs.declared.scopes.ScopeKind.{ScopeKind}
use Rattle.stencil_data.specs.declared.scopes.ScopeKind.TheVariants as scope
use Rattle.stencil_data.specs.declared.scopes.Slot.{Slot}
use Rattle.stencil_data.specs.declared.scopes.Slot.TheVariants as slot
use Rattle.stencil_data.specs.declared.stencils.Entry.{Entry}
use Rattle.stencil_data.specs.declared.stencils.Entry.TheVariants as entry
use Rattle.stencil_data.specs.declared.stencils.TryNote.{TryNote}
use Rattle.stencil_data.specs.Views.{ScopeView, RecordView, FunctionView}
use Rattle.stencil_xdr_specs.specs.Image.{function_kind, scope_kind, bind_kind}
use Rattle.stencil_xdr_read.specs.Reading.{AreUnique, number, byte, Fits, pair_bytes, FitPair, maybe_bytes, FitMaybe, list_bytes, FitList}
use Rattle.stencil_xdr_read.specs.Unique.{unique_numbers, unique_pairs, unique_maybes, unique_lists}
use Rattle.stencil_xdr_read.specs.Parts.{Always, text_bytes, FitText, extent_bytes, FitExtent, extent_parts, function_kind_bytes}
use Rattle.stencil_xdr_read.specs.Parts.{scope_kind_bytes, bind_kind_bytes, slot_bytes, FitSlot, binding_bytes, binding_parts, FitBinding}
use Rattle.stencil_xdr_read.specs.Parts.{scope_bytes, scope_parts, FitScope, note_bytes, note_parts, FitNote, code_bytes, FitCode}
use Rattle.stencil_xdr_read.specs.Parts.{FunctionParts, function_parts, function_parts_bytes, FitFunctionParts, function_bytes}
use Rattle.stencil_xdr_read.specs.Parts.{FitFunction, closed_bytes, closed_parts, FitClosed, RecordParts, record_parts, record_parts_bytes}
use Rattle.stencil_xdr_read.specs.Parts.{FitRecordParts, record_bytes, FitRecord, entry_part, entry_bytes, FitEntry}

-- what has the bytes of another part, from which it is made again
pub unique_mapped : {S T : Type 0} (p : T → List ℕ) (P : T → Type 0) (to : S → T) (from : T → S) → ((s : S) → from (to s) ≡ s)
    → AreUnique p P → AreUnique (λ s. p (to s)) (λ s. P (to s))
unique_mapped p P to from back u x y r s fx fy e =
    let h = u (to x) (to y) r s fx fy e in
    (sym (back x) ∙ (ap from h.0 ∙ back y), h.1)

pub unique_texts : AreUnique text_bytes FitText
unique_texts = unique_lists (number 2) (Fits 2) (unique_numbers 2)

abbrev extent_of_parts : ℕ × ℕ → Extent
extent_of_parts p = record { start = p.0; end = p.1 }

pub unique_extents : AreUnique extent_bytes FitExtent
unique_extents = unique_mapped (pair_bytes (number 4) (number 4)) (FitPair (Fits 4) (Fits 4)) extent_parts extent_of_parts (λ e. refl)
    (unique_pairs (number 4) (Fits 4) (number 4) (Fits 4) (unique_numbers 4) (unique_numbers 4))

-- ---- kinds

unique_kinds : {K : Type 0} (kind : K → ℕ) (of : ℕ → K) → ((k : K) → of (kind k) ≡ k) → AreUnique (λ k. byte (kind k)) Always
unique_kinds kind of back x y r s fx fy e = let h : kind x ≡ kind y = cc in (sym (back x) ∙ (ap of h ∙ back y), cc)

abbrev function_kind_of : ℕ → FuncKind
function_kind_of zero = func.Declared
function_kind_of (suc zero) = func.Expression
function_kind_of (suc (suc zero)) = func.Arrow
function_kind_of (suc (suc (suc zero))) = func.Method
function_kind_of (suc (suc (suc (suc zero)))) = func.Getter
function_kind_of _ = func.Setter

function_kind_back : (k : FuncKind) → function_kind_of (function_kind k) ≡ k
function_kind_back func.Declared = refl
function_kind_back func.Expression = refl
function_kind_back func.Arrow = refl
function_kind_back func.Method = refl
function_kind_back func.Getter = refl
function_kind_back func.Setter = refl

pub unique_function_kinds : AreUnique function_kind_bytes Always
unique_function_kinds = unique_kinds function_kind function_kind_of function_kind_back

abbrev scope_kind_of : ℕ → ScopeKind
scope_kind_of zero = scope.Global
scope_kind_of (suc zero) = scope.Function
scope_kind_of (suc (suc zero)) = scope.FunctionLexical
scope_kind_of (suc (suc (suc zero))) = scope.Lexical
scope_kind_of (suc (suc (suc (suc zero)))) = scope.SimpleCatch
scope_kind_of (suc (suc (suc (suc (suc zero))))) = scope.StrictNamedLambda
scope_kind_of _ = scope.FunctionBodyVar

scope_kind_back : (k : ScopeKind) → scope_kind_of (scope_kind k) ≡ k
scope_kind_back scope.Global = refl
scope_kind_back scope.Function = refl
scope_kind_back scope.FunctionLexical = refl
scope_kind_back scope.Lexical = refl
scope_kind_back scope.SimpleCatch = refl
scope_kind_back scope.StrictNamedLambda = refl
scope_kind_back scope.FunctionBodyVar = refl

pub unique_scope_kinds : AreUnique scope_kind_bytes Always
unique_scope_kinds = unique_kinds scope_kind scope_kind_of scope_kind_back

abbrev bind_kind_of : ℕ → BindKind
bind_kind_of zero = bind.Param
bind_kind_of (suc zero) = bind.Var
bind_kind_of (suc (suc zero)) = bind.Let
bind_kind_of (suc (suc (suc zero))) = bind.Const
bind_kind_of (suc (suc (suc (suc zero)))) = bind.Function
bind_kind_of (suc (suc (suc (suc (suc zero))))) = bind.Catch
bind_kind_of (suc (suc (suc (suc (suc (suc zero)))))) = bind.Callee
bind_kind_of (suc (suc (suc (suc (suc (suc (suc zero))))))) = bind.Arguments
bind_kind_of _ = bind.This

bind_kind_back : (k : BindKind) → bind_kind_of (bind_kind k) ≡ k
bind_kind_back bind.Param = refl
bind_kind_back bind.Var = refl
bind_kind_back bind.Let = refl
bind_kind_back bind.Const = refl
bind_kind_back bind.Function = refl
bind_kind_back bind.Catch = refl
bind_kind_back bind.Callee = refl
bind_kind_back bind.Arguments = refl
bind_kind_back bind.This = refl

pub unique_bind_kinds : AreUnique bind_kind_bytes Always
unique_bind_kinds = unique_kinds bind_kind bind_kind_of bind_kind_back

-- ---- slots

abbrev slot_number : Slot → ℕ
slot_number slot.Global = 0
slot_number (slot.Arg i) = i
slot_number (slot.Frame i) = i
slot_number (slot.Env i) = i
slot_number slot.Callee = 0

pub unique_slots : AreUnique slot_bytes FitSlot
unique_slots slot.Global slot.Global r s fx fy e = (refl, cc)
unique_slots (slot.Arg i) (slot.Arg j) r s fx fy e = let h = unique_numbers 4 i j r s fx fy cc in (ap (λ k. slot.Arg k) h.0, h.1)
unique_slots (slot.Frame i) (slot.Frame j) r s fx fy e = let h = unique_numbers 4 i j r s fx fy cc in (ap (λ k. slot.Frame k) h.0, h.1)
unique_slots (slot.Env i) (slot.Env j) r s fx fy e = let h = unique_numbers 4 i j r s fx fy cc in (ap (λ k. slot.Env k) h.0, h.1)
unique_slots slot.Callee slot.Callee r s fx fy e = (refl, cc)
unique_slots _ _ r s fx fy e = absurd (cc)

-- ---- bindings, scopes and notes

abbrev binding_of_parts : ℕ × (BindKind × Slot) → Binding
binding_of_parts p = record { atom = p.0; kind = p.1.0; slot = p.1.1 }

pub unique_bindings : AreUnique binding_bytes FitBinding
unique_bindings =
    unique_mapped (pair_bytes (number 4) (pair_bytes bind_kind_bytes slot_bytes))
    (FitPair (Fits 4) (FitPair Always FitSlot)) binding_parts binding_of_parts (λ b. refl)
    (unique_pairs (number 4) (Fits 4) (pair_bytes bind_kind_bytes slot_bytes) (FitPair Always FitSlot) (unique_numbers 4)
    (unique_pairs bind_kind_bytes Always slot_bytes FitSlot unique_bind_kinds unique_slots))

abbrev scope_of_parts : ScopeKind × (Option ℕ × (List Binding × ℕ)) → ScopeView
scope_of_parts p = record { kind = p.0; parent = p.1.0; bindings = p.1.1.0; env_slots = p.1.1.1 }

unique_names : AreUnique (maybe_bytes (number 4)) (FitMaybe (Fits 4))
unique_names = unique_maybes (number 4) (Fits 4) (unique_numbers 4)

pub unique_scopes : AreUnique scope_bytes FitScope
unique_scopes =
    unique_mapped (pair_bytes scope_kind_bytes (pair_bytes (maybe_bytes (number 4)) (pair_bytes (list_bytes binding_bytes) (number 4))))
    (FitPair Always (FitPair (FitMaybe (Fits 4)) (FitPair (FitList FitBinding) (Fits 4)))) scope_parts scope_of_parts (λ s. refl)
    (unique_pairs scope_kind_bytes Always (pair_bytes (maybe_bytes (number 4)) (pair_bytes (list_bytes binding_bytes) (number 4)))
    (FitPair (FitMaybe (Fits 4)) (FitPair (FitList FitBinding) (Fits 4))) unique_scope_kinds
    (unique_pairs (maybe_bytes (number 4)) (FitMaybe (Fits 4)) (pair_bytes (list_bytes binding_bytes) (number 4))
    (FitPair (FitList FitBinding) (Fits 4)) unique_names
    (unique_pairs (list_bytes binding_bytes) (FitList FitBinding) (number 4) (Fits 4)
    (unique_lists binding_bytes FitBinding unique_bindings) (unique_numbers 4))))

abbrev note_of_parts : ℕ × (ℕ × ℕ) → TryNote
note_of_parts p = record { start = p.0; end = p.1.0; depth = p.1.1 }

pub unique_notes : AreUnique note_bytes FitNote
unique_notes =
    unique_mapped (pair_bytes (number 8) (pair_bytes (number 8) (number 4)))
    (FitPair (Fits 8) (FitPair (Fits 8) (Fits 4))) note_parts note_of_parts (λ n. refl)
    (unique_pairs (number 8) (Fits 8) (pair_bytes (number 8) (number 4)) (FitPair (Fits 8) (Fits 4)) (unique_numbers 8)
    (unique_pairs (number 8) (Fits 8) (number 4) (Fits 4) (unique_numbers 8) (unique_numbers 4)))

-- ---- codes

pub unique_codes : AreUnique code_bytes FitCode
unique_codes x y r s fx fy e = (same, rest)
  where
    count : (length x ≡ length y) × (x ++ r ≡ y ++ s)
    count = unique_numbers 8 (length x) (length y) (x ++ r) (y ++ s) fx fy
        (sym (append_assoc (number 8 (length x)) x r) ∙ (e ∙ append_assoc (number 8 (length y)) y s))

    same : x ≡ y
    same = sym (take_at x r (length x) refl) ∙ (ap (take (length x)) count.1 ∙ take_at y s (length x) (sym count.0))

    rest : r ≡ s
    rest = sym (drop_at x r (length x) refl) ∙ (ap (drop (length x)) count.1 ∙ drop_at y s (length x) (sym count.0))

-- ---- functions, records and entries

abbrev function_of_parts : FunctionParts → FunctionView
function_of_parts p = record {
  extent = p.0.0;
  kind = p.0.1.0;
  name = p.0.1.1.0;
  params = p.0.1.1.1;
  scopes = p.1.0;
  code = p.1.1.0;
  notes
      = p.1.1.1.0;
  inner = p.1.1.1.1;
}

unique_function_parts : AreUnique function_parts_bytes FitFunctionParts
unique_function_parts =
    unique_pairs (pair_bytes extent_bytes (pair_bytes function_kind_bytes (pair_bytes (maybe_bytes (number 4)) (number 4))))
    (FitPair FitExtent (FitPair Always (FitPair (FitMaybe (Fits 4)) (Fits 4))))
    (pair_bytes (list_bytes scope_bytes) (pair_bytes code_bytes (pair_bytes (list_bytes note_bytes) (list_bytes extent_bytes))))
    (FitPair (FitList FitScope) (FitPair FitCode (FitPair (FitList FitNote) (FitList FitExtent))))
    (unique_pairs extent_bytes FitExtent (pair_bytes function_kind_bytes (pair_bytes (maybe_bytes (number 4)) (number 4)))
    (FitPair Always (FitPair (FitMaybe (Fits 4)) (Fits 4))) unique_extents
    (unique_pairs function_kind_bytes Always (pair_bytes (maybe_bytes (number 4)) (number 4))
    (FitPair (FitMaybe (Fits 4)) (Fits 4)) unique_function_kinds
    (unique_pairs (maybe_bytes (number 4)) (FitMaybe (Fits 4)) (number 4) (Fits 4) unique_names (unique_numbers 4))))
    (unique_pairs (list_bytes scope_bytes) (FitList FitScope)
    (pair_bytes code_bytes (pair_bytes (list_bytes note_bytes) (list_bytes extent_bytes)))
    (FitPair FitCode (FitPair (FitList FitNote) (FitList FitExtent))) (unique_lists scope_bytes FitScope unique_scopes)
    (unique_pairs code_bytes FitCode (pair_bytes (list_bytes note_bytes) (list_bytes extent_bytes))
    (FitPair (FitList FitNote) (FitList FitExtent)) unique_codes
    (unique_pairs (list_bytes note_bytes) (FitList FitNote) (list_bytes extent_bytes) (FitList FitExtent)
    (unique_lists note_bytes FitNote unique_notes) (unique_lists extent_bytes FitExtent unique_extents))))

pub unique_functions : AreUnique function_bytes FitFunction
unique_functions = unique_mapped function_parts_bytes FitFunctionParts function_parts function_of_parts (λ f. refl) unique_function_parts

abbrev closed_of_parts : ℕ × ℕ → ClosedName
closed_of_parts p = record { scope = p.0; atom = p.1 }

pub unique_closed : AreUnique closed_bytes FitClosed
unique_closed = unique_mapped (pair_bytes (number 4) (number 4)) (FitPair (Fits 4) (Fits 4)) closed_parts closed_of_parts (λ c. refl)
    (unique_pairs (number 4) (Fits 4) (number 4) (Fits 4) (unique_numbers 4) (unique_numbers 4))

abbrev record_of_parts : RecordParts → RecordView
record_of_parts p = record { extent = p.0.0; kind = p.0.1.0; name = p.0.1.1; inner = p.1.0; closed = p.1.1 }

unique_record_parts : AreUnique record_parts_bytes FitRecordParts
unique_record_parts =
    unique_pairs (pair_bytes extent_bytes (pair_bytes function_kind_bytes (maybe_bytes (number 4))))
    (FitPair FitExtent (FitPair Always (FitMaybe (Fits 4)))) (pair_bytes (list_bytes (number 4)) (list_bytes closed_bytes))
    (FitPair (FitList (Fits 4)) (FitList FitClosed))
    (unique_pairs extent_bytes FitExtent (pair_bytes function_kind_bytes (maybe_bytes (number 4)))
    (FitPair Always (FitMaybe (Fits 4))) unique_extents
    (unique_pairs function_kind_bytes Always (maybe_bytes (number 4)) (FitMaybe (Fits 4)) unique_function_kinds unique_names))
    (unique_pairs (list_bytes (number 4)) (FitList (Fits 4)) (list_bytes closed_bytes) (FitList FitClosed)
    (unique_lists (number 4) (Fits 4) (unique_numbers 4)) (unique_lists closed_bytes FitClosed unique_closed))

pub unique_records : AreUnique record_bytes FitRecord
unique_records = unique_mapped record_parts_bytes FitRecordParts record_parts record_of_parts (λ r. refl) unique_record_parts

abbrev entry_of_part : Option FunctionView → Entry
entry_of_part None = entry.Lazy
entry_of_part (Some f) = entry.Compiled f

entry_back : (e : Entry) → entry_of_part (entry_part e) ≡ e
entry_back entry.Lazy = refl
entry_back (entry.Compiled f) = refl

pub unique_entries : AreUnique entry_bytes FitEntry
unique_entries = unique_mapped (maybe_bytes function_bytes) (FitMaybe FitFunction) entry_part entry_of_part entry_back
    (unique_maybes function_bytes FitFunction unique_functions)
