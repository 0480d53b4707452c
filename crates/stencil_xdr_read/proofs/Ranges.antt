-- What was tested is that a stencil is in range and its numbers fit.
use Rattle.std.proofs.Common.{◌≡◌, ℕ, zero, suc, ◌+◌, ◌^◌, ◌<◌, List, [], ◌∷◌, ◌++◌, length, flat_map, Option, Some, None, refl, sym, ◌∙◌, ap, subst, slice_get, arith}
use Rattle.std.specs.Prelude.{All}
use Rattle.stencil_data.specs.declared.functions.Extent.{Extent}
use Rattle.stencil_data.specs.declared.records.ClosedName.{ClosedName}
use Rattle.stencil_data.specs.declared.scopes.Binding.{Binding}
use Rattle.stencil_data.specs.declared.scopes.Slot.{Slot}
use Rattle.stencil_data.specs.declared.scopes.Slot.TheVariants as slot
use Rattle.stencil_data.specs.declared.stencils.Entry.{Entry}
use Rattle.stencil_data.specs.declared.stencils.Entry.TheVariants as entry
use Rattle.stencil_data.specs.MergedView.{MergedView}
use Rattle.stencil_data.specs.StandsFor.{BindingsWithin, ScopesWithin, ClosedWithin, NameWithin, RecordWithin, RecordsWithin}
use Rattle.stencil_data.specs.Views.{ScopeView, RecordView, FunctionView}
use Rattle.bytecode_buf.specs.declared.opcode.Shape.{Shape}
use Rattle.bytecode_buf.specs.declared.opcode.Shape.TheVariants as shape
use Rattle.bytecode_buf.specs.InRange.{AtomWithin, InstructionsWithin, TextsSmall, ScopesInRange, FunctionInRange, NumbersWithin, RecordsInRange, EntryInRange, EntriesInRange, InRange}
use Rattle.bytecode_buf.specs.Layout.{Numbered, instructions}
use Rattle.bytecode_buf.specs.Width.{shape_of, width_of}
use Rattle.stencil_xdr_specs.specs.Widths.{TextFits, ExtentFits, SlotFits, ScopeFits, NoteFits, FunctionFits, RecordFits, EntryFits, NumbersFit}
use Rattle.stencil_xdr_read.specs.Reading.{Fits, Each}
use Rattle.stencil_xdr_read.specs.Parts.{FitText, FitExtent, FitSlot, FitBinding, FitScope, FitNote, FitFunction, FitClosed, FitRecord, FitEntry}
use Rattle.stencil_xdr_read.specs.Whole.{FitStencil}
use Rattle.stencil_xdr_read.specs.Within.{EachFrom, IsNumber, AreNumbers, ParentBelow, TargetsWithin, PartWithin, IsEntryOf, IsEntryOfSome, IsEntryAt, StencilWithin}
use Rattle.stencil_xdr_read.specs.Atoms.{name_atoms, binding_atoms, scope_atoms, operand_atoms, instruction_atoms, code_atoms, function_atoms, closed_atoms, record_atoms, entry_atoms, stencil_atoms}

-- ---- lists

pub each_front : {A : Type 0} (P : A → Type 0) (xs ys : List A) → Each P (xs ++ ys) → Each P xs
each_front P [] ys h = tt
each_front P (x ∷ xs) ys h = (h.0, each_front P xs ys h.1)

pub each_back : {A : Type 0} (P : A → Type 0) (xs ys : List A) → Each P (xs ++ ys) → Each P ys
each_back P [] ys h = h
each_back P (x ∷ xs) ys h = each_back P xs ys h.1

pub each_all : {A : Type 0} (P : A → Type 0) (xs : List A) → Each P xs → All P xs
each_all P [] h k d lt = absurd (omega arith)
each_all P (x ∷ xs) h zero d lt = h.0
each_all P (x ∷ xs) h (suc k) d lt = each_all P xs h.1 k d (omega arith)

pub each_weaker : {A : Type 0} (P Q : A → Type 0) → ((x : A) → P x → Q x) → (xs : List A) → Each P xs → Each Q xs
each_weaker P Q f [] h = tt
each_weaker P Q f (x ∷ xs) h = (f x h.0, each_weaker P Q f xs h.1)

-- an atom is the number of a text
abbrev Below : ℕ → ℕ → Type 0
Below texts a = a < texts

-- ---- counts and atoms

texts_small : (texts : List (List ℕ)) → Each FitText texts → TextsSmall texts
texts_small [] h = tt
texts_small (t ∷ texts) h = (h.0.0, texts_small texts h.1)

name_within : (texts : ℕ) (o : Option ℕ) → Each (Below texts) (name_atoms o) → NameWithin texts o
name_within texts None h = tt
name_within texts (Some a) h = h.0

bindings_within : (texts : ℕ) (bs : List Binding) → Each (Below texts) (flat_map binding_atoms bs) → BindingsWithin texts bs
bindings_within texts [] h = tt
bindings_within texts (b ∷ bs) h = (h.0, bindings_within texts bs h.1)

scopes_within : (texts : ℕ) (ss : List ScopeView) → Each (Below texts) (flat_map scope_atoms ss) → ScopesWithin texts ss
scopes_within texts [] h = tt
scopes_within texts (s ∷ ss) h = (bindings_within texts s.bindings (each_front (Below texts) (scope_atoms s) (flat_map scope_atoms ss) h), scopes_within texts ss (each_back (Below texts) (scope_atoms s) (flat_map scope_atoms ss) h))

closed_within : (texts : ℕ) (cs : List ClosedName) → Each (Below texts) (flat_map closed_atoms cs) → ClosedWithin texts cs
closed_within texts [] h = tt
closed_within texts (c ∷ cs) h = (h.0, closed_within texts cs h.1)

record_within : (texts : ℕ) (r : RecordView) → Each (Below texts) (record_atoms r) → RecordWithin texts r
record_within texts r h = (name_within texts r.name (each_front (Below texts) (name_atoms r.name) (flat_map closed_atoms r.closed) h), closed_within texts r.closed (each_back (Below texts) (name_atoms r.name) (flat_map closed_atoms r.closed) h))

records_within : (texts : ℕ) (rs : List RecordView) → Each (Below texts) (flat_map record_atoms rs) → RecordsWithin texts rs
records_within texts [] h = tt
records_within texts (r ∷ rs) h = (record_within texts r (each_front (Below texts) (record_atoms r) (flat_map record_atoms rs) h), records_within texts rs (each_back (Below texts) (record_atoms r) (flat_map record_atoms rs) h))

numbers_within : (functions at : ℕ) (ns : List ℕ) → EachFrom (λ k n. IsNumber functions n) at ns → NumbersWithin functions ns
numbers_within functions at [] h = tt
numbers_within functions at (n ∷ ns) h = (h.0.0, h.0.1, numbers_within functions (at + 1) ns h.1)

records_in_range : (functions at : ℕ) (rs : List RecordView) → Each FitRecord rs → EachFrom (λ k (lazy : RecordView). AreNumbers functions lazy.inner) at rs → RecordsInRange functions rs
records_in_range functions at [] f h = tt
records_in_range functions at (r ∷ rs) f h = (f.0.1.0.0, f.0.1.1.0, numbers_within functions 0 r.inner h.0, records_in_range functions (at + 1) rs f.1 h.1)

-- ---- functions

scopes_in_range : (number : ℕ) (ss : List ScopeView) → Each FitScope ss → EachFrom ParentBelow number ss → ScopesInRange number ss
scopes_in_range number [] f h = tt
scopes_in_range number (s ∷ ss) f h = (h.0, f.0.1.1.0.0, f.0.1.1.1, scopes_in_range (number + 1) ss f.1 h.1)

atom_within : (texts : ℕ) (s : Shape) (a : ℕ) → Each (Below texts) (operand_atoms s a) → AtomWithin s a texts
atom_within texts shape.Atom a h = h.0
atom_within texts _ a h = tt

instructions_in_range : (texts functions size at : ℕ) (is : List Numbered) → Each (Below texts) (flat_map instruction_atoms is) → TargetsWithin functions size at is → InstructionsWithin texts functions size at is
instructions_in_range texts functions size at [] h t = tt
instructions_in_range texts functions size at (i ∷ is) h t = (
  (atom_within texts (shape_of i.op) i.a (each_front (Below texts) (instruction_atoms i) (flat_map instruction_atoms is) h), t.0.0, t.0.1),
  instructions_in_range texts functions size (at + width_of i.op) is (each_back (Below texts) (instruction_atoms i) (flat_map instruction_atoms is) h) t.1,
)

pub function_in_range : (texts functions : ℕ) (f : FunctionView) → FitFunction f → PartWithin functions f → Each (Below texts) (function_atoms f) → FunctionInRange texts functions f
function_in_range texts functions f fit within atoms = record {
  name = name_within texts f.name (each_front (Below texts) (name_atoms f.name) rest atoms);
  params = fit.0.1.1.1;
  scopes_small = fit.1.0.0;
  scopes = scopes_in_range 0 f.scopes fit.1.0.1 within.0;
  bindings = scopes_within texts f.scopes (each_front (Below texts) (flat_map scope_atoms f.scopes) (code_atoms f.code) behind);
  notes_small = fit.1.1.1.0.0;
  inner_small = fit.1.1.1.1.0;
  code = record {
    whole = within.1.0;
    operands = instructions_in_range texts functions (length f.code) 0 (instructions f.code) (each_back (Below texts) (flat_map scope_atoms f.scopes) (code_atoms f.code) behind) within.1.1;
  };
}
  where
    rest : List ℕ
    rest = flat_map scope_atoms f.scopes ++ code_atoms f.code

    behind : Each (Below texts) (flat_map scope_atoms f.scopes ++ code_atoms f.code)
    behind = each_back (Below texts) (name_atoms f.name) rest atoms

entry_in_range : (texts functions : ℕ) (all : List RecordView) (lazy : RecordView) (e : Entry) → length all ≡ functions → FitEntry e → IsEntryOf all lazy e → Each (Below texts) (entry_atoms e) → EntryInRange texts functions all lazy e
entry_in_range texts functions all lazy entry.Lazy count fit is atoms = tt
entry_in_range texts functions all lazy (entry.Compiled f) count fit is atoms = record {
  range = function_in_range texts functions f fit (subst (λ (n : ℕ). PartWithin n f) count is.2) atoms;
  extent = is.0.0;
  kind = is.0.1;
  name = is.0.2;
  inner = is.1;
}

-- the records from a place on
abbrev pub AreFrom : List RecordView → ℕ → List RecordView → Type 0
AreFrom all at records = (k : ℕ) → slice_get records k ≡ slice_get all (at + k)

pub from_next : (all : List RecordView) (at : ℕ) (lazy : RecordView) (records : List RecordView) → AreFrom all at (lazy ∷ records) → AreFrom all (at + 1) records
from_next all at lazy records h k = let e : at + suc k ≡ (at + 1) + k = omega arith in h (suc k) ∙ ap (slice_get all) e

pub from_here : (all : List RecordView) (at : ℕ) (lazy : RecordView) (records : List RecordView) → AreFrom all at (lazy ∷ records) → slice_get all at ≡ Some lazy
from_here all at lazy records h = let e : at + 0 ≡ at = omega arith in sym (h 0 ∙ ap (slice_get all) e)

entries_in_range : (texts functions : ℕ) (all : List RecordView) (at : ℕ) (records : List RecordView) (es : List Entry) → length all ≡ functions → AreFrom all at records → length es ≡ length records → Each FitEntry es → EachFrom (IsEntryAt all) at es → Each (Below texts) (flat_map entry_atoms es) → EntriesInRange texts functions all records es
entries_in_range texts functions all at [] [] count from many fit is atoms = tt
entries_in_range texts functions all at [] (e ∷ es) count from many fit is atoms = omega arith
entries_in_range texts functions all at (lazy ∷ records) [] count from many fit is atoms = omega arith
entries_in_range texts functions all at (lazy ∷ records) (e ∷ es) count from many fit is atoms = (
  entry_in_range texts functions all lazy e count fit.0 (subst (λ (o : Option RecordView). IsEntryOfSome all o e) (from_here all at lazy records from) is.0) (each_front (Below texts) (entry_atoms e) (flat_map entry_atoms es) atoms),
  entries_in_range texts functions all (at + 1) records es count (from_next all at lazy records from) (omega arith) fit.1 is.1 (each_back (Below texts) (entry_atoms e) (flat_map entry_atoms es) atoms),
)

-- ---- stencils

pub in_range : (m : MergedView) → FitStencil m → StencilWithin m → Each (λ a. a < length m.texts) (stencil_atoms m) → InRange m
in_range m fit within atoms = record {
  texts_small = fit.front.1.0.0;
  units_small = texts_small m.texts fit.front.1.0.1;
  records_small = fit.front.1.1.1.0;
  atoms = records_within texts m.records (each_front (Below texts) (flat_map record_atoms m.records) (flat_map entry_atoms m.entries) behind);
  records = records_in_range (length m.records) 0 m.records fit.front.1.1.1.1 within.0;
  top = record {
    range = function_in_range texts (length m.records) m.top fit.front.1.1.0 within.1.1 (each_front (Below texts) (function_atoms m.top) rest atoms);
    kind = within.1.0.0;
    name = within.1.0.1;
    params = within.1.0.2;
    start = within.1.0.3;
  };
  entries = entries_in_range texts (length m.records) m.records 0 m.records m.entries refl (λ k. ap (slice_get m.records) (sym (zero_plus k))) fit.entries.0 fit.entries.1 within.2 (each_back (Below texts) (flat_map record_atoms m.records) (flat_map entry_atoms m.entries) behind);
}
  where
    texts : ℕ
    texts = length m.texts

    rest : List ℕ
    rest = flat_map record_atoms m.records ++ flat_map entry_atoms m.entries

    behind : Each (Below (length m.texts)) (flat_map record_atoms m.records ++ flat_map entry_atoms m.entries)
    behind = each_back (Below texts) (function_atoms m.top) rest atoms

    zero_plus : (k : ℕ) → 0 + k ≡ k
    zero_plus k = omega arith

-- ---- widths

slot_fits : (s : Slot) → FitSlot s → SlotFits s
slot_fits slot.Global h = tt
slot_fits (slot.Arg i) h = h
slot_fits (slot.Frame i) h = h
slot_fits (slot.Env i) h = h
slot_fits slot.Callee h = tt

extents_fit : (es : List Extent) → Each FitExtent es → All ExtentFits es
extents_fit es h = each_all ExtentFits es (each_weaker FitExtent ExtentFits (λ e f. (f.0, f.1)) es h)

pub function_fits : (f : FunctionView) → FitFunction f → FunctionFits f
function_fits f fit = record {
  extent = (fit.0.0.0, fit.0.0.1);
  scopes = each_all ScopeFits f.scopes (each_weaker FitScope ScopeFits (λ s h. each_all (λ (b : Binding). SlotFits b.slot) s.bindings (each_weaker FitBinding (λ (b : Binding). SlotFits b.slot) (λ b g. slot_fits b.slot g.1.1) s.bindings h.1.1.0.1)) f.scopes fit.1.0.1);
  code = fit.1.1.0;
  notes = each_all NoteFits f.notes (each_weaker FitNote NoteFits (λ n h. (h.0, h.1.0, h.1.1)) f.notes fit.1.1.1.0.1);
  inner = extents_fit f.inner fit.1.1.1.1.1;
}

record_fits : (r : RecordView) → FitRecord r → RecordFits r
record_fits r fit = record {
  extent = (fit.0.0.0, fit.0.0.1);
  closed = each_all (λ (c : ClosedName). c.scope < 2 ^ 32) r.closed (each_weaker FitClosed (λ (c : ClosedName). c.scope < 2 ^ 32) (λ c h. h.0) r.closed fit.1.1.1);
}

entry_fits : (e : Entry) → FitEntry e → EntryFits e
entry_fits entry.Lazy h = tt
entry_fits (entry.Compiled f) h = function_fits f h

pub numbers_fit : (m : MergedView) → FitStencil m → NumbersFit m
numbers_fit m fit = record {
  texts = each_all TextFits m.texts (each_weaker FitText TextFits (λ t h. each_all (λ (u : ℕ). u < 2 ^ 16) t (each_weaker (Fits 2) (λ (u : ℕ). u < 2 ^ 16) (λ u g. g) t h.1)) m.texts fit.front.1.0.1);
  top = function_fits m.top fit.front.1.1.0;
  records = each_all RecordFits m.records (each_weaker FitRecord RecordFits record_fits m.records fit.front.1.1.1.1);
  entries = each_all EntryFits m.entries (each_weaker FitEntry EntryFits entry_fits m.entries fit.entries.1);
}
