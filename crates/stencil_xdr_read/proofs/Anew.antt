-- A stencil whose texts are numbered anew is in range as before, and its numbers fit.
use Rattle.std.proofs.Common.{◌≡◌, ℕ, zero, suc, ◌+◌, ◌^◌, ◌<◌, ◌≤◌, List, [], ◌∷◌, ◌++◌, length, map, flat_map, Option, Some, None, IfSome, option_map, refl, sym, ◌∙◌, ap, ap₂, subst, slice_get, arith}
use Rattle.std.specs.Prelude.{All}
use Rattle.std.proofs.lemmas.List.{length-map}
use Rattle.stencil_data.specs.declared.functions.Extent.{Extent}
use Rattle.stencil_data.specs.declared.records.ClosedName.{ClosedName}
use Rattle.stencil_data.specs.declared.scopes.Binding.{Binding}
use Rattle.stencil_data.specs.declared.scopes.Slot.{Slot}
use Rattle.stencil_data.specs.declared.scopes.Slot.TheVariants as slot
use Rattle.stencil_data.specs.declared.stencils.Entry.{Entry}
use Rattle.stencil_data.specs.declared.stencils.Entry.TheVariants as entry
use Rattle.stencil_data.specs.declared.stencils.TryNote.{TryNote}
use Rattle.stencil_data.specs.MergedView.{MergedView}
use Rattle.stencil_data.specs.StandsFor.{BindingsWithin, ScopesWithin, ClosedWithin, NameWithin, RecordsWithin}
use Rattle.stencil_data.specs.Views.{ScopeView, RecordView, FunctionView}
use Rattle.bytecode_buf.specs.declared.opcode.Op.{Op}
use Rattle.bytecode_buf.specs.declared.opcode.Op.TheVariants as op
use Rattle.bytecode_buf.specs.declared.opcode.Shape.{Shape}
use Rattle.bytecode_buf.specs.declared.opcode.Shape.TheVariants as shape
use Rattle.bytecode_buf.specs.InRange.{AtomWithin, LambdaWithin, JumpWithin, InstructionsWithin, CodeInRange, TextsSmall, ScopesInRange, FunctionInRange, NumbersWithin, RecordsInRange, EntryInRange, EntriesInRange, InRange, extent_of, extent_or}
use Rattle.bytecode_buf.specs.Layout.{Numbered, instructions}
use Rattle.bytecode_buf.specs.Width.{shape_of, width_of}
use Rattle.stencil_xdr_specs.specs.Widths.{TextFits, ExtentFits, SlotFits, ScopeFits, NoteFits, FunctionFits, RecordFits, EntryFits}
use Rattle.stencil_xdr_read.specs.Reading.{Fits, Each, FitMaybe}
use Rattle.stencil_xdr_read.specs.Parts.{FitText, FitExtent, FitSlot, FitBinding, FitScope, FitNote, FitFunction, FitClosed, FitRecord, FitEntry}
use Rattle.stencil_xdr_read.specs.Within.{EachFrom, IsNumber, AreNumbers, ParentBelow, TargetWithin, TargetsWithin, CodeWithin, PartWithin, IsEntryOf, IsEntryOfSome, IsEntryAt}
use Rattle.stencil_xdr_read.specs.Atoms.{name_atoms, binding_atoms, scope_atoms, operand_atoms, instruction_atoms, code_atoms, function_atoms, closed_atoms, record_atoms, entry_atoms, stencil_atoms}
use Rattle.stencil_xdr_read.proofs.Items.{WholeEntry}
use Rattle.stencil_xdr_read.proofs.Ranges.{AreFrom, from_next, from_here}
use Rattle.stencil_xdr_read.proofs.Renamed.{AreSmall, renamed_binding, renamed_scope, renamed_by, renamed_instruction, renamed_code, renamed_function, renamed_closed, renamed_record, renamed_entry, renamed_instructions, renamed_whole, length_renamed}

-- ---- lists

pub all_each : {A : Type 0} (P : A → Type 0) (xs : List A) → All P xs → Each P xs
all_each P [] h = tt
all_each P (x ∷ xs) h = (h 0 x (omega arith), all_each P xs (λ k d lt. h (suc k) d (omega arith)))

pub each_both : {A : Type 0} (P : A → Type 0) (xs ys : List A) → Each P xs → Each P ys → Each P (xs ++ ys)
each_both P [] ys f g = g
each_both P (x ∷ xs) ys f g = (f.0, each_both P xs ys f.1 g)

each_map : {A B : Type 0} (P : A → Type 0) (Q : B → Type 0) (f : A → B) → ((x : A) → P x → Q (f x)) → (xs : List A) → Each P xs → Each Q (map f xs)
each_map P Q f step [] h = tt
each_map P Q f step (x ∷ xs) h = (step x h.0, each_map P Q f step xs h.1)

-- ---- atoms are below the count of texts

abbrev Below : ℕ → ℕ → Type 0
Below texts a = a < texts

name_below : (texts : ℕ) (o : Option ℕ) → NameWithin texts o → Each (Below texts) (name_atoms o)
name_below texts None h = tt
name_below texts (Some a) h = (h, tt)

bindings_below : (texts : ℕ) (bs : List Binding) → BindingsWithin texts bs → Each (Below texts) (flat_map binding_atoms bs)
bindings_below texts [] h = tt
bindings_below texts (b ∷ bs) h = (h.0, bindings_below texts bs h.1)

scopes_below : (texts : ℕ) (ss : List ScopeView) → ScopesWithin texts ss → Each (Below texts) (flat_map scope_atoms ss)
scopes_below texts [] h = tt
scopes_below texts (s ∷ ss) h = each_both (Below texts) (scope_atoms s) (flat_map scope_atoms ss) (bindings_below texts s.bindings h.0) (scopes_below texts ss h.1)

closed_below : (texts : ℕ) (cs : List ClosedName) → ClosedWithin texts cs → Each (Below texts) (flat_map closed_atoms cs)
closed_below texts [] h = tt
closed_below texts (c ∷ cs) h = (h.0, closed_below texts cs h.1)

records_below : (texts : ℕ) (rs : List RecordView) → RecordsWithin texts rs → Each (Below texts) (flat_map record_atoms rs)
records_below texts [] h = tt
records_below texts (r ∷ rs) h = each_both (Below texts) (record_atoms r) (flat_map record_atoms rs)
    (each_both (Below texts) (name_atoms r.name) (flat_map closed_atoms r.closed) (name_below texts r.name h.0.0) (closed_below texts r.closed h.0.1)) (records_below texts rs h.1)

operand_below : (texts : ℕ) (s : Shape) (a : ℕ) → AtomWithin s a texts → Each (Below texts) (operand_atoms s a)
operand_below texts shape.Atom a h = (h, tt)
operand_below texts _ a h = tt

instructions_below : (texts functions size at : ℕ) (is : List Numbered) → InstructionsWithin texts functions size at is → Each (Below texts) (flat_map instruction_atoms is)
instructions_below texts functions size at [] h = tt
instructions_below texts functions size at (i ∷ is) h = each_both (Below texts) (instruction_atoms i) (flat_map instruction_atoms is) (operand_below texts (shape_of i.op) i.a h.0.0) (instructions_below texts functions size (at + width_of i.op) is h.1)

function_below : (texts functions : ℕ) (f : FunctionView) → FunctionInRange texts functions f → Each (Below texts) (function_atoms f)
function_below texts functions f r = each_both (Below texts) (name_atoms f.name) (flat_map scope_atoms f.scopes ++ code_atoms f.code) (name_below texts f.name r.name)
    (each_both (Below texts) (flat_map scope_atoms f.scopes) (code_atoms f.code) (scopes_below texts f.scopes r.bindings) (instructions_below texts functions (length f.code) 0 (instructions f.code) r.code.operands))

entry_below : (texts functions : ℕ) (all : List RecordView) (lazy : RecordView) (e : Entry) → EntryInRange texts functions all lazy e → Each (Below texts) (entry_atoms e)
entry_below texts functions all lazy entry.Lazy h = tt
entry_below texts functions all lazy (entry.Compiled f) h = function_below texts functions f h.range

entries_below : (texts functions : ℕ) (all records : List RecordView) (es : List Entry) → EntriesInRange texts functions all records es → Each (Below texts) (flat_map entry_atoms es)
entries_below texts functions all [] [] h = tt
entries_below texts functions all [] (e ∷ es) h = absurd h
entries_below texts functions all (r ∷ records) [] h = absurd h
entries_below texts functions all (r ∷ records) (e ∷ es) h = each_both (Below texts) (entry_atoms e) (flat_map entry_atoms es) (entry_below texts functions all r e h.0) (entries_below texts functions all records es h.1)

pub stencil_below : (m : MergedView) → InRange m → Each (λ a. a < length m.texts) (stencil_atoms m)
stencil_below m r = each_both (Below (length m.texts)) (function_atoms m.top) (flat_map record_atoms m.records ++ flat_map entry_atoms m.entries) (function_below (length m.texts) (length m.records) m.top r.top.range)
    (each_both (Below (length m.texts)) (flat_map record_atoms m.records) (flat_map entry_atoms m.entries) (records_below (length m.texts) m.records r.atoms) (entries_below (length m.texts) (length m.records) m.records m.records m.entries r.entries))

-- ---- whole codes

entry_whole : (texts functions : ℕ) (all : List RecordView) (lazy : RecordView) (e : Entry) → EntryInRange texts functions all lazy e → WholeEntry e
entry_whole texts functions all lazy entry.Lazy h = tt
entry_whole texts functions all lazy (entry.Compiled f) h = h.range.code.whole

pub entries_whole : (texts functions : ℕ) (all records : List RecordView) (es : List Entry) → EntriesInRange texts functions all records es → Each WholeEntry es
entries_whole texts functions all [] [] h = tt
entries_whole texts functions all [] (e ∷ es) h = absurd h
entries_whole texts functions all (r ∷ records) [] h = absurd h
entries_whole texts functions all (r ∷ records) (e ∷ es) h = (entry_whole texts functions all r e h.0, entries_whole texts functions all records es h.1)

-- ---- numbers fit

name_fits : (N : ℕ → ℕ) (o : Option ℕ) → AreSmall N → FitMaybe (Fits 4) (option_map N o)
name_fits N None small = tt
name_fits N (Some a) small = small a

slot_fits : (s : Slot) → SlotFits s → FitSlot s
slot_fits slot.Global h = tt
slot_fits (slot.Arg i) h = h
slot_fits (slot.Frame i) h = h
slot_fits (slot.Env i) h = h
slot_fits slot.Callee h = tt

bindings_fit : (N : ℕ → ℕ) (bs : List Binding) → AreSmall N → Each (λ (b : Binding). SlotFits b.slot) bs → Each FitBinding (map (renamed_binding N) bs)
bindings_fit N [] small h = tt
bindings_fit N (b ∷ bs) small h = ((small b.atom, (tt, slot_fits b.slot h.0)), bindings_fit N bs small h.1)

parent_fits : (number : ℕ) (o : Option ℕ) → number < 2 ^ 32 → IfSome o (λ p. p < number) → FitMaybe (Fits 4) o
parent_fits number None low h = tt
parent_fits number (Some p) low h = omega arith

scopes_fit : (N : ℕ → ℕ) (number : ℕ) (ss : List ScopeView) → AreSmall N → number + length ss < 2 ^ 32 → ScopesInRange number ss → Each ScopeFits ss → Each FitScope (map (renamed_scope N) ss)
scopes_fit N number [] small low r h = tt
scopes_fit N number (s ∷ ss) small low r h = (
  (tt, (parent_fits number s.parent (omega arith) r.0, ((subst (Fits 4) (sym (length-map s.bindings (renamed_binding N))) r.1, bindings_fit N s.bindings small (all_each (λ (b : Binding). SlotFits b.slot) s.bindings h.0)), r.2))),
  scopes_fit N (number + 1) ss small (omega arith) r.3 h.1,
)

notes_fit : (ns : List TryNote) → Each NoteFits ns → Each FitNote ns
notes_fit [] h = tt
notes_fit (n ∷ ns) h = ((h.0.0, (h.0.1, h.0.2)), notes_fit ns h.1)

extents_fit : (es : List Extent) → Each ExtentFits es → Each FitExtent es
extents_fit [] h = tt
extents_fit (e ∷ es) h = ((h.0.0, h.0.1), extents_fit es h.1)

pub function_fits : (N : ℕ → ℕ) (texts functions : ℕ) (f : FunctionView) → AreSmall N → FunctionInRange texts functions f → FunctionFits f → FitFunction (renamed_function N f)
function_fits N texts functions f small r h = (
  ((h.extent.0, h.extent.1), (tt, (name_fits N f.name small, r.params))),
  (
    (subst (Fits 4) (sym (length-map f.scopes (renamed_scope N))) r.scopes_small, scopes_fit N 0 f.scopes small (let s = r.scopes_small in omega arith) r.scopes (all_each ScopeFits f.scopes h.scopes)),
    (
      subst (Fits 8) (sym (length_renamed N f.code r.code.whole)) h.code,
      ((r.notes_small, notes_fit f.notes (all_each NoteFits f.notes h.notes)), (r.inner_small, extents_fit f.inner (all_each ExtentFits f.inner h.inner))),
    ),
  ),
)

closed_fit : (N : ℕ → ℕ) (cs : List ClosedName) → AreSmall N → Each (λ (c : ClosedName). c.scope < 2 ^ 32) cs → Each FitClosed (map (renamed_closed N) cs)
closed_fit N [] small h = tt
closed_fit N (c ∷ cs) small h = ((h.0, small c.atom), closed_fit N cs small h.1)

numbers_fit : (functions : ℕ) (ns : List ℕ) → functions < 2 ^ 32 → NumbersWithin functions ns → Each (Fits 4) ns
numbers_fit functions [] low h = tt
numbers_fit functions (n ∷ ns) low h = (let a : n ≤ functions = h.1 in omega arith, numbers_fit functions ns low h.2)

pub records_fit : (N : ℕ → ℕ) (functions : ℕ) (rs : List RecordView) → AreSmall N → functions < 2 ^ 32 → RecordsInRange functions rs → Each RecordFits rs → Each FitRecord (map (renamed_record N) rs)
records_fit N functions [] small low r h = tt
records_fit N functions (lazy ∷ rs) small low r h = (
  (
    ((h.0.extent.0, h.0.extent.1), (tt, name_fits N lazy.name small)),
    ((r.0, numbers_fit functions lazy.inner low r.2), (subst (Fits 4) (sym (length-map lazy.closed (renamed_closed N))) r.1, closed_fit N lazy.closed small (all_each (λ (c : ClosedName). c.scope < 2 ^ 32) lazy.closed h.0.closed))),
  ),
  records_fit N functions rs small low r.3 h.1,
)

entry_fits : (N : ℕ → ℕ) (texts functions : ℕ) (all : List RecordView) (lazy : RecordView) (e : Entry) → AreSmall N → EntryInRange texts functions all lazy e → EntryFits e → FitEntry (renamed_entry N e)
entry_fits N texts functions all lazy entry.Lazy small r h = tt
entry_fits N texts functions all lazy (entry.Compiled f) small r h = function_fits N texts functions f small r.range h

pub entries_fit : (N : ℕ → ℕ) (texts functions : ℕ) (all records : List RecordView) (es : List Entry) → AreSmall N → EntriesInRange texts functions all records es → Each EntryFits es → Each FitEntry (map (renamed_entry N) es)
entries_fit N texts functions all [] [] small r h = tt
entries_fit N texts functions all [] (e ∷ es) small r h = absurd r
entries_fit N texts functions all (lazy ∷ records) [] small r h = absurd r
entries_fit N texts functions all (lazy ∷ records) (e ∷ es) small r h = (entry_fits N texts functions all lazy e small r.0 h.0, entries_fit N texts functions all records es small r.1 h.1)

pub entries_many : (texts functions : ℕ) (all records : List RecordView) (es : List Entry) → EntriesInRange texts functions all records es → length es ≡ length records
entries_many texts functions all [] [] r = refl
entries_many texts functions all [] (e ∷ es) r = absurd r
entries_many texts functions all (lazy ∷ records) [] r = absurd r
entries_many texts functions all (lazy ∷ records) (e ∷ es) r = ap suc (entries_many texts functions all records es r.1)

pub texts_fit : (ts : List (List ℕ)) → TextsSmall ts → Each TextFits ts → Each FitText ts
texts_fit [] s h = tt
texts_fit (t ∷ ts) s h = ((s.0, all_each (Fits 2) t h.0), texts_fit ts s.1 h.1)

-- ---- in range

parents_below : (N : ℕ → ℕ) (number : ℕ) (ss : List ScopeView) → ScopesInRange number ss → EachFrom ParentBelow number (map (renamed_scope N) ss)
parents_below N number [] r = tt
parents_below N number (s ∷ ss) r = (r.0, parents_below N (number + 1) ss r.3)

lambda_atom : (o : Op) (a b functions : ℕ) → shape_of o ≡ shape.Atom → LambdaWithin o a functions → LambdaWithin o b functions
lambda_atom op.Lambda a b functions e h = absurd (no_atom e)
  where
    no_atom : shape_of op.Lambda ≡ shape.Atom → ⊥
    no_atom f = cc
lambda_atom _ a b functions e h = tt

jump_atom : (s : Shape) (at a b size : ℕ) → s ≡ shape.Atom → JumpWithin s at a size → JumpWithin s at b size
jump_atom shape.Jump at a b size e h = absurd (cc)
jump_atom _ at a b size e h = tt

target_anew : (N : ℕ → ℕ) (functions size at : ℕ) (s : Shape) (i : Numbered) → shape_of i.op ≡ s → LambdaWithin i.op i.a functions → JumpWithin (shape_of i.op) at i.a size → TargetWithin functions size at (renamed_by s N i)
target_anew N functions size at shape.Atom i e l j = (lambda_atom i.op i.a (N i.a) functions e l, jump_atom (shape_of i.op) at i.a (N i.a) size e j)
target_anew N functions size at _ i e l j = (l, j)

pub width_anew : (N : ℕ → ℕ) (s : Shape) (i : Numbered) → width_of (renamed_by s N i).op ≡ width_of i.op
width_anew N shape.Atom i = refl
width_anew N _ i = refl

targets_anew : (N : ℕ → ℕ) (texts functions size at : ℕ) (is : List Numbered) → InstructionsWithin texts functions size at is → TargetsWithin functions size at (map (renamed_instruction N) is)
targets_anew N texts functions size at [] h = tt
targets_anew N texts functions size at (i ∷ is) h = (
  target_anew N functions size at (shape_of i.op) i refl h.0.1 h.0.2,
  subst (λ (w : ℕ). TargetsWithin functions size (at + w) (map (renamed_instruction N) is)) (sym (width_anew N (shape_of i.op) i)) (targets_anew N texts functions size (at + width_of i.op) is h.1),
)

code_anew : (N : ℕ → ℕ) (texts functions : ℕ) (code : List ℕ) → AreSmall N → CodeInRange texts functions code → CodeWithin functions (renamed_code N code)
code_anew N texts functions code small r = (
  renamed_whole N code small r.whole,
  subst (λ (n : ℕ). TargetsWithin functions n 0 (instructions (renamed_code N code))) (sym (length_renamed N code r.whole))
      (subst (TargetsWithin functions (length code) 0) (sym (renamed_instructions N code small r.whole)) (targets_anew N texts functions (length code) 0 (instructions code) r.operands)),
)

pub part_anew : (N : ℕ → ℕ) (texts functions : ℕ) (f : FunctionView) → AreSmall N → FunctionInRange texts functions f → PartWithin functions (renamed_function N f)
part_anew N texts functions f small r = (parents_below N 0 f.scopes r.scopes, code_anew N texts functions f.code small r.code)

numbers_anew : (functions at : ℕ) (ns : List ℕ) → NumbersWithin functions ns → EachFrom (λ k n. IsNumber functions n) at ns
numbers_anew functions at [] h = tt
numbers_anew functions at (n ∷ ns) h = ((h.0, h.1), numbers_anew functions (at + 1) ns h.2)

pub records_anew : (N : ℕ → ℕ) (functions at : ℕ) (rs : List RecordView) → RecordsInRange functions rs → EachFrom (λ k (lazy : RecordView). AreNumbers functions lazy.inner) at (map (renamed_record N) rs)
records_anew N functions at [] h = tt
records_anew N functions at (r ∷ rs) h = (numbers_anew functions 0 r.inner h.2, records_anew N functions (at + 1) rs h.3)

get_anew : (N : ℕ → ℕ) (rs : List RecordView) (k : ℕ) → slice_get (map (renamed_record N) rs) k ≡ option_map (renamed_record N) (slice_get rs k)
get_anew N [] k = refl
get_anew N (r ∷ rs) zero = refl
get_anew N (r ∷ rs) (suc k) = get_anew N rs k

same_extent : (N : ℕ → ℕ) (o : Option RecordView) → extent_or (option_map (renamed_record N) o) ≡ extent_or o
same_extent N None = refl
same_extent N (Some r) = refl

extents_anew : (N : ℕ → ℕ) (all : List RecordView) (ns : List ℕ) → map (extent_of all) ns ≡ map (extent_of (map (renamed_record N) all)) ns
extents_anew N all [] = refl
extents_anew N all (n ∷ ns) = ap₂ (λ e l. e ∷ l) (sym (ap extent_or (get_anew N all _) ∙ same_extent N (slice_get all _))) (extents_anew N all ns)

entry_anew : (N : ℕ → ℕ) (texts functions : ℕ) (all : List RecordView) (lazy : RecordView) (e : Entry) → AreSmall N → length all ≡ functions → EntryInRange texts functions all lazy e → IsEntryOf (map (renamed_record N) all) (renamed_record N lazy) (renamed_entry N e)
entry_anew N texts functions all lazy entry.Lazy small count r = tt
entry_anew N texts functions all lazy (entry.Compiled f) small count r = (
  (r.extent, r.kind, ap (option_map N) r.name),
  r.inner ∙ extents_anew N all lazy.inner,
  subst (λ (n : ℕ). PartWithin n (renamed_function N f)) (sym (length-map all (renamed_record N) ∙ count)) (part_anew N texts functions f small r.range),
)

pub entries_anew : (N : ℕ → ℕ) (texts functions : ℕ) (all : List RecordView) (at : ℕ) (records : List RecordView) (es : List Entry) → AreSmall N → length all ≡ functions → AreFrom all at records → EntriesInRange texts functions all records es → EachFrom (IsEntryAt (map (renamed_record N) all)) at (map (renamed_entry N) es)
entries_anew N texts functions all at [] [] small count from r = tt
entries_anew N texts functions all at [] (e ∷ es) small count from r = absurd r
entries_anew N texts functions all at (lazy ∷ records) [] small count from r = absurd r
entries_anew N texts functions all at (lazy ∷ records) (e ∷ es) small count from r = (
  subst (λ (o : Option RecordView). IsEntryOfSome (map (renamed_record N) all) o (renamed_entry N e)) (sym (get_anew N all at ∙ ap (option_map (renamed_record N)) (from_here all at lazy records from))) (entry_anew N texts functions all lazy e small count r.0),
  entries_anew N texts functions all (at + 1) records es small count (from_next all at lazy records from) r.1,
)
