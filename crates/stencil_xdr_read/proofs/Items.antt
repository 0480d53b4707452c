-- The items of a stencil, written where an atom is the number that stands there, and the atoms among them.
use Rattle.std.proofs.Common.{◌≡◌, ℕ, ◌%◌, List, [], ◌∷◌, ◌++◌, length, flat_map, Option, Some, None, refl, sym, ◌∙◌, ap, ap₂, append_assoc, append-nil}
use Rattle.std.proofs.lemmas.Grind.{flat_map-append}
use Rattle.stencil_data.specs.declared.functions.Extent.{Extent}
use Rattle.stencil_data.specs.declared.functions.FuncKind.{FuncKind}
use Rattle.stencil_data.specs.declared.functions.FuncKind.TheVariants as func
use Rattle.stencil_data.specs.declared.records.ClosedName.{ClosedName}
use Rattle.stencil_data.specs.declared.scopes.Binding.{Binding}
use Rattle.stencil_data.specs.declared.scopes.BindKind.{BindKind}
use Rattle.stencil_data.specs.declared.scopes.BindKind.TheVariants as bind
use Rattle.stencil_data.specs.declared.scopes.ScopeKind.{ScopeKind}
use Rattle.stencil_data.specs.declared.scopes.ScopeKind.TheVariants as scope
use Rattle.stencil_data.specs.declared.scopes.Slot.{Slot}
use Rattle.stencil_data.specs.declared.scopes.Slot.TheVariants as slot
use Rattle.stencil_data.specs.declared.stencils.Entry.{Entry}
use Rattle.stencil_data.specs.declared.stencils.Entry.TheVariants as entry
use Rattle.stencil_data.specs.declared.stencils.TryNote.{TryNote}
use Rattle.stencil_data.specs.MergedView.{MergedView}
use Rattle.stencil_data.specs.Views.{ScopeView, RecordView, FunctionView}
use Rattle.bytecode_buf.specs.declared.opcode.Op.{Op}
use Rattle.bytecode_buf.specs.declared.opcode.Op.TheVariants as op
use Rattle.bytecode_buf.specs.declared.opcode.Shape.{Shape}
use Rattle.bytecode_buf.specs.declared.opcode.Shape.TheVariants as shape
use Rattle.bytecode_buf.specs.Bytes.{le_bytes}
use Rattle.bytecode_buf.specs.Layout.{Numbered, instructions, laid, layout, IsWhole}
use Rattle.bytecode_buf.specs.Table.{number_of}
use Rattle.bytecode_buf.specs.Width.{shape_of, first_width, second_width}
use Rattle.stencil_xdr_specs.specs.Image as image
use Rattle.stencil_xdr_specs.specs.Image.{Item, Bytes, Atom, items, function_items, record_items, entry_items, scope_items, binding_items, slot_items, note_items, closed_items, code_items, instruction_items, function_kind, scope_kind, bind_kind, maybe, atom, whole, extent}
use Rattle.stencil_xdr_read.specs.Reading.{number, byte, Each, maybe_bytes, list_bytes}
use Rattle.stencil_xdr_read.specs.Parts.{extent_bytes, slot_bytes, binding_bytes, scope_bytes, note_bytes, code_bytes, function_bytes, closed_bytes, record_bytes, entry_bytes}
use Rattle.stencil_xdr_read.specs.Atoms.{name_atoms, binding_atoms, scope_atoms, operand_atoms, instruction_atoms, code_atoms, function_atoms, closed_atoms, record_atoms, entry_atoms, stencil_atoms}

-- ---- items put together

pub split3 : {B : Type 0} (g : Item → List B) (a b c : List Item) → flat_map g (a ++ b ++ c) ≡ flat_map g a ++ (flat_map g b ++ flat_map g c)
split3 g a b c = flat_map-append g (a ++ b) c ∙ (ap (λ l. l ++ flat_map g c) (flat_map-append g a b) ∙ append_assoc (flat_map g a) (flat_map g b) (flat_map g c))

pub split4 : {B : Type 0} (g : Item → List B) (a b c d : List Item) → flat_map g (a ++ b ++ c ++ d) ≡ flat_map g a ++ (flat_map g b ++ (flat_map g c ++ flat_map g d))
split4 g a b c d = split3 g (a ++ b) c d ∙ (ap (λ l. l ++ (flat_map g c ++ flat_map g d)) (flat_map-append g a b) ∙ append_assoc (flat_map g a) (flat_map g b) (flat_map g c ++ flat_map g d))

join4 : {B : Type 0} (p q r s t : List B) → (p ++ (q ++ (r ++ s))) ++ t ≡ p ++ (q ++ (r ++ (s ++ t)))
join4 p q r s t = append_assoc p (q ++ (r ++ s)) t ∙ ap (λ l. p ++ l) (append_assoc q (r ++ s) t ∙ ap (λ l. q ++ l) (append_assoc r s t))

pub split7 : {B : Type 0} (g : Item → List B) (a b c d e f h : List Item) → flat_map g (a ++ b ++ c ++ d ++ e ++ f ++ h) ≡ flat_map g a ++ (flat_map g b ++ (flat_map g c ++ (flat_map g d ++ (flat_map g e ++ (flat_map g f ++ flat_map g h)))))
split7 g a b c d e f h =
    split4 g (a ++ b ++ c ++ d) e f h
    ∙ (ap (λ l. l ++ (flat_map g e ++ (flat_map g f ++ flat_map g h))) (split4 g a b c d)
    ∙ join4 (flat_map g a) (flat_map g b) (flat_map g c) (flat_map g d) (flat_map g e ++ (flat_map g f ++ flat_map g h)))

pub flat_both : {A B C : Type 0} (g : B → List C) (f : A → List B) (h : A → List C) → ((x : A) → flat_map g (f x) ≡ h x) → (xs : List A) → flat_map g (flat_map f xs) ≡ flat_map h xs
flat_both g f h same [] = refl
flat_both g f h same (x ∷ xs) = flat_map-append g (f x) (flat_map f xs) ∙ ap₂ (λ k l. k ++ l) (same x) (flat_both g f h same xs)

pub flat_each : {A B C : Type 0} (g : B → List C) (f : A → List B) (h : A → List C) (P : A → Type 0) → ((x : A) → P x → flat_map g (f x) ≡ h x) → (xs : List A) → Each P xs → flat_map g (flat_map f xs) ≡ flat_map h xs
flat_each g f h P same [] all = refl
flat_each g f h P same (x ∷ xs) all = flat_map-append g (f x) (flat_map f xs) ∙ ap₂ (λ k l. k ++ l) (same x all.0) (flat_each g f h P same xs all.1)

-- ---- bytes

abbrev pub plain : Item → List ℕ
plain (Bytes bs) = bs
plain (Atom a) = le_bytes 4 a

plain_list : {A : Type 0} (f : A → List Item) (h : A → List ℕ) → ((x : A) → flat_map plain (f x) ≡ h x) → (xs : List A) → flat_map plain (image.list f xs) ≡ list_bytes h xs
plain_list f h same xs = ap (λ l. le_bytes 4 (length xs) ++ l) (flat_both plain f h same xs)

plain_extent : (e : Extent) → flat_map plain (extent e) ≡ extent_bytes e
plain_extent e = refl

plain_whole : (n : ℕ) → flat_map plain (whole n) ≡ number 4 n
plain_whole n = refl

plain_name : (o : Option ℕ) → flat_map plain (maybe atom o) ≡ maybe_bytes (number 4) o
plain_name None = refl
plain_name (Some a) = refl

plain_parent : (o : Option ℕ) → flat_map plain (maybe whole o) ≡ maybe_bytes (number 4) o
plain_parent None = refl
plain_parent (Some a) = refl

plain_function_kind : (k : FuncKind) → le_bytes 1 (function_kind k) ≡ byte (function_kind k)
plain_function_kind func.Declared = refl
plain_function_kind _ = refl

plain_scope_kind : (k : ScopeKind) → le_bytes 1 (scope_kind k) ≡ byte (scope_kind k)
plain_scope_kind scope.Global = refl
plain_scope_kind _ = refl

plain_bind_kind : (k : BindKind) → le_bytes 1 (bind_kind k) ≡ byte (bind_kind k)
plain_bind_kind bind.Param = refl
plain_bind_kind _ = refl

plain_slot : (s : Slot) → flat_map plain (slot_items s) ≡ slot_bytes s
plain_slot slot.Global = refl
plain_slot (slot.Arg i) = refl
plain_slot (slot.Frame i) = refl
plain_slot (slot.Env i) = refl
plain_slot slot.Callee = refl

plain_binding : (b : Binding) → flat_map plain (binding_items b) ≡ binding_bytes b
plain_binding b = ap₂ (λ k l. le_bytes 4 b.atom ++ (k ++ l)) (plain_bind_kind b.kind) (plain_slot b.slot)

plain_scope : (s : ScopeView) → flat_map plain (scope_items s) ≡ scope_bytes s
plain_scope s =
    split3 plain (image.number 1 (scope_kind s.kind) ∷ maybe whole s.parent) (image.list binding_items s.bindings) (whole s.env_slots)
    ∙ (append_assoc (le_bytes 1 (scope_kind s.kind)) (flat_map plain (maybe whole s.parent)) _
    ∙ ap₂ (λ k l. k ++ l) (plain_scope_kind s.kind) (ap₂ (λ k l. k ++ (l ++ number 4 s.env_slots)) (plain_parent s.parent) (plain_list binding_items binding_bytes plain_binding s.bindings)))

plain_note : (n : TryNote) → flat_map plain (note_items n) ≡ note_bytes n
plain_note n = refl

pub small_number : (o : Op) → number_of o % 256 ≡ number_of o
small_number op.Undefined = refl
small_number _ = refl

plain_instruction : (s : Shape) (i : Numbered) → shape_of i.op ≡ s → flat_map plain (instruction_items s i) ≡ laid i
plain_instruction shape.Atom i e = ap₂ (λ k l. k ∷ l) (small_number i.op) (sym (ap (λ (s : Shape). le_bytes (first_width s) i.a ++ le_bytes (second_width s) i.b) e))
plain_instruction _ i e = append-nil (laid i)

plain_layout : (is : List Numbered) → flat_map plain (flat_map (λ (i : Numbered). instruction_items (shape_of i.op) i) is) ≡ layout is
plain_layout [] = refl
plain_layout (i ∷ is) = flat_map-append plain (instruction_items (shape_of i.op) i) (flat_map (λ (j : Numbered). instruction_items (shape_of j.op) j) is) ∙ ap₂ (λ k l. k ++ l) (plain_instruction (shape_of i.op) i refl) (plain_layout is)

plain_code : (code : List ℕ) → IsWhole code → flat_map plain (code_items code) ≡ code_bytes code
plain_code code is_whole = ap (λ l. le_bytes 8 (length code) ++ l) (plain_layout (instructions code) ∙ is_whole)

pub plain_function : (f : FunctionView) → IsWhole f.code → flat_map plain (function_items f) ≡ function_bytes f
plain_function f is_whole =
    split7 plain (extent f.extent) (image.number 1 (function_kind f.kind) ∷ maybe atom f.name) (whole f.params) (image.list scope_items f.scopes) (code_items f.code) (image.list note_items f.notes) (image.list extent f.inner)
    ∙ joined (flat_map plain (extent f.extent)) (le_bytes 1 (function_kind f.kind)) _ (flat_map plain (maybe atom f.name)) _ (flat_map plain (whole f.params)) (flat_map plain (image.list scope_items f.scopes)) _ (flat_map plain (code_items f.code)) _ (flat_map plain (image.list note_items f.notes)) _ (flat_map plain (image.list extent f.inner)) _
    (plain_function_kind f.kind) (plain_name f.name) (plain_list scope_items scope_bytes plain_scope f.scopes) (plain_code f.code is_whole) (plain_list note_items note_bytes plain_note f.notes) (plain_list extent extent_bytes plain_extent f.inner)
  where
    joined : (a b b' c c' d e e' f f' g g' h h' : List ℕ) → b ≡ b' → c ≡ c' → e ≡ e' → f ≡ f' → g ≡ g' → h ≡ h'
        → a ++ ((b ++ c) ++ (d ++ (e ++ (f ++ (g ++ h))))) ≡ (a ++ (b' ++ (c' ++ d))) ++ (e' ++ (f' ++ (g' ++ h')))
    joined a b b' c c' d e e' f f' g g' h h' pb pc pe pf pg ph =
        ap₂ (λ k l. a ++ (k ++ l)) (ap₂ (λ k l. k ++ l) pb pc) (ap₂ (λ k l. d ++ (k ++ l)) pe (ap₂ (λ k l. k ++ l) pf (ap₂ (λ k l. k ++ l) pg ph)))
        ∙ (ap (λ l. a ++ l) (append_assoc b' c' (d ++ (e' ++ (f' ++ (g' ++ h')))) ∙ ap (λ l. b' ++ l) (sym (append_assoc c' d (e' ++ (f' ++ (g' ++ h')))))
        ∙ sym (append_assoc b' (c' ++ d) (e' ++ (f' ++ (g' ++ h')))))
        ∙ sym (append_assoc a (b' ++ (c' ++ d)) (e' ++ (f' ++ (g' ++ h')))))

plain_closed : (c : ClosedName) → flat_map plain (closed_items c) ≡ closed_bytes c
plain_closed c = refl

pub plain_record : (r : RecordView) → flat_map plain (record_items r) ≡ record_bytes r
plain_record r =
    split4 plain (extent r.extent) (image.number 1 (function_kind r.kind) ∷ maybe atom r.name) (image.list whole r.inner) (image.list closed_items r.closed)
    ∙ (ap₂ (λ k l. extent_bytes r.extent ++ (k ++ l)) (ap₂ (λ k l. k ++ l) (plain_function_kind r.kind) (plain_name r.name)) (ap₂ (λ k l. k ++ l) (plain_list whole (number 4) plain_whole r.inner) (plain_list closed_items closed_bytes plain_closed r.closed))
    ∙ sym (append_assoc (extent_bytes r.extent) (byte (function_kind r.kind) ++ maybe_bytes (number 4) r.name) (list_bytes (number 4) r.inner ++ list_bytes closed_bytes r.closed)))

abbrev pub WholeEntry : Entry → Type 0
WholeEntry entry.Lazy = Unit {0}
WholeEntry (entry.Compiled f) = IsWhole f.code

pub plain_entry : (e : Entry) → WholeEntry e → flat_map plain (entry_items e) ≡ entry_bytes e
plain_entry entry.Lazy h = refl
plain_entry (entry.Compiled f) h = ap (λ l. 1 ∷ l) (plain_function f h)

-- the parts after the texts
abbrev pub rest_bytes : MergedView → List ℕ
rest_bytes m = function_bytes m.top ++ (list_bytes record_bytes m.records ++ flat_map entry_bytes m.entries)

pub plain_items : (m : MergedView) → IsWhole m.top.code → Each WholeEntry m.entries → flat_map plain (items m) ≡ rest_bytes m
plain_items m top entries =
    split3 plain (function_items m.top) (image.list record_items m.records) (flat_map entry_items m.entries)
    ∙ ap₂ (λ k l. k ++ l) (plain_function m.top top) (ap₂ (λ k l. k ++ l) (plain_list record_items record_bytes plain_record m.records) (flat_each plain entry_items entry_bytes WholeEntry plain_entry m.entries entries))

-- ---- atoms

abbrev pub atom_of : Item → List ℕ
atom_of (Bytes bs) = []
atom_of (Atom a) = a ∷ []

no_atoms : {A : Type 0} (f : A → List Item) → ((x : A) → flat_map atom_of (f x) ≡ []) → (xs : List A) → flat_map atom_of (flat_map f xs) ≡ []
no_atoms f none [] = refl
no_atoms f none (x ∷ xs) = flat_map-append atom_of (f x) (flat_map f xs) ∙ ap₂ (λ k l. k ++ l) (none x) (no_atoms f none xs)

atoms_name : (o : Option ℕ) → flat_map atom_of (maybe atom o) ≡ name_atoms o
atoms_name None = refl
atoms_name (Some a) = refl

atoms_parent : (o : Option ℕ) → flat_map atom_of (maybe whole o) ≡ []
atoms_parent None = refl
atoms_parent (Some a) = refl

atoms_slot : (s : Slot) → flat_map atom_of (slot_items s) ≡ []
atoms_slot slot.Global = refl
atoms_slot _ = refl

atoms_binding : (b : Binding) → flat_map atom_of (binding_items b) ≡ binding_atoms b
atoms_binding b = ap (λ l. b.atom ∷ l) (atoms_slot b.slot)

atoms_scope : (s : ScopeView) → flat_map atom_of (scope_items s) ≡ scope_atoms s
atoms_scope s =
    split3 atom_of (image.number 1 (scope_kind s.kind) ∷ maybe whole s.parent) (image.list binding_items s.bindings) (whole s.env_slots)
    ∙ (ap₂ (λ k l. k ++ (l ++ [])) (atoms_parent s.parent) (flat_both atom_of binding_items binding_atoms atoms_binding s.bindings) ∙ append-nil (scope_atoms s))

atoms_instruction : (s : Shape) (i : Numbered) → flat_map atom_of (instruction_items s i) ≡ operand_atoms s i.a
atoms_instruction shape.Atom i = refl
atoms_instruction _ i = refl

atoms_code : (code : List ℕ) → flat_map atom_of (code_items code) ≡ code_atoms code
atoms_code code = flat_both atom_of (λ (i : Numbered). instruction_items (shape_of i.op) i) instruction_atoms (λ i. atoms_instruction (shape_of i.op) i) (instructions code)

pub atoms_function : (f : FunctionView) → flat_map atom_of (function_items f) ≡ function_atoms f
atoms_function f =
    split7 atom_of (extent f.extent) (image.number 1 (function_kind f.kind) ∷ maybe atom f.name) (whole f.params) (image.list scope_items f.scopes) (code_items f.code) (image.list note_items f.notes) (image.list extent f.inner)
    ∙ ap₂ (λ k l. k ++ l) (atoms_name f.name) (ap₂ (λ k l. k ++ l) (flat_both atom_of scope_items scope_atoms atoms_scope f.scopes)
    (ap₂ (λ k l. k ++ l) (atoms_code f.code) (ap₂ (λ k l. k ++ l) (no_atoms note_items (λ n. refl) f.notes) (no_atoms extent (λ e. refl) f.inner)) ∙ append-nil (code_atoms f.code)))

pub atoms_record : (r : RecordView) → flat_map atom_of (record_items r) ≡ record_atoms r
atoms_record r =
    split4 atom_of (extent r.extent) (image.number 1 (function_kind r.kind) ∷ maybe atom r.name) (image.list whole r.inner) (image.list closed_items r.closed)
    ∙ ap₂ (λ k l. k ++ l) (atoms_name r.name) (ap₂ (λ k l. k ++ l) (no_atoms whole (λ n. refl) r.inner) (flat_both atom_of closed_items closed_atoms (λ c. refl) r.closed))

pub atoms_entry : (e : Entry) → flat_map atom_of (entry_items e) ≡ entry_atoms e
atoms_entry entry.Lazy = refl
atoms_entry (entry.Compiled f) = atoms_function f

pub atoms_items : (m : MergedView) → flat_map atom_of (items m) ≡ stencil_atoms m
atoms_items m =
    split3 atom_of (function_items m.top) (image.list record_items m.records) (flat_map entry_items m.entries)
    ∙ ap₂ (λ k l. k ++ l) (atoms_function m.top) (ap₂ (λ k l. k ++ l) (flat_both atom_of record_items record_atoms atoms_record m.records) (flat_both atom_of entry_items entry_atoms atoms_entry m.entries))
