-- A stencil whose texts are numbered anew.
use Rattle.std.proofs.Common.{◌≡◌, ℕ, zero, suc, ◌+◌, ◌^◌, ◌<◌, Bool, true, false, List, [], ◌∷◌, ◌++◌, length, map, flat_map, drop, Option, Some, None, option_map, refl, sym, ◌∙◌, ap, ap₂, subst, arith, nat_le, if◌then◌else◌, length-append}
use Rattle.std.proofs.lemmas.List.{map-append, length-map}
use Rattle.stencil_data.specs.declared.records.ClosedName.{ClosedName}
use Rattle.stencil_data.specs.declared.scopes.Binding.{Binding}
use Rattle.stencil_data.specs.declared.scopes.Slot.{Slot}
use Rattle.stencil_data.specs.declared.scopes.Slot.TheVariants as slot
use Rattle.stencil_data.specs.declared.stencils.Entry.{Entry}
use Rattle.stencil_data.specs.declared.stencils.Entry.TheVariants as entry
use Rattle.stencil_data.specs.MergedView.{MergedView}
use Rattle.stencil_data.specs.Views.{ScopeView, RecordView, FunctionView}
use Rattle.bytecode_buf.specs.declared.opcode.Op.{Op}
use Rattle.bytecode_buf.specs.declared.opcode.Shape.{Shape}
use Rattle.bytecode_buf.specs.declared.opcode.Shape.TheVariants as shape
use Rattle.bytecode_buf.specs.Bytes.{le_bytes}
use Rattle.bytecode_buf.specs.Layout.{Numbered, Fits, AllFit, instructions, instructions_within, decoded, decoded_as, read_as, followed, laid, layout, IsWhole}
use Rattle.bytecode_buf.specs.Table.{op_at, number_of}
use Rattle.bytecode_buf.specs.Width.{shape_of, width_of, first_of, second_of, first_width}
use Rattle.bytecode_buf.proofs.ReadBack.{layout_is_read_back, length-laid, instructions_within-none, instructions_within-more}
use Rattle.stencil_xdr_specs.specs.Image as image
use Rattle.stencil_xdr_specs.specs.Image.{Item, Bytes, Atom, items, function_items, record_items, entry_items, scope_items, binding_items, slot_items, note_items, closed_items, code_items, instruction_items, function_kind, scope_kind, bind_kind, maybe, atom, whole, extent}
use Rattle.stencil_xdr_read.specs.Reading.{Each}
use Rattle.stencil_xdr_read.proofs.CodeLoop.{AreBytes, AreBytes-drop, le_value_small}
use Rattle.stencil_xdr_read.proofs.Items.{WholeEntry, small_number}

-- ---- the instructions of whole code fit

bytes_of_number : (w n : ℕ) → AreBytes (le_bytes w n)
bytes_of_number zero n k = omega arith
bytes_of_number (suc w) n zero = omega arith
bytes_of_number (suc w) n (suc k) = bytes_of_number w _ k

bytes_both : (xs ys : List ℕ) → AreBytes xs → AreBytes ys → AreBytes (xs ++ ys)
bytes_both [] ys f g k = g k
bytes_both (x ∷ xs) ys f g zero = f zero
bytes_both (x ∷ xs) ys f g (suc k) = bytes_both xs ys (λ j. f (suc j)) g k

bytes_first : (b : ℕ) (bs : List ℕ) → b < 256 → AreBytes bs → AreBytes (b ∷ bs)
bytes_first b bs h f zero = h
bytes_first b bs h f (suc k) = f k

bytes_laid : (i : Numbered) → AreBytes (laid i)
bytes_laid i = bytes_first (number_of i.op) (le_bytes (first_of i.op) i.a ++ le_bytes (second_of i.op) i.b) (let e = small_number i.op in omega arith)
    (bytes_both (le_bytes (first_of i.op) i.a) (le_bytes (second_of i.op) i.b) (bytes_of_number (first_of i.op) i.a) (bytes_of_number (second_of i.op) i.b))

bytes_layout : (is : List Numbered) → AreBytes (layout is)
bytes_layout [] = λ k. omega arith
bytes_layout (i ∷ is) = bytes_both (laid i) (layout is) (bytes_laid i) (bytes_layout is)

fits_by : (o : Op) (rest : List ℕ) (i : Numbered) (b : Bool) → AreBytes rest → ◌≡◌ {A = Option Numbered} (if b then Some (read_as o rest) else None) (Some i) → Fits i
fits_by o rest i true are is = let e : read_as o rest ≡ i = cc in subst Fits e (record { first = le_value_small (first_of o) rest are; second = le_value_small (second_of o) (drop (first_of o) rest) (AreBytes-drop (first_of o) rest are) })
fits_by o rest i false are is = absurd (cc)

fits_as : (d : Option Op) (rest : List ℕ) (i : Numbered) → AreBytes rest → decoded_as d rest ≡ Some i → Fits i
fits_as None rest i are is = absurd (cc)
fits_as (Some o) rest i are is = fits_by o rest i (nat_le (first_of o + second_of o) (length rest)) are is

decoded_fits_both : (code : List ℕ) (i : Numbered) → AreBytes code → decoded code ≡ Some i → Fits i
decoded_fits_both [] i are is = absurd (cc)
decoded_fits_both (b ∷ rest) i are is = fits_as (op_at b) rest i (λ k. are (suc k)) is

followed_fit : (d : Option Numbered) (behind : Numbered → List Numbered) → ((i : Numbered) → d ≡ Some i → Fits i × AllFit (behind i)) → AllFit (followed d behind)
followed_fit None behind h = tt
followed_fit (Some i) behind h = h i refl

within_fit : (n : ℕ) (code : List ℕ) → AreBytes code → AllFit (instructions_within n code)
within_fit zero code are = subst AllFit (sym (instructions_within-none code)) tt
within_fit (suc n) code are = subst AllFit (sym (instructions_within-more n code))
    (followed_fit (decoded code) (λ i. instructions_within n (drop (width_of i.op) code)) (λ i is. (decoded_fits_both code i are is, within_fit n (drop (width_of i.op) code) (AreBytes-drop (width_of i.op) code are))))

pub whole_fit : (code : List ℕ) → IsWhole code → AllFit (instructions code)
whole_fit code h = within_fit (length code) code (subst AreBytes h (bytes_layout (instructions code)))

-- ---- anew

abbrev pub renamed_binding : (ℕ → ℕ) → Binding → Binding
renamed_binding N b = record { atom = N b.atom; kind = b.kind; slot = b.slot }

abbrev pub renamed_scope : (ℕ → ℕ) → ScopeView → ScopeView
renamed_scope N s = record { kind = s.kind; parent = s.parent; bindings = map (renamed_binding N) s.bindings; env_slots = s.env_slots }

abbrev pub renamed_by : Shape → (ℕ → ℕ) → Numbered → Numbered
renamed_by shape.Atom N i = record { op = i.op; a = N i.a; b = i.b }
renamed_by _ N i = i

abbrev pub renamed_instruction : (ℕ → ℕ) → Numbered → Numbered
renamed_instruction N i = renamed_by (shape_of i.op) N i

abbrev pub renamed_code : (ℕ → ℕ) → List ℕ → List ℕ
renamed_code N code = layout (map (renamed_instruction N) (instructions code))

abbrev pub renamed_function : (ℕ → ℕ) → FunctionView → FunctionView
renamed_function N f = record { extent = f.extent; kind = f.kind; name = option_map N f.name; params = f.params; scopes = map (renamed_scope N) f.scopes; code = renamed_code N f.code; notes = f.notes; inner = f.inner }

abbrev pub renamed_closed : (ℕ → ℕ) → ClosedName → ClosedName
renamed_closed N c = record { scope = c.scope; atom = N c.atom }

abbrev pub renamed_record : (ℕ → ℕ) → RecordView → RecordView
renamed_record N r = record { extent = r.extent; kind = r.kind; name = option_map N r.name; inner = r.inner; closed = map (renamed_closed N) r.closed }

abbrev pub renamed_entry : (ℕ → ℕ) → Entry → Entry
renamed_entry N entry.Lazy = entry.Lazy
renamed_entry N (entry.Compiled f) = entry.Compiled (renamed_function N f)

abbrev pub renamed : (ℕ → ℕ) → List (List ℕ) → MergedView → MergedView
renamed N texts m = record { texts = texts; top = renamed_function N m.top; records = map (renamed_record N) m.records; entries = map (renamed_entry N) m.entries }

abbrev pub renamed_item : (ℕ → ℕ) → Item → Item
renamed_item N (Bytes bs) = Bytes bs
renamed_item N (Atom a) = Atom (N a)

-- new numbers have four bytes
abbrev pub AreSmall : (ℕ → ℕ) → Type 0
AreSmall N = (a : ℕ) → N a < 2 ^ 32

-- ---- code

same_op : (N : ℕ → ℕ) (s : Shape) (i : Numbered) → (renamed_by s N i).op ≡ i.op
same_op N shape.Atom i = refl
same_op N _ i = refl

renamed_fits : (N : ℕ → ℕ) (s : Shape) (i : Numbered) → AreSmall N → shape_of i.op ≡ s → Fits i → Fits (renamed_by s N i)
renamed_fits N shape.Atom i small e f = record { first = subst (λ (s : Shape). N i.a < 256 ^ first_width s) (sym e) (small i.a); second = f.second }
renamed_fits N _ i small e f = f

renamed_all : (N : ℕ → ℕ) (is : List Numbered) → AreSmall N → AllFit is → AllFit (map (renamed_instruction N) is)
renamed_all N [] small f = tt
renamed_all N (i ∷ is) small f = (renamed_fits N (shape_of i.op) i small refl f.0, renamed_all N is small f.1)

pub renamed_instructions : (N : ℕ → ℕ) (code : List ℕ) → AreSmall N → IsWhole code → instructions (renamed_code N code) ≡ map (renamed_instruction N) (instructions code)
renamed_instructions N code small h = layout_is_read_back (map (renamed_instruction N) (instructions code)) (renamed_all N (instructions code) small (whole_fit code h))

pub renamed_whole : (N : ℕ → ℕ) (code : List ℕ) → AreSmall N → IsWhole code → IsWhole (renamed_code N code)
renamed_whole N code small h = ap layout (renamed_instructions N code small h)

renamed_length : (N : ℕ → ℕ) (is : List Numbered) → length (layout (map (renamed_instruction N) is)) ≡ length (layout is)
renamed_length N [] = refl
renamed_length N (i ∷ is) =
    length-append (laid (renamed_instruction N i)) (layout (map (renamed_instruction N) is))
    ∙ (ap₂ (λ (x : ℕ) (y : ℕ). x + y) (length-laid (renamed_instruction N i) ∙ (ap width_of (same_op N (shape_of i.op) i) ∙ sym (length-laid i))) (renamed_length N is)
    ∙ sym (length-append (laid i) (layout is)))

pub length_renamed : (N : ℕ → ℕ) (code : List ℕ) → IsWhole code → length (renamed_code N code) ≡ length code
length_renamed N code h = renamed_length N (instructions code) ∙ ap length h

-- ---- items put together

map3 : (g : Item → Item) (a b c : List Item) → map g (a ++ b ++ c) ≡ map g a ++ map g b ++ map g c
map3 g a b c = map-append g (a ++ b) c ∙ ap (λ l. l ++ map g c) (map-append g a b)

map4 : (g : Item → Item) (a b c d : List Item) → map g (a ++ b ++ c ++ d) ≡ map g a ++ map g b ++ map g c ++ map g d
map4 g a b c d = map-append g (a ++ b ++ c) d ∙ ap (λ l. l ++ map g d) (map3 g a b c)

map7 : (g : Item → Item) (a b c d e f h : List Item) → map g (a ++ b ++ c ++ d ++ e ++ f ++ h) ≡ map g a ++ map g b ++ map g c ++ map g d ++ map g e ++ map g f ++ map g h
map7 g a b c d e f h = map4 g (a ++ b ++ c ++ d) e f h ∙ ap (λ l. l ++ map g e ++ map g f ++ map g h) (map4 g a b c d)

map_flat : {A : Type 0} (g : Item → Item) (f : A → List Item) (ren : A → A) → ((x : A) → map g (f x) ≡ f (ren x)) → (xs : List A) → map g (flat_map f xs) ≡ flat_map f (map ren xs)
map_flat g f ren same [] = refl
map_flat g f ren same (x ∷ xs) = map-append g (f x) (flat_map f xs) ∙ ap₂ (λ k l. k ++ l) (same x) (map_flat g f ren same xs)

map_each : {A : Type 0} (g : Item → Item) (f : A → List Item) (ren : A → A) (P : A → Type 0) → ((x : A) → P x → map g (f x) ≡ f (ren x)) → (xs : List A) → Each P xs → map g (flat_map f xs) ≡ flat_map f (map ren xs)
map_each g f ren P same [] all = refl
map_each g f ren P same (x ∷ xs) all = map-append g (f x) (flat_map f xs) ∙ ap₂ (λ k l. k ++ l) (same x all.0) (map_each g f ren P same xs all.1)

map_same : {A : Type 0} (g : Item → Item) (f : A → List Item) → ((x : A) → map g (f x) ≡ f x) → (xs : List A) → map g (flat_map f xs) ≡ flat_map f xs
map_same g f same [] = refl
map_same g f same (x ∷ xs) = map-append g (f x) (flat_map f xs) ∙ ap₂ (λ k l. k ++ l) (same x) (map_same g f same xs)

map_list : {A : Type 0} (g : ℕ → ℕ) (f : A → List Item) (ren : A → A) → ((x : A) → map (renamed_item g) (f x) ≡ f (ren x)) → (xs : List A) → map (renamed_item g) (image.list f xs) ≡ image.list f (map ren xs)
map_list g f ren same xs = ap₂ (λ n l. image.number 4 n ∷ l) (sym (length-map xs ren)) (map_flat (renamed_item g) f ren same xs)

-- ---- items anew

name_anew : (N : ℕ → ℕ) (o : Option ℕ) → map (renamed_item N) (maybe atom o) ≡ maybe atom (option_map N o)
name_anew N None = refl
name_anew N (Some a) = refl

parent_anew : (N : ℕ → ℕ) (o : Option ℕ) → map (renamed_item N) (maybe whole o) ≡ maybe whole o
parent_anew N None = refl
parent_anew N (Some a) = refl

slot_anew : (N : ℕ → ℕ) (s : Slot) → map (renamed_item N) (slot_items s) ≡ slot_items s
slot_anew N slot.Global = refl
slot_anew N _ = refl

binding_anew : (N : ℕ → ℕ) (b : Binding) → map (renamed_item N) (binding_items b) ≡ binding_items (renamed_binding N b)
binding_anew N b = ap (λ (l : List Item). Atom (N b.atom) ∷ image.number 1 (bind_kind b.kind) ∷ l) (slot_anew N b.slot)

scope_anew : (N : ℕ → ℕ) (s : ScopeView) → map (renamed_item N) (scope_items s) ≡ scope_items (renamed_scope N s)
scope_anew N s =
    map3 (renamed_item N) (image.number 1 (scope_kind s.kind) ∷ maybe whole s.parent) (image.list binding_items s.bindings) (whole s.env_slots)
    ∙ ap₂ (λ k l. (image.number 1 (scope_kind s.kind) ∷ k) ++ l ++ whole s.env_slots) (parent_anew N s.parent) (map_list N binding_items (renamed_binding N) (binding_anew N) s.bindings)

instruction_anew : (N : ℕ → ℕ) (s : Shape) (i : Numbered) → shape_of i.op ≡ s → map (renamed_item N) (instruction_items s i) ≡ instruction_items (shape_of (renamed_by s N i).op) (renamed_by s N i)
instruction_anew N shape.Atom i e = ap (λ (s : Shape). instruction_items s (record { op = i.op; a = N i.a; b = i.b })) (sym e)
instruction_anew N _ i e = ap (λ (s : Shape). instruction_items s i) (sym e)

code_anew : (N : ℕ → ℕ) (code : List ℕ) → AreSmall N → IsWhole code → map (renamed_item N) (code_items code) ≡ code_items (renamed_code N code)
code_anew N code small h =
    ap₂ (λ n l. image.number 8 n ∷ l) (sym (length_renamed N code h))
    (map_flat (renamed_item N) (λ (i : Numbered). instruction_items (shape_of i.op) i) (renamed_instruction N) (λ i. instruction_anew N (shape_of i.op) i refl) (instructions code)
    ∙ ap (flat_map (λ (i : Numbered). instruction_items (shape_of i.op) i)) (sym (renamed_instructions N code small h)))

function_anew : (N : ℕ → ℕ) (f : FunctionView) → AreSmall N → IsWhole f.code → map (renamed_item N) (function_items f) ≡ function_items (renamed_function N f)
function_anew N f small h =
    map7 (renamed_item N) (extent f.extent) (image.number 1 (function_kind f.kind) ∷ maybe atom f.name) (whole f.params) (image.list scope_items f.scopes) (code_items f.code) (image.list note_items f.notes) (image.list extent f.inner)
    ∙ (ap₂ (λ k l. extent f.extent ++ (image.number 1 (function_kind f.kind) ∷ k) ++ whole f.params ++ l ++ map (renamed_item N) (code_items f.code) ++ map (renamed_item N) (image.list note_items f.notes) ++ map (renamed_item N) (image.list extent f.inner)) (name_anew N f.name) (map_list N scope_items (renamed_scope N) (scope_anew N) f.scopes)
    ∙ (ap (λ l. extent f.extent ++ (image.number 1 (function_kind f.kind) ∷ maybe atom (option_map N f.name)) ++ whole f.params ++ image.list scope_items (map (renamed_scope N) f.scopes) ++ l ++ map (renamed_item N) (image.list note_items f.notes) ++ map (renamed_item N) (image.list extent f.inner)) (code_anew N f.code small h)
    ∙ ap₂ (λ k l. extent f.extent ++ (image.number 1 (function_kind f.kind) ∷ maybe atom (option_map N f.name)) ++ whole f.params ++ image.list scope_items (map (renamed_scope N) f.scopes) ++ code_items (renamed_code N f.code) ++ (image.number 4 (length f.notes) ∷ k) ++ (image.number 4 (length f.inner) ∷ l)) (map_same (renamed_item N) note_items (λ n. refl) f.notes) (map_same (renamed_item N) extent (λ e. refl) f.inner)))

closed_anew : (N : ℕ → ℕ) (c : ClosedName) → map (renamed_item N) (closed_items c) ≡ closed_items (renamed_closed N c)
closed_anew N c = refl

record_anew : (N : ℕ → ℕ) (r : RecordView) → map (renamed_item N) (record_items r) ≡ record_items (renamed_record N r)
record_anew N r =
    map4 (renamed_item N) (extent r.extent) (image.number 1 (function_kind r.kind) ∷ maybe atom r.name) (image.list whole r.inner) (image.list closed_items r.closed)
    ∙ (ap₂ (λ k l. extent r.extent ++ (image.number 1 (function_kind r.kind) ∷ k) ++ (image.number 4 (length r.inner) ∷ l) ++ map (renamed_item N) (image.list closed_items r.closed)) (name_anew N r.name) (map_same (renamed_item N) whole (λ n. refl) r.inner)
    ∙ ap (λ l. extent r.extent ++ (image.number 1 (function_kind r.kind) ∷ maybe atom (option_map N r.name)) ++ image.list whole r.inner ++ l) (map_list N closed_items (renamed_closed N) (closed_anew N) r.closed))

entry_anew : (N : ℕ → ℕ) → AreSmall N → (e : Entry) → WholeEntry e → map (renamed_item N) (entry_items e) ≡ entry_items (renamed_entry N e)
entry_anew N small entry.Lazy h = refl
entry_anew N small (entry.Compiled f) h = ap (λ l. image.number 1 1 ∷ l) (function_anew N f small h)

pub items_anew : (N : ℕ → ℕ) (texts : List (List ℕ)) (m : MergedView) → AreSmall N → IsWhole m.top.code → Each WholeEntry m.entries → map (renamed_item N) (items m) ≡ items (renamed N texts m)
items_anew N texts m small top entries =
    map3 (renamed_item N) (function_items m.top) (image.list record_items m.records) (flat_map entry_items m.entries)
    ∙ (ap₂ (λ k l. k ++ l ++ map (renamed_item N) (flat_map entry_items m.entries)) (function_anew N m.top small top) (map_list N record_items (renamed_record N) (record_anew N) m.records)
    ∙ ap (λ l. function_items (renamed_function N m.top) ++ image.list record_items (map (renamed_record N) m.records) ++ l) (map_each (renamed_item N) entry_items (renamed_entry N) WholeEntry (entry_anew N small) m.entries entries))
