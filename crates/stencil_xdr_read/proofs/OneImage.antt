-- Two stencils with one image stand for the same values.
use Rattle.std.proofs.Common.{◌≡◌, ℕ, ◌+◌, List, [], ◌∷◌, ◌++◌, length, map, flat_map, true, Option, Some, None, option_map, refl, sym, ◌∙◌, ap, ap₂, subst}
use Rattle.std.proofs.lemmas.List.{length-map}
use Rattle.stencil_data.specs.declared.chains.LinkName.{LinkName}
use Rattle.stencil_data.specs.declared.records.ClosedName.{ClosedName}
use Rattle.stencil_data.specs.declared.scopes.Binding.{Binding}
use Rattle.stencil_data.specs.declared.stencils.Entry.{Entry}
use Rattle.stencil_data.specs.declared.stencils.Entry.TheVariants as entry
use Rattle.stencil_data.specs.MergedView.{MergedView}
use Rattle.stencil_data.specs.Named.{NamedScope, NamedFunction, NamedClosed, NamedRecord, NamedMerged}
use Rattle.stencil_data.specs.StandsFor.{text_at, named_binding, named_scope, named_closed, named_record, FunctionStandsFor, EntriesStandFor, MergedStandsFor}
use Rattle.stencil_data.specs.Views.{ScopeView, RecordView, FunctionView}
use Rattle.bytecode_buf.specs.declared.opcode.Shape.{Shape}
use Rattle.bytecode_buf.specs.declared.opcode.Shape.TheVariants as shape
use Rattle.bytecode_buf.specs.Command.{Command, Listed, Operand, Text, operand_of, command_of, command_at, listed_from, listed}
use Rattle.bytecode_buf.specs.InRange.{FunctionInRange, EntriesInRange, InRange}
use Rattle.bytecode_buf.specs.Layout.{Numbered, instructions, IsWhole}
use Rattle.bytecode_buf.specs.Width.{shape_of, width_of}
use Rattle.stencil_xdr_specs.specs.Image.{items, named, IsImageOf}
use Rattle.stencil_xdr_read.specs.Reading.{Each}
use Rattle.stencil_xdr_read.specs.ReadBack.{ShowsList, StandAlike}
use Rattle.stencil_xdr_read.specs.Atoms.{name_atoms, binding_atoms, scope_atoms, operand_atoms, instruction_atoms, code_atoms, function_atoms, closed_atoms, record_atoms, entry_atoms, stencil_atoms}
use Rattle.stencil_xdr_read.specs.UniqueWhole.{unique_stencils}
use Rattle.stencil_xdr_read.proofs.Firsts.{has, place_found, each_first, seen_below}
use Rattle.stencil_xdr_read.proofs.Renamed.{AreSmall, renamed_binding, renamed_scope, renamed_by, renamed_instruction, renamed_code, renamed_function, renamed_closed, renamed_record, renamed_entry, renamed_instructions}
use Rattle.stencil_xdr_read.proofs.Ranges.{each_front, each_back, in_range}
use Rattle.stencil_xdr_read.proofs.Anew.{width_anew}
use Rattle.stencil_xdr_read.proofs.Complete.{order_of, anew, canonical_of, anew_small, named_texts, canonical_fits, canonical_bytes, is_canonical}

-- the new numbers name the same texts
abbrev Alike : List (List ℕ) → List (List ℕ) → (ℕ → ℕ) → ℕ → Type 0
Alike texts order N a = text_at order (N a) ≡ text_at texts a

-- ---- parts

name_alike : (texts order : List (List ℕ)) (N : ℕ → ℕ) (o : Option ℕ) → Each (Alike texts order N) (name_atoms o) → option_map (text_at order) (option_map N o) ≡ option_map (text_at texts) o
name_alike texts order N None h = refl
name_alike texts order N (Some a) h = ap (λ (t : List ℕ). Some t) h.0

bindings_alike : (texts order : List (List ℕ)) (N : ℕ → ℕ) (bs : List Binding) → Each (Alike texts order N) (flat_map binding_atoms bs) → map (named_binding order) (map (renamed_binding N) bs) ≡ map (named_binding texts) bs
bindings_alike texts order N [] h = refl
bindings_alike texts order N (b ∷ bs) h = ap₂ (λ (t : List ℕ) (l : List LinkName). let n : LinkName = record { text = t; kind = b.kind; slot = b.slot } in n ∷ l) h.0 (bindings_alike texts order N bs h.1)

scopes_alike : (texts order : List (List ℕ)) (N : ℕ → ℕ) (ss : List ScopeView) → Each (Alike texts order N) (flat_map scope_atoms ss) → map (named_scope order) (map (renamed_scope N) ss) ≡ map (named_scope texts) ss
scopes_alike texts order N [] h = refl
scopes_alike texts order N (s ∷ ss) h =
    ap₂ (λ (bs : List LinkName) (l : List NamedScope). let n : NamedScope = record { kind = s.kind; parent = s.parent; bindings = bs; env_slots = s.env_slots } in n ∷ l)
    (bindings_alike texts order N s.bindings (each_front (Alike texts order N) (scope_atoms s) (flat_map scope_atoms ss) h))
    (scopes_alike texts order N ss (each_back (Alike texts order N) (scope_atoms s) (flat_map scope_atoms ss) h))

closed_alike : (texts order : List (List ℕ)) (N : ℕ → ℕ) (cs : List ClosedName) → Each (Alike texts order N) (flat_map closed_atoms cs) → map (named_closed order) (map (renamed_closed N) cs) ≡ map (named_closed texts) cs
closed_alike texts order N [] h = refl
closed_alike texts order N (c ∷ cs) h = ap₂ (λ (t : List ℕ) (l : List NamedClosed). let n : NamedClosed = record { scope = c.scope; text = t } in n ∷ l) h.0 (closed_alike texts order N cs h.1)

records_alike : (texts order : List (List ℕ)) (N : ℕ → ℕ) (rs : List RecordView) → Each (Alike texts order N) (flat_map record_atoms rs) → map (named_record order) (map (renamed_record N) rs) ≡ map (named_record texts) rs
records_alike texts order N [] h = refl
records_alike texts order N (r ∷ rs) h =
    let here = each_front (Alike texts order N) (record_atoms r) (flat_map record_atoms rs) h in
    ap₂ (λ (n : NamedRecord) (l : List NamedRecord). n ∷ l)
    (ap₂ (λ (o : Option (List ℕ)) (l : List NamedClosed). let n : NamedRecord = record { extent = r.extent; kind = r.kind; name = o; inner = r.inner; closed = l } in n)
    (name_alike texts order N r.name (each_front (Alike texts order N) (name_atoms r.name) (flat_map closed_atoms r.closed) here))
    (closed_alike texts order N r.closed (each_back (Alike texts order N) (name_atoms r.name) (flat_map closed_atoms r.closed) here)))
    (records_alike texts order N rs (each_back (Alike texts order N) (record_atoms r) (flat_map record_atoms rs) h))

command_alike : (texts order : List (List ℕ)) (N : ℕ → ℕ) (s : Shape) (i : Numbered) → shape_of i.op ≡ s → Each (Alike texts order N) (operand_atoms s i.a) → command_of order (renamed_by s N i) ≡ command_of texts i
command_alike texts order N shape.Atom i e h =
    ap (λ (o : Operand). let c : Command = record { op = i.op; operand = o } in c) (subst (λ (s : Shape). operand_of order s (N i.a) i.b ≡ operand_of texts s i.a i.b) (sym e) (ap (λ (t : List ℕ). Text t) h.0))
command_alike texts order N shape.Nothing i e h = ap (λ (o : Operand). let c : Command = record { op = i.op; operand = o } in c) (subst (λ (s : Shape). operand_of order s i.a i.b ≡ operand_of texts s i.a i.b) (sym e) refl)
command_alike texts order N _ i e h = ap (λ (o : Operand). let c : Command = record { op = i.op; operand = o } in c) (subst (λ (s : Shape). operand_of order s i.a i.b ≡ operand_of texts s i.a i.b) (sym e) refl)

listed_alike : (texts order : List (List ℕ)) (N : ℕ → ℕ) (at : ℕ) (is : List Numbered) → Each (Alike texts order N) (flat_map instruction_atoms is) → listed_from order at (map (renamed_instruction N) is) ≡ listed_from texts at is
listed_alike texts order N at [] h = refl
listed_alike texts order N at (i ∷ is) h =
    ap₂ (λ (c : Command) (l : List Listed). let x : Listed = record { at = at; command = command_at at c } in x ∷ l)
    (command_alike texts order N (shape_of i.op) i refl (each_front (Alike texts order N) (instruction_atoms i) (flat_map instruction_atoms is) h))
    (ap (λ (w : ℕ). listed_from order (at + w) (map (renamed_instruction N) is)) (width_anew N (shape_of i.op) i) ∙ listed_alike texts order N (at + width_of i.op) is (each_back (Alike texts order N) (instruction_atoms i) (flat_map instruction_atoms is) h))

code_alike : (texts order : List (List ℕ)) (N : ℕ → ℕ) (code : List ℕ) → AreSmall N → IsWhole code → Each (Alike texts order N) (code_atoms code) → listed order (renamed_code N code) ≡ listed texts code
code_alike texts order N code small h alike = ap (listed_from order 0) (renamed_instructions N code small h) ∙ listed_alike texts order N 0 (instructions code) alike

-- ---- functions

record FunctionAlike (texts order : List (List ℕ)) (N : ℕ → ℕ) (f : FunctionView) : Type 0 where
  name : option_map (text_at order) (option_map N f.name) ≡ option_map (text_at texts) f.name
  scopes : map (named_scope order) (map (renamed_scope N) f.scopes) ≡ map (named_scope texts) f.scopes
  code : listed order (renamed_code N f.code) ≡ listed texts f.code

function_alike : (texts order : List (List ℕ)) (N : ℕ → ℕ) (f : FunctionView) → AreSmall N → IsWhole f.code → Each (Alike texts order N) (function_atoms f) → FunctionAlike texts order N f
function_alike texts order N f small h alike =
    let behind = each_back (Alike texts order N) (name_atoms f.name) (flat_map scope_atoms f.scopes ++ code_atoms f.code) alike in record {
      name = name_alike texts order N f.name (each_front (Alike texts order N) (name_atoms f.name) (flat_map scope_atoms f.scopes ++ code_atoms f.code) alike);
      scopes = scopes_alike texts order N f.scopes (each_front (Alike texts order N) (flat_map scope_atoms f.scopes) (code_atoms f.code) behind);
      code = code_alike texts order N f.code small h (each_back (Alike texts order N) (flat_map scope_atoms f.scopes) (code_atoms f.code) behind);
    }

function_to : (texts order : List (List ℕ)) (N : ℕ → ℕ) (functions : ℕ) (f : FunctionView) (n : NamedFunction (List Listed)) → FunctionAlike texts order N f → FunctionInRange (length order) functions (renamed_function N f) → FunctionStandsFor ShowsList texts f n → FunctionStandsFor ShowsList order (renamed_function N f) n
function_to texts order N functions f n a r s = record {
  extent = s.extent;
  kind = s.kind;
  name_within = r.name;
  name = a.name ∙ s.name;
  params = s.params;
  scopes = record { within = r.bindings; are = a.scopes ∙ s.scopes.are };
  code = a.code ∙ s.code;
  notes = s.notes;
  inner = s.inner;
}

function_back : (texts order : List (List ℕ)) (N : ℕ → ℕ) (functions : ℕ) (f : FunctionView) (n : NamedFunction (List Listed)) → FunctionAlike texts order N f → FunctionInRange (length texts) functions f → FunctionStandsFor ShowsList order (renamed_function N f) n → FunctionStandsFor ShowsList texts f n
function_back texts order N functions f n a r s = record {
  extent = s.extent;
  kind = s.kind;
  name_within = r.name;
  name = sym a.name ∙ s.name;
  params = s.params;
  scopes = record { within = r.bindings; are = sym a.scopes ∙ s.scopes.are };
  code = sym a.code ∙ s.code;
  notes = s.notes;
  inner = s.inner;
}

-- ---- entries

entries_to : (texts order : List (List ℕ)) (N : ℕ → ℕ) (functions : ℕ) (all records others rest : List RecordView) (es : List Entry) (ns : List (Option (NamedFunction (List Listed)))) → AreSmall N → Each (Alike texts order N) (flat_map entry_atoms es)
    → EntriesInRange (length texts) functions all records es → EntriesInRange (length order) functions others rest (map (renamed_entry N) es) → EntriesStandFor ShowsList texts es ns → EntriesStandFor ShowsList order (map (renamed_entry N) es) ns
entries_to texts order N functions all records others rest [] [] small alike r q s = tt
entries_to texts order N functions all records others rest [] (n ∷ ns) small alike r q s = absurd s
entries_to texts order N functions all records others rest (e ∷ es) [] small alike r q s = absurd s
entries_to texts order N functions all [] others rest (e ∷ es) (n ∷ ns) small alike r q s = absurd r
entries_to texts order N functions all (lazy ∷ records) others [] (e ∷ es) (n ∷ ns) small alike r q s = absurd q
entries_to texts order N functions all (lazy ∷ records) others (other ∷ rest) (entry.Lazy ∷ es) (None ∷ ns) small alike r q s = (tt, entries_to texts order N functions all records others rest es ns small alike r.1 q.1 s.1)
entries_to texts order N functions all (lazy ∷ records) others (other ∷ rest) (entry.Lazy ∷ es) (Some n ∷ ns) small alike r q s = absurd s.0
entries_to texts order N functions all (lazy ∷ records) others (other ∷ rest) (entry.Compiled f ∷ es) (None ∷ ns) small alike r q s = absurd s.0
entries_to texts order N functions all (lazy ∷ records) others (other ∷ rest) (entry.Compiled f ∷ es) (Some n ∷ ns) small alike r q s = (
  function_to texts order N functions f n (function_alike texts order N f small r.0.range.code.whole (each_front (Alike texts order N) (function_atoms f) (flat_map entry_atoms es) alike)) q.0.range s.0,
  entries_to texts order N functions all records others rest es ns small (each_back (Alike texts order N) (function_atoms f) (flat_map entry_atoms es) alike) r.1 q.1 s.1,
)

entries_back : (texts order : List (List ℕ)) (N : ℕ → ℕ) (functions : ℕ) (all records : List RecordView) (es : List Entry) (ns : List (Option (NamedFunction (List Listed)))) → AreSmall N → Each (Alike texts order N) (flat_map entry_atoms es)
    → EntriesInRange (length texts) functions all records es → EntriesStandFor ShowsList order (map (renamed_entry N) es) ns → EntriesStandFor ShowsList texts es ns
entries_back texts order N functions all records [] [] small alike r s = tt
entries_back texts order N functions all records [] (n ∷ ns) small alike r s = absurd s
entries_back texts order N functions all records (e ∷ es) [] small alike r s = absurd s
entries_back texts order N functions all [] (e ∷ es) (n ∷ ns) small alike r s = absurd r
entries_back texts order N functions all (lazy ∷ records) (entry.Lazy ∷ es) (None ∷ ns) small alike r s = (tt, entries_back texts order N functions all records es ns small alike r.1 s.1)
entries_back texts order N functions all (lazy ∷ records) (entry.Lazy ∷ es) (Some n ∷ ns) small alike r s = absurd s.0
entries_back texts order N functions all (lazy ∷ records) (entry.Compiled f ∷ es) (None ∷ ns) small alike r s = absurd s.0
entries_back texts order N functions all (lazy ∷ records) (entry.Compiled f ∷ es) (Some n ∷ ns) small alike r s = (
  function_back texts order N functions f n (function_alike texts order N f small r.0.range.code.whole (each_front (Alike texts order N) (function_atoms f) (flat_map entry_atoms es) alike)) r.0.range s.0,
  entries_back texts order N functions all records es ns small (each_back (Alike texts order N) (function_atoms f) (flat_map entry_atoms es) alike) r.1 s.1,
)

-- ---- stencils

atoms_alike : (m : MergedView) (order : List (List ℕ)) (N : ℕ → ℕ) (atoms : List ℕ) → ((a : ℕ) → has order (text_at m.texts a) ≡ true → Alike m.texts order N a) → Each (λ t. has order t ≡ true) (map (text_at m.texts) atoms) → Each (Alike m.texts order N) atoms
atoms_alike m order N [] f h = tt
atoms_alike m order N (a ∷ atoms) f h = (f a h.0, atoms_alike m order N atoms f h.1)

stencil_alike : (m : MergedView) → InRange m → Each (Alike m.texts (order_of m) (anew m)) (stencil_atoms m)
stencil_alike m r = atoms_alike m (order_of m) (anew m) (stencil_atoms m) (λ a h. (place_found (order_of m) (text_at m.texts a) h).is)
    (subst (Each (λ t. has (order_of m) t ≡ true)) (named_texts m) (each_first (named m.texts (items m))))

anew_in_range : (m : MergedView) (bytes : List ℕ) → IsImageOf m bytes → InRange (canonical_of m)
anew_in_range m bytes i =
    let c = is_canonical m i.range in in_range (canonical_of m) (canonical_fits m bytes i) c.0 (seen_below 0 (length (order_of m)) (stencil_atoms (canonical_of m)) c.1)

record ThreeParts (m : MergedView) : Type 0 where
  top : Each (Alike m.texts (order_of m) (anew m)) (function_atoms m.top)
  records : Each (Alike m.texts (order_of m) (anew m)) (flat_map record_atoms m.records)
  entries : Each (Alike m.texts (order_of m) (anew m)) (flat_map entry_atoms m.entries)

three_parts : (m : MergedView) → InRange m → ThreeParts m
three_parts m r =
    let P = Alike m.texts (order_of m) (anew m) in
    let all = stencil_alike m r in
    let behind = each_back P (function_atoms m.top) (flat_map record_atoms m.records ++ flat_map entry_atoms m.entries) all in record {
      top = each_front P (function_atoms m.top) (flat_map record_atoms m.records ++ flat_map entry_atoms m.entries) all;
      records = each_front P (flat_map record_atoms m.records) (flat_map entry_atoms m.entries) behind;
      entries = each_back P (flat_map record_atoms m.records) (flat_map entry_atoms m.entries) behind;
    }

stands_to : (m : MergedView) (bytes : List ℕ) (n : NamedMerged (List Listed)) → IsImageOf m bytes → MergedStandsFor ShowsList m n → MergedStandsFor ShowsList (canonical_of m) n
stands_to m bytes n i s =
    let r = i.range in let q = anew_in_range m bytes i in let p = three_parts m r in let small = anew_small m r in record {
      top = function_to m.texts (order_of m) (anew m) (length (map (renamed_record (anew m)) m.records)) m.top n.top (function_alike m.texts (order_of m) (anew m) m.top small r.top.range.code.whole p.top) q.top.range s.top;
      records = record { within = q.atoms; are = records_alike m.texts (order_of m) (anew m) m.records p.records ∙ s.records.are };
      entries = entries_to m.texts (order_of m) (anew m) (length m.records) m.records m.records (map (renamed_record (anew m)) m.records) (map (renamed_record (anew m)) m.records) m.entries n.entries small p.entries r.entries (subst (λ (k : ℕ). EntriesInRange (length (order_of m)) k (map (renamed_record (anew m)) m.records) (map (renamed_record (anew m)) m.records) (map (renamed_entry (anew m)) m.entries)) (length-map m.records (renamed_record (anew m))) q.entries) s.entries;
    }

stands_back : (m : MergedView) (bytes : List ℕ) (n : NamedMerged (List Listed)) → IsImageOf m bytes → MergedStandsFor ShowsList (canonical_of m) n → MergedStandsFor ShowsList m n
stands_back m bytes n i s =
    let r = i.range in let p = three_parts m r in let small = anew_small m r in record {
      top = function_back m.texts (order_of m) (anew m) (length m.records) m.top n.top (function_alike m.texts (order_of m) (anew m) m.top small r.top.range.code.whole p.top) r.top.range s.top;
      records = record { within = r.atoms; are = sym (records_alike m.texts (order_of m) (anew m) m.records p.records) ∙ s.records.are };
      entries = entries_back m.texts (order_of m) (anew m) (length m.records) m.records m.records m.entries n.entries small p.entries r.entries s.entries;
    }

-- two stencils with one image are one once their texts are numbered as in it
one_canonical : (m other : MergedView) (bytes : List ℕ) → IsImageOf m bytes → IsImageOf other bytes → canonical_of m ≡ canonical_of other
one_canonical m other bytes i j = (unique_stencils (canonical_of m) (canonical_of other) [] [] (canonical_fits m bytes i) (canonical_fits other bytes j) (ap (λ (l : List ℕ). l ++ []) (sym (canonical_bytes m bytes i) ∙ canonical_bytes other bytes j))).0

-- two stencils with one image stand for the same values
pub one_image_one_value : (m other : MergedView) (bytes : List ℕ) (n : NamedMerged (List Listed)) → IsImageOf m bytes → IsImageOf other bytes → MergedStandsFor ShowsList m n → MergedStandsFor ShowsList other n
one_image_one_value m other bytes n i j s = stands_back other bytes n j (subst (λ (c : MergedView). MergedStandsFor ShowsList c n) (one_canonical m other bytes i j) (stands_to m bytes n i s))

pub one_image_alike : (m other : MergedView) (bytes : List ℕ) → IsImageOf m bytes → IsImageOf other bytes → StandAlike m other
one_image_alike m other bytes i j value = (one_image_one_value m other bytes value i j, one_image_one_value other m bytes value j i)
