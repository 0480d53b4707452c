-- The bytes of an image are those of a stencil in range whose texts are numbered as they are named.
use Rattle.std.proofs.Common.{◌≡◌, ℕ, zero, suc, ◌+◌, ◌^◌, ◌<◌, ◌≤◌, Bool, true, not, cond, List, [], ◌∷◌, ◌++◌, length, map, flat_map, Some, option_map, refl, sym, ◌∙◌, ap, ap₂, subst, arith, inl, inr, slice_get}
use Rattle.std.proofs.lemmas.List.{length-map}
use Rattle.std.specs.Prelude.{bytes_eq}
use Rattle.stencil_data.specs.MergedView.{MergedView}
use Rattle.stencil_data.specs.StandsFor.{text_at}
use Rattle.bytecode_buf.specs.Bytes.{le_bytes}
use Rattle.bytecode_buf.specs.InRange.{InRange}
use Rattle.stencil_xdr_specs.specs.Image.{Item, Bytes, Atom, items, item_bytes, firsts, named, place_in, IsImageOf}
use Rattle.stencil_xdr_specs.specs.Widths.{TextFits, RecordFits, EntryFits}
use Rattle.stencil_xdr_read.specs.Reading.{Each, Fits}
use Rattle.stencil_xdr_read.specs.Parts.{FitText}
use Rattle.stencil_xdr_read.specs.Whole.{stencil_bytes, FitStencil}
use Rattle.stencil_xdr_read.specs.UniqueWhole.{unique_stencils}
use Rattle.stencil_xdr_read.specs.Within.{HaveNumbers, PartWithin, StencilWithin}
use Rattle.stencil_xdr_read.specs.Atoms.{stencil_atoms, seen_after}
use Rattle.stencil_xdr_read.specs.Canonical.{IsCanonical}
use Rattle.stencil_xdr_read.proofs.Items.{plain, rest_bytes, plain_items, atom_of, atoms_items}
use Rattle.stencil_xdr_read.proofs.Firsts.{either, each_filter, has, itself, place_found, named_atoms, each_first, firsts_without_equals, firsts_numbered, pigeons}
use Rattle.stencil_xdr_read.proofs.Renamed.{AreSmall, renamed_item, renamed, renamed_record, renamed_entry, renamed_function, items_anew}
use Rattle.stencil_xdr_read.proofs.Anew.{all_each, stencil_below, entries_whole, function_fits, records_fit, entries_fit, entries_many, texts_fit, part_anew, records_anew, entries_anew}
use Rattle.stencil_xdr_read.proofs.Sound.{by_parts, whole_entries}
use Rattle.std.proofs.Common.{Result, Err}
use Rattle.std.specs.Prelude.{IsErrAnd}
use Rattle.std.proofs.lemmas.Result.{err_from_is_err_and}
use Rattle.stencil_xdr_read.specs.declared.fault.ImageFault.{ImageFault}
use Rattle.stencil_xdr_read.specs.declared.fault.ImageFault.TheVariants as fault
use Rattle.stencil_xdr_read.specs.Whole.{ReadsWhole}

-- ---- the new numbers

-- the texts of a stencil, each once, in the order in which its image names them
abbrev pub order_of : MergedView → List (List ℕ)
order_of m = firsts (named m.texts (items m))

abbrev pub anew : MergedView → ℕ → ℕ
anew m a = place_in (order_of m) (text_at m.texts a)

abbrev pub canonical_of : MergedView → MergedView
canonical_of m = renamed (anew m) (order_of m) m

place_low : (ts : List (List ℕ)) (t : List ℕ) → place_in ts t ≤ length ts
place_low [] t = omega arith
place_low (u ∷ ts) t = elim (either (bytes_eq u t)) [
  | inl e ↦ subst (λ (n : ℕ). n ≤ suc (length ts)) (sym (ap (λ (b : Bool). cond b 0 (place_in ts t + 1)) e)) (omega arith)
  | inr e ↦ subst (λ (n : ℕ). n ≤ suc (length ts)) (sym (ap (λ (b : Bool). cond b 0 (place_in ts t + 1)) e)) (let low = place_low ts t in omega arith)
]

each_texts : (texts : List (List ℕ)) (atoms : List ℕ) (P : List ℕ → Type 0) → ((a : ℕ) → a < length texts → P (text_at texts a)) → Each (λ a. a < length texts) atoms → Each P (map (text_at texts) atoms)
each_texts texts [] P f h = tt
each_texts texts (a ∷ atoms) P f h = (f a h.0, each_texts texts atoms P f h.1)

has_at : (texts : List (List ℕ)) (a : ℕ) → a < length texts → has texts (text_at texts a) ≡ true
has_at [] a h = absurd (omega arith)
has_at (t ∷ texts) zero h = ap (λ (b : Bool). cond b true (has texts t)) (itself t)
has_at (t ∷ texts) (suc a) h = elim (either (bytes_eq t (text_at texts a))) [
  | inl e ↦ ap (λ (b : Bool). cond b true (has texts (text_at texts a))) e
  | inr e ↦ ap (λ (b : Bool). cond b true (has texts (text_at texts a))) e ∙ has_at texts a (omega arith)
]

each_at : (P : List ℕ → Type 0) (texts : List (List ℕ)) (a : ℕ) → Each P texts → a < length texts → P (text_at texts a)
each_at P [] a f h = absurd (omega arith)
each_at P (t ∷ texts) zero f h = f.0
each_at P (t ∷ texts) (suc a) f h = each_at P texts a f.1 (omega arith)

each_firsts : (P : List ℕ → Type 0) (ts : List (List ℕ)) → Each P ts → Each P (firsts ts)
each_firsts P [] h = tt
each_firsts P (t ∷ ts) h = (h.0, each_filter P (λ u. not (bytes_eq u t)) (firsts ts) (each_firsts P ts h.1))

pub named_texts : (m : MergedView) → named m.texts (items m) ≡ map (text_at m.texts) (stencil_atoms m)
named_texts m = named_atoms m.texts (items m) ∙ ap (map (text_at m.texts)) (atoms_items m)

each_in_order : (m : MergedView) (P : List ℕ → Type 0) → InRange m → ((a : ℕ) → a < length m.texts → P (text_at m.texts a)) → Each P (order_of m)
each_in_order m P r f = each_firsts P (named m.texts (items m)) (subst (Each P) (sym (named_texts m)) (each_texts m.texts (stencil_atoms m) P f (stencil_below m r)))

order_small : (m : MergedView) → InRange m → length (order_of m) < 2 ^ 32
order_small m r =
    let low : length (order_of m) ≤ length m.texts = pigeons (named m.texts (items m)) m.texts (each_in_order m (λ t. has m.texts t ≡ true) r (has_at m.texts)) in
    let small = r.texts_small in omega arith

pub anew_small : (m : MergedView) → InRange m → AreSmall (anew m)
anew_small m r a = let low = place_low (order_of m) (text_at m.texts a) in let small = order_small m r in omega arith

-- ---- the bytes

items_renamed : (texts order : List (List ℕ)) (is : List Item) → flat_map (item_bytes texts order) is ≡ flat_map plain (map (renamed_item (λ a. place_in order (text_at texts a))) is)
items_renamed texts order [] = refl
items_renamed texts order (Bytes bs ∷ is) = ap (λ (l : List ℕ). bs ++ l) (items_renamed texts order is)
items_renamed texts order (Atom a ∷ is) = ap (λ (l : List ℕ). le_bytes 4 (place_in order (text_at texts a)) ++ l) (items_renamed texts order is)

anew_items : (m : MergedView) → InRange m → map (renamed_item (anew m)) (items m) ≡ items (canonical_of m)
anew_items m r = items_anew (anew m) (order_of m) m (anew_small m r) r.top.range.code.whole (entries_whole (length m.texts) (length m.records) m.records m.records m.entries r.entries)

canonical_within : (m : MergedView) → InRange m → StencilWithin (canonical_of m)
canonical_within m r = (
  subst (λ (n : ℕ). HaveNumbers n (map (renamed_record (anew m)) m.records)) (sym count) (records_anew (anew m) (length m.records) 0 m.records r.records),
  (
    (r.top.kind, ap (option_map (anew m)) r.top.name, r.top.params, r.top.start),
    subst (λ (n : ℕ). PartWithin n (renamed_function (anew m) m.top)) (sym count) (part_anew (anew m) (length m.texts) (length m.records) m.top (anew_small m r) r.top.range),
  ),
  entries_anew (anew m) (length m.texts) (length m.records) m.records 0 m.records m.entries (anew_small m r) refl (λ k. ap (slice_get m.records) (sym (zero_plus k))) r.entries,
)
  where
    count : length (map (renamed_record (anew m)) m.records) ≡ length m.records
    count = length-map m.records (renamed_record (anew m))

    zero_plus : (k : ℕ) → 0 + k ≡ k
    zero_plus k = omega arith

pub canonical_fits : (m : MergedView) (bytes : List ℕ) → IsImageOf m bytes → FitStencil (canonical_of m)
canonical_fits m bytes i = record {
  front = (
    refl,
    (
      (order_small m i.range, each_in_order m FitText i.range (λ a h. each_at FitText m.texts a texts h)),
      (
        function_fits (anew m) (length m.texts) (length m.records) m.top small i.range.top.range i.widths.top,
        (subst (Fits 4) (sym count) i.range.records_small, records_fit (anew m) (length m.records) m.records small i.range.records_small i.range.records (all_each RecordFits m.records i.widths.records)),
      ),
    ),
  );
  entries = (
    length-map m.entries (renamed_entry (anew m)) ∙ (entries_many (length m.texts) (length m.records) m.records m.records m.entries i.range.entries ∙ sym count),
    entries_fit (anew m) (length m.texts) (length m.records) m.records m.records m.entries small i.range.entries (all_each EntryFits m.entries i.widths.entries),
  );
}
  where
    small : AreSmall (anew m)
    small = anew_small m i.range

    count : length (map (renamed_record (anew m)) m.records) ≡ length m.records
    count = length-map m.records (renamed_record (anew m))

    texts : Each FitText m.texts
    texts = texts_fit m.texts i.range.units_small (all_each TextFits m.texts i.widths.texts)

pub canonical_bytes : (m : MergedView) (bytes : List ℕ) → IsImageOf m bytes → bytes ≡ stencil_bytes (canonical_of m)
canonical_bytes m bytes i = i.is ∙ by_parts (canonical_of m) (flat_map (item_bytes m.texts (order_of m)) (items m)) rest
  where
    within : StencilWithin (canonical_of m)
    within = canonical_within m i.range

    rest : flat_map (item_bytes m.texts (order_of m)) (items m) ≡ rest_bytes (canonical_of m)
    rest = items_renamed m.texts (order_of m) (items m) ∙ (ap (flat_map plain) (anew_items m i.range)
        ∙ plain_items (canonical_of m) within.1.1.1.0 (whole_entries (canonical_of m).records 0 (canonical_of m).entries within.2))

-- ---- the numbering

texts_anew : (m : MergedView) (order : List (List ℕ)) (atoms : List ℕ) → Each (λ t. has order t ≡ true) (map (text_at m.texts) atoms)
    → map (text_at order) (map (λ a. place_in order (text_at m.texts a)) atoms) ≡ map (text_at m.texts) atoms
texts_anew m order [] h = refl
texts_anew m order (a ∷ atoms) h = ap₂ (λ t l. t ∷ l) ((place_found order (text_at m.texts a) h.0).is) (texts_anew m order atoms h.1)

places_below : (m : MergedView) (order : List (List ℕ)) (atoms : List ℕ) → Each (λ t. has order t ≡ true) (map (text_at m.texts) atoms) → Each (λ a. a < length order) (map (λ a. place_in order (text_at m.texts a)) atoms)
places_below m order [] h = tt
places_below m order (a ∷ atoms) h = ((place_found order (text_at m.texts a) h.0).inside, places_below m order atoms h.1)

atoms_renamed : (N : ℕ → ℕ) (is : List Item) → flat_map atom_of (map (renamed_item N) is) ≡ map N (flat_map atom_of is)
atoms_renamed N [] = refl
atoms_renamed N (Bytes bs ∷ is) = atoms_renamed N is
atoms_renamed N (Atom a ∷ is) = ap (λ (l : List ℕ). N a ∷ l) (atoms_renamed N is)

canonical_numbered : (m : MergedView) → InRange m → seen_after 0 (stencil_atoms (canonical_of m)) ≡ Some (length (order_of m))
canonical_numbered m r =
    ap (seen_after 0) atoms
    ∙ firsts_numbered (order_of m) (map (anew m) (stencil_atoms m)) (firsts_without_equals (named m.texts (items m))) (places_below m (order_of m) (stencil_atoms m) all)
    (ap firsts (texts_anew m (order_of m) (stencil_atoms m) all ∙ sym (named_texts m)))
  where
    atoms : stencil_atoms (canonical_of m) ≡ map (anew m) (stencil_atoms m)
    atoms = sym (atoms_items (canonical_of m)) ∙ (ap (flat_map atom_of) (sym (anew_items m r)) ∙ (atoms_renamed (anew m) (items m) ∙ ap (map (anew m)) (atoms_items m)))

    all : Each (λ t. has (order_of m) t ≡ true) (map (text_at m.texts) (stencil_atoms m))
    all = subst (Each (λ t. has (order_of m) t ≡ true)) (named_texts m) (each_first (named m.texts (items m)))

pub is_canonical : (m : MergedView) → InRange m → IsCanonical (canonical_of m)
is_canonical m r = (canonical_within m r, canonical_numbered m r, firsts_without_equals (named m.texts (items m)))

-- bytes that are those of a stencil which is not canonical are no image
pub no_image : (m : MergedView) (bytes : List ℕ) → bytes ≡ stencil_bytes m → FitStencil m → (IsCanonical m → ⊥) → (other : MergedView) → IsImageOf other bytes → ⊥
no_image m bytes is fit refused other i = refused (subst IsCanonical (sym (unique_stencils m (canonical_of other) [] [] fit (canonical_fits other bytes i) (ap (λ (l : List ℕ). l ++ []) (sym is ∙ canonical_bytes other bytes i))).0) (is_canonical other i.range))

-- where bytes are those of no stencil they are no image
pub no_stencil : (bytes : List ℕ) → ((m : MergedView) → FitStencil m → bytes ≡ stencil_bytes m → ⊥) → (other : MergedView) → IsImageOf other bytes → ⊥
no_stencil bytes none other i = none (canonical_of other) (canonical_fits other bytes i) (canonical_bytes other bytes i)

-- an error that is handed on
pub handed_none : (bytes : List ℕ) (e : ImageFault) (r : Result MergedView ImageFault) → IsErrAnd r (λ f. f ≡ e) → ReadsWhole bytes (Err e) → r ≡ Err fault.NoImage → (other : MergedView) → IsImageOf other bytes → ⊥
handed_none bytes e r h k is =
    let x = err_from_is_err_and r h in
    let at : r ≡ Err x.0 = x.1 in
    let same : x.0 ≡ e = x.2 in
    let fault_is : e ≡ fault.NoImage = cc in
    no_stencil bytes (subst (λ (f : ImageFault). ReadsWhole bytes (Err f)) fault_is k)
