-- Whole stencils are told apart by their bytes, whatever follows.
use Rattle.std.specs.Prelude.{◌≡◌, ℕ, List, ◌++◌, length, flat_map}
use Rattle.std.proofs.Common.{sym, ◌∙◌, ap, ap₂, subst, append_assoc, lit<}
use Rattle.stencil_data.specs.declared.stencils.Entry.{Entry}
use Rattle.stencil_data.specs.MergedView.{MergedView}
use Rattle.stencil_xdr_read.specs.declared.whole.Magic.{Magic}
use Rattle.stencil_xdr_read.specs.Reading.{AreUnique, Fits, pair_bytes, FitPair, list_bytes, FitList}
use Rattle.stencil_xdr_read.specs.Unique.{unique_numbers, unique_pairs, unique_lists, unique_items}
use Rattle.stencil_xdr_read.specs.Parts.{text_bytes, FitText, function_bytes, FitFunction, record_bytes, FitRecord, entry_bytes, FitEntry}
use Rattle.stencil_xdr_read.specs.UniqueParts.{unique_texts, unique_functions, unique_records, unique_entries}
use Rattle.stencil_xdr_read.specs.Whole.{magic_bytes, IsMagic, FrontParts, front_parts, front_bytes, FitFront, stencil_bytes, FitStencil}

pub magic_fits : (m : Magic) → IsMagic m → Fits 4 m.word
magic_fits m h = subst (Fits 4) (sym h) (lit< tt)

pub unique_magic : AreUnique magic_bytes IsMagic
unique_magic x y r s fx fy e =
    let h = unique_numbers 4 x.word y.word r s (magic_fits x fx) (magic_fits y fy) e in
    (ap (λ (n : ℕ). let m : Magic = record { word = n } in m) h.0, h.1)

pub unique_fronts : AreUnique front_bytes FitFront
unique_fronts =
    unique_pairs magic_bytes IsMagic (pair_bytes (list_bytes text_bytes) (pair_bytes function_bytes (list_bytes record_bytes)))
    (FitPair (FitList FitText) (FitPair FitFunction (FitList FitRecord))) unique_magic
    (unique_pairs (list_bytes text_bytes) (FitList FitText) (pair_bytes function_bytes (list_bytes record_bytes))
    (FitPair FitFunction (FitList FitRecord)) (unique_lists text_bytes FitText unique_texts)
    (unique_pairs function_bytes FitFunction (list_bytes record_bytes) (FitList FitRecord) unique_functions
    (unique_lists record_bytes FitRecord unique_records)))

-- a stencil of its front and its entries
abbrev stencil_of : FrontParts → List Entry → MergedView
stencil_of f es = record { texts = f.1.0; top = f.1.1.0; records = f.1.1.1; entries = es }

pub unique_stencils : AreUnique stencil_bytes FitStencil
unique_stencils x y r s fx fy e = (ap₂ stencil_of front.0 entries.0, entries.1)
  where
    front : (front_parts x ≡ front_parts y) × (flat_map entry_bytes x.entries ++ r ≡ flat_map entry_bytes y.entries ++ s)
    front = unique_fronts (front_parts x) (front_parts y) (flat_map entry_bytes x.entries ++ r)
        (flat_map entry_bytes y.entries ++ s) fx.front fy.front
        (sym (append_assoc (front_bytes (front_parts x)) (flat_map entry_bytes x.entries) r) ∙
        (e ∙ append_assoc (front_bytes (front_parts y)) (flat_map entry_bytes y.entries) s))

    same_count : length y.records ≡ length x.records
    same_count = sym (ap (λ (f : FrontParts). length f.1.1.1) front.0)

    entries : (x.entries ≡ y.entries) × (r ≡ s)
    entries = unique_items entry_bytes FitEntry unique_entries (length x.records) x.entries y.entries r s fx.entries
        (fy.entries.0 ∙ same_count, fy.entries.1) front.1
