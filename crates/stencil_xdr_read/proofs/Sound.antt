-- Bytes that were read and tested are an image.
use Rattle.std.proofs.Common.{◌≡◌, ℕ, ◌<◌, List, [], ◌∷◌, ◌++◌, length, map, flat_map, refl, sym, ◌∙◌, ap, ap₂, subst, append_assoc}
use Rattle.stencil_data.specs.declared.stencils.Entry.{Entry}
use Rattle.stencil_data.specs.declared.stencils.Entry.TheVariants as entry
use Rattle.stencil_data.specs.MergedView.{MergedView}
use Rattle.stencil_data.specs.StandsFor.{text_at}
use Rattle.stencil_data.specs.Views.{RecordView}
use Rattle.bytecode_buf.specs.Bytes.{le_bytes}
use Rattle.parser_atoms.specs.Places.{AreWithoutEquals}
use Rattle.stencil_xdr_specs.specs.Image as image
use Rattle.stencil_xdr_specs.specs.Image.{Item, Bytes, Atom, items, item_bytes, bytes_by, firsts, named, magic, IsImageOf}
use Rattle.stencil_xdr_read.specs.Reading.{Each, list_bytes}
use Rattle.stencil_xdr_read.specs.Parts.{function_bytes, record_bytes, entry_bytes}
use Rattle.stencil_xdr_read.specs.Whole.{stencil_bytes, FitStencil}
use Rattle.stencil_xdr_read.specs.Within.{EachFrom, IsEntryAt, IsEntryOfSome}
use Rattle.stencil_xdr_read.specs.Atoms.{stencil_atoms}
use Rattle.stencil_xdr_read.specs.Canonical.{IsCanonical}
use Rattle.stencil_xdr_read.proofs.Items.{plain, rest_bytes, WholeEntry, plain_items, atom_of, atoms_items}
use Rattle.stencil_xdr_read.proofs.Firsts.{place_itself, named_atoms, seen_below, numbered_firsts}
use Rattle.stencil_xdr_read.proofs.Ranges.{in_range, numbers_fit}
use Rattle.std.proofs.Common.{Option, Some, None, ◌+◌, slice_get}

items_plain : (texts : List (List ℕ)) (is : List Item) → AreWithoutEquals texts → Each (λ a. a < length texts) (flat_map atom_of is) → flat_map (item_bytes texts texts) is ≡ flat_map plain is
items_plain texts [] apart h = refl
items_plain texts (Bytes bs ∷ is) apart h = ap (λ (l : List ℕ). bs ++ l) (items_plain texts is apart h)
items_plain texts (Atom a ∷ is) apart h = ap₂ (λ (k : ℕ) (l : List ℕ). le_bytes 4 k ++ l) (place_itself texts a apart h.0) (items_plain texts is apart h.1)

whole_entry : (all : List RecordView) (o : Option RecordView) (e : Entry) → IsEntryOfSome all o e → WholeEntry e
whole_entry all None e h = absurd h
whole_entry all (Some lazy) entry.Lazy h = tt
whole_entry all (Some lazy) (entry.Compiled f) h = h.2.1.0

pub whole_entries : (all : List RecordView) (at : ℕ) (es : List Entry) → EachFrom (IsEntryAt all) at es → Each WholeEntry es
whole_entries all at [] h = tt
whole_entries all at (e ∷ es) h = (whole_entry all (slice_get all at) e h.0, whole_entries all (at + 1) es h.1)

-- the parts after the texts, put together as an image has them
pub by_parts : (m : MergedView) (rest : List ℕ) → rest ≡ rest_bytes m → magic ++ le_bytes 4 (length m.texts) ++ flat_map image.text_bytes m.texts ++ rest ≡ stencil_bytes m
by_parts m rest is =
    ap (λ (l : List ℕ). magic ++ le_bytes 4 (length m.texts) ++ flat_map image.text_bytes m.texts ++ l) is
    ∙ joined magic (le_bytes 4 (length m.texts)) (flat_map image.text_bytes m.texts) (function_bytes m.top) (list_bytes record_bytes m.records) (flat_map entry_bytes m.entries)
  where
    joined : (a b c d e f : List ℕ) → a ++ b ++ c ++ (d ++ (e ++ f)) ≡ (a ++ ((b ++ c) ++ (d ++ e))) ++ f
    joined a b c d e f =
        append_assoc (a ++ b) c (d ++ (e ++ f)) ∙ (append_assoc a b (c ++ (d ++ (e ++ f)))
        ∙ (ap (λ (l : List ℕ). a ++ l) (sym (append_assoc b c (d ++ (e ++ f))) ∙ (ap (λ (l : List ℕ). (b ++ c) ++ l) (sym (append_assoc d e f)) ∙ sym (append_assoc (b ++ c) (d ++ e) f)))
        ∙ sym (append_assoc a ((b ++ c) ++ (d ++ e)) f)))

pub texts_in_order : (m : MergedView) → IsCanonical m → firsts (named m.texts (items m)) ≡ m.texts
texts_in_order m canonical =
    ap firsts (named_atoms m.texts (items m) ∙ ap (map (text_at m.texts)) (atoms_items m)) ∙ numbered_firsts m.texts (stencil_atoms m) canonical.2 canonical.1

pub is_image : (m : MergedView) (bytes : List ℕ) → bytes ≡ stencil_bytes m → FitStencil m → IsCanonical m → IsImageOf m bytes
is_image m bytes is fit canonical = record {
  range = in_range m fit canonical.0 below;
  widths = numbers_fit m fit;
  is = is ∙ (sym (by_parts m (flat_map (item_bytes m.texts m.texts) (items m)) rest) ∙ ap (λ (l : List (List ℕ)). bytes_by l m) (sym (texts_in_order m canonical)));
}
  where
    below : Each (λ a. a < length m.texts) (stencil_atoms m)
    below = seen_below 0 (length m.texts) (stencil_atoms m) canonical.1

    rest : flat_map (item_bytes m.texts m.texts) (items m) ≡ rest_bytes m
    rest = items_plain m.texts (items m) canonical.2 (subst (Each (λ a. a < length m.texts)) (sym (atoms_items m)) below)
        ∙ plain_items m canonical.0.1.1.1.0 (whole_entries m.records 0 m.entries canonical.0.2)
