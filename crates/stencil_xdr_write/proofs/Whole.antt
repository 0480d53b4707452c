-- A stencil whose codes are cut after their last whole instruction is listed as before.
use Rattle.std.proofs.Common.{◌≡◌, ℕ, List, [], ◌∷◌, ◌++◌, length, map, flat_map, Option, Some, None, refl, sym, ◌∙◌, ap, ap₂}
use Rattle.std.specs.Prelude.{All}
use Rattle.stencil_data.specs.declared.stencils.Entry.{Entry}
use Rattle.stencil_data.specs.declared.stencils.Entry.TheVariants as entry
use Rattle.stencil_data.specs.MergedView.{MergedView}
use Rattle.stencil_data.specs.Named.{NamedFunction}
use Rattle.stencil_data.specs.Views.{FunctionView}
use Rattle.bytecode_buf.specs.Command.{Listed, listed_from}
use Rattle.bytecode_buf.specs.Layout.{Numbered, instructions, layout, IsWhole}
use Rattle.bytecode_buf.proofs.ReadBack.{layout_is_read_back}
use Rattle.stencil_xdr_specs.specs.Image as image
use Rattle.stencil_xdr_specs.specs.Image.{Item, number, list, record_items}
use Rattle.stencil_xdr_specs.specs.Widths.{EntryFits}
use Rattle.script_image.specs.Listed.{listed_script, listed_entry, listed_stencil}
use Rattle.stencil_xdr_read.specs.Reading.{Each}
use Rattle.stencil_xdr_read.proofs.Anew.{all_each}
use Rattle.stencil_xdr_read.proofs.Items.{WholeEntry}
use Rattle.stencil_xdr_laws.specs.Bytes.{IsOfBytes, EntryOfBytes, CodesOfBytes}
use Rattle.stencil_xdr_laws.specs.Pieces.{pieces, image_of}
use Rattle.stencil_xdr_laws.proofs.HeldCode.{are_bytes, instructions_held}
use Rattle.stencil_xdr_laws.proofs.Pieces.{image_of_pieces}
use Rattle.stencil_xdr_laws.proofs.PartPieces.{stencil_shows}
use Rattle.stencil_xdr_write.specs.Numbers.{numbered_items, instructions_items, PartsFit}
use Rattle.stencil_xdr_write.specs.Whole.{whole_code, whole_function, whole_entry, entry_items, code_items, function_items, stencil_items, EntryHolds}

-- ---- codes

pub read_back : (code : List ℕ) → IsOfBytes code → instructions (whole_code code) ≡ instructions code
read_back code bytes = layout_is_read_back (instructions code) (instructions_held code (are_bytes code bytes)).fit

pub is_whole : (code : List ℕ) → IsOfBytes code → IsWhole (whole_code code)
is_whole code bytes = ap layout (read_back code bytes)

pub items_of_code : (code : List ℕ) → IsOfBytes code → number 8 (length (whole_code code)) ∷ instructions_items code ≡ code_items code
items_of_code code bytes = ap (λ (is : List Numbered). number 8 (length (whole_code code)) ∷ flat_map numbered_items is) (sym (read_back code bytes))

-- ---- stencils

abbrev pub whole_stencil : MergedView → MergedView
whole_stencil m = record m { top = whole_function m.top; entries = map whole_entry m.entries }

entries_items : (es : List Entry) → flat_map entry_items es ≡ flat_map image.entry_items (map whole_entry es)
entries_items [] = refl
entries_items (e ∷ es) = ap (λ (l : List Item). entry_items e ++ l) (entries_items es)

pub items_whole : (m : MergedView) → stencil_items m ≡ image.items (whole_stencil m)
items_whole m = ap (λ (l : List Item). function_items m.top ++ list record_items m.records ++ l) (entries_items m.entries)

script_same : (texts : List (List ℕ)) (f : FunctionView) → IsOfBytes f.code → listed_script texts (whole_function f) ≡ listed_script texts f
script_same texts f bytes = ap (λ (is : List Numbered). record (listed_script texts f) { code = listed_from texts 0 is }) (read_back f.code bytes)

entries_same : (texts : List (List ℕ)) (es : List Entry) → Each EntryHolds es → map (listed_entry texts) (map whole_entry es) ≡ map (listed_entry texts) es
entries_same texts [] h = refl
entries_same texts (entry.Lazy ∷ es) h = ap (λ (l : List (Option (NamedFunction (List Listed)))). None ∷ l) (entries_same texts es h.1)
entries_same texts (entry.Compiled f ∷ es) h =
    ap₂ (λ (n : NamedFunction (List Listed)) (l : List (Option (NamedFunction (List Listed)))). Some n ∷ l) (script_same texts f h.0.bytes) (entries_same texts es h.1)

entries_whole : (es : List Entry) → Each EntryHolds es → Each WholeEntry (map whole_entry es)
entries_whole [] h = tt
entries_whole (entry.Lazy ∷ es) h = (tt, entries_whole es h.1)
entries_whole (entry.Compiled f ∷ es) h = (is_whole f.code h.0.bytes, entries_whole es h.1)

listed_same : (m : MergedView) → PartsFit m → listed_stencil (whole_stencil m) ≡ listed_stencil m
listed_same m parts =
    ap₂ (λ (n : NamedFunction (List Listed)) (l : List (Option (NamedFunction (List Listed)))). record (listed_stencil m) { top = n; entries = l })
    (script_same m.texts m.top parts.top.bytes) (entries_same m.texts m.entries (all_each EntryHolds m.entries parts.entries))

-- its image is the one of what the stencil is listed as
pub image_whole : (m : MergedView) → PartsFit m → image.image (whole_stencil m) ≡ image_of (listed_stencil m)
image_whole m parts =
    image_of_pieces (whole_stencil m) (pieces (listed_stencil (whole_stencil m))) (stencil_shows (whole_stencil m) (is_whole m.top.code parts.top.bytes) (entries_whole m.entries (all_each EntryHolds m.entries parts.entries)))
    ∙ ap image_of (listed_same m parts)

-- ---- widths

entry_fits : (e : Entry) → EntryHolds e → EntryFits e
entry_fits entry.Lazy h = tt
entry_fits (entry.Compiled f) h = h.fits

pub entries_fit : (es : List Entry) → All EntryHolds es → All EntryFits es
entries_fit es h = λ k d more. entry_fits _ (h k d more)

-- ---- bytes

entry_of_bytes : (e : Entry) → EntryHolds e → EntryOfBytes e
entry_of_bytes entry.Lazy h = tt
entry_of_bytes (entry.Compiled f) h = h.bytes

pub codes_of_bytes : (m : MergedView) → PartsFit m → CodesOfBytes m
codes_of_bytes m parts = record { top = parts.top.bytes; entries = λ k d more. entry_of_bytes _ (parts.entries k d more) }
