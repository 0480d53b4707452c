-- What is written is the image.
use Rattle.std.proofs.Common.{◌≡◌, ℕ, suc, ◌+◌, ◌-◌, ◌/◌, ◌%◌, ◌^◌, ◌<◌, ◌≤◌, List, [], ◌∷◌, ◌++◌, length, flat_map, Option, Some, refl, sym, ◌∙◌, ap, ap₂, subst, slice_get, append_assoc, append-nil, arith}
use Rattle.std.specs.Prelude.{All, IfOk, Result, Ok, Err}
use Rattle.std.proofs.lemmas.Grind.{flat_map-append}
use Rattle.stencil_data.specs.MergedView.{MergedView}
use Rattle.stencil_data.specs.StandsFor.{text_at, MergedStandsFor}
use Rattle.bytecode_buf.specs.Bytes.{le_bytes}
use Rattle.stencil_data.specs.Named.{NamedMerged}
use Rattle.bytecode_buf.specs.Command.{Command, ShowsCommands}
use Rattle.bytecode_buf.specs.InRange.{InRange, TextsSmall}
use Rattle.parser_atoms.specs.Places.{AreWithoutEquals}
use Rattle.stencil_xdr_specs.specs.Image.{Item, Bytes, Atom, list, named, firsts, place_in, item_bytes, text_bytes, magic, IsImageOf}
use Rattle.stencil_xdr_specs.specs.Widths.{TextFits, NumbersFit}
use Rattle.script_image.specs.Listed.{listed_stencil}
use Rattle.script_image.specs.ScriptLines.{listed_merged}
use Rattle.script_image.proofs.Stands.{stencil_is, commands_as_listed}
use Rattle.session_image_specs.specs.Images.{IsImage}
use Rattle.stencil_xdr_read.specs.Reading.{Each}
use Rattle.stencil_xdr_read.proofs.Firsts.{firsts_without_equals}
use Rattle.stencil_xdr_read.proofs.Items.{flat_both}
use Rattle.stencil_xdr_laws.specs.Pieces.{image_of}
use Rattle.stencil_xdr_laws.specs.Sizes.{MergedSmall}
use Rattle.stencil_xdr_laws.proofs.HasImage.{small_value_has_image}
use Rattle.stencil_xdr_laws.proofs.OneImage.{image_as_listed}
use Rattle.stencil_xdr_write.specs.Named.{NumberingView, HasNumber, AreRight, IsNumbered, NumbersMore}
use Rattle.stencil_xdr_write.specs.Numbers.{unit_items, text_items, PartsFit, place_of, number_or, number_at, numbered_bytes, bytes_with}
use Rattle.stencil_xdr_write.specs.Whole.{stencil_items}
use Rattle.stencil_xdr_write.specs.Writes.{WriterView, Writes, writes_both}
use Rattle.stencil_xdr_write.proofs.MoreFirsts.{place_at}
use Rattle.stencil_xdr_write.proofs.Naming.{placed_text}
use Rattle.stencil_xdr_write.proofs.Whole.{items_whole, image_whole, entries_fit, codes_of_bytes}

-- ---- numbers, byte by byte

pub number_more : (out new all : List ℕ) (width turn rest : ℕ) → turn < width → new ≡ out ++ rest % 256 ∷ [] → out ++ le_bytes (width - turn) rest ≡ all → new ++ le_bytes (width - (turn + 1)) (rest / 256) ≡ all
number_more out new all width turn rest more is h =
    let one : width - turn ≡ suc (width - (turn + 1)) = omega arith in
    ap (λ (l : List ℕ). l ++ le_bytes (width - (turn + 1)) (rest / 256)) is
    ∙ (append_assoc out (rest % 256 ∷ []) (le_bytes (width - (turn + 1)) (rest / 256))
    ∙ (ap (λ (n : ℕ). out ++ le_bytes n rest) (sym one) ∙ h))

pub number_end : (out all : List ℕ) (width turn rest : ℕ) → width ≤ turn → out ++ le_bytes (width - turn) rest ≡ all → out ≡ all
number_end out all width turn rest end h = let none : width - turn ≡ 0 = omega arith in sym (append-nil out) ∙ (ap (λ (n : ℕ). out ++ le_bytes n rest) (sym none) ∙ h)

-- ---- one item

pub wrote : (table : List (Option ℕ)) (before after : List ℕ) (i : Item) → after ≡ before ++ numbered_bytes table i → Writes (record { table = table; bytes = before }) (i ∷ []) (record { table = table; bytes = after })
wrote table before after i is = record { same = refl; bytes = is ∙ ap (λ (l : List ℕ). before ++ l) (sym (append-nil (numbered_bytes table i))) }

-- ---- all items

bytes_text : (table : List (Option ℕ)) (text : List ℕ) → flat_map (numbered_bytes table) (text_items text) ≡ text_bytes text
bytes_text table text = ap (λ (l : List ℕ). le_bytes 4 (length text) ++ l) (flat_both (numbered_bytes table) unit_items (le_bytes 2) (λ u. refl) text)

bytes_texts : (table : List (Option ℕ)) (texts : List (List ℕ)) → flat_map (numbered_bytes table) (list text_items texts) ≡ le_bytes 4 (length texts) ++ flat_map text_bytes texts
bytes_texts table texts = ap (λ (l : List ℕ). le_bytes 4 (length texts) ++ l) (flat_both (numbered_bytes table) text_items text_bytes (bytes_text table) texts)

pub written_all : (table : List (Option ℕ)) (texts : List (List ℕ)) (m : MergedView) (first second third last : WriterView) → first ≡ record { table = table; bytes = [] }
    → Writes first (Bytes magic ∷ []) second → Writes second (list text_items texts) third → Writes third (stencil_items m) last → last.bytes ≡ bytes_with texts table m
written_all table texts m first second third last start head body tail =
    all.bytes
    ∙ (ap (λ (w : WriterView). w.bytes ++ flat_map (numbered_bytes w.table) (((Bytes magic ∷ []) ++ list text_items texts) ++ stencil_items m)) start
    ∙ (flat_map-append (numbered_bytes table) ((Bytes magic ∷ []) ++ list text_items texts) (stencil_items m)
    ∙ ap (λ (l : List ℕ). l ++ flat_map (numbered_bytes table) (stencil_items m)) (ap (λ (l : List ℕ). magic ++ l) (bytes_texts table texts) ∙ sym (append_assoc magic (le_bytes 4 (length texts)) (flat_map text_bytes texts)))))
  where
    all : Writes first (((Bytes magic ∷ []) ++ list text_items texts) ++ stencil_items m) last
    all = writes_both first third last ((Bytes magic ∷ []) ++ list text_items texts) (stencil_items m) (writes_both first second third (Bytes magic ∷ []) (list text_items texts) head body) tail

-- ---- by places

same_number : (texts atoms : List (List ℕ)) (table : List (Option ℕ)) (a k : ℕ) → length table ≡ length texts + 1 → AreRight texts table atoms → AreWithoutEquals atoms
    → slice_get table (place_of (length texts) a) ≡ Some (Some k) → number_at table a ≡ place_in atoms (text_at texts a)
same_number texts atoms table a k many right apart there =
    let count : length table - 1 ≡ length texts = omega (arith, many) in
    ap (λ (n : ℕ). number_or (slice_get table (place_of n a))) count
    ∙ (ap number_or there
    ∙ sym (place_at atoms k (text_at texts a) apart (right (place_of (length texts) a) k there ∙ ap (λ (t : List ℕ). Some t) (placed_text texts a))))

same_bytes : (texts atoms : List (List ℕ)) (table : List (Option ℕ)) → length table ≡ length texts + 1 → AreRight texts table atoms → AreWithoutEquals atoms → (is : List Item) → Each (HasNumber (length texts) table) is → flat_map (numbered_bytes table) is ≡ flat_map (item_bytes texts atoms) is
same_bytes texts atoms table many right apart [] all = refl
same_bytes texts atoms table many right apart (Bytes bs ∷ is) all = ap (λ (l : List ℕ). bs ++ l) (same_bytes texts atoms table many right apart is all.1)
same_bytes texts atoms table many right apart (Atom a ∷ is) all =
    ap₂ (λ (n : ℕ) (l : List ℕ). le_bytes 4 n ++ l) (same_number texts atoms table a all.0.0 many right apart all.0.1) (same_bytes texts atoms table many right apart is all.1)

-- the bytes where these items stand after the texts that they name
abbrev bytes_of_items : List (List ℕ) → List Item → List ℕ
bytes_of_items texts is =
    magic ++ le_bytes 4 (length (firsts (named texts is))) ++ flat_map text_bytes (firsts (named texts is)) ++ flat_map (item_bytes texts (firsts (named texts is))) is

-- where all texts that items name are numbered, the bytes by these numbers are those of what the stencil is listed as
pub is_listed : (m : MergedView) (bytes : List ℕ) (start end : NumberingView) → PartsFit m → IsNumbered m.texts [] start → NumbersMore start (stencil_items m) end → bytes ≡ bytes_with end.atoms end.table m → bytes ≡ image_of (listed_stencil m)
is_listed m bytes start end parts none more is =
    is
    ∙ (ap (λ (l : List ℕ). magic ++ le_bytes 4 (length end.atoms) ++ flat_map text_bytes end.atoms ++ l) (same_bytes m.texts end.atoms end.table n.many n.right apart (stencil_items m) n.all)
    ∙ (ap (λ (ts : List (List ℕ)). magic ++ le_bytes 4 (length ts) ++ flat_map text_bytes ts ++ flat_map (item_bytes m.texts ts) (stencil_items m)) n.firsts
    ∙ (ap (bytes_of_items m.texts) (items_whole m) ∙ image_whole m parts)))
  where
    n : IsNumbered m.texts (stencil_items m) end
    n = more m.texts [] none

    apart : AreWithoutEquals end.atoms
    apart = subst AreWithoutEquals (sym n.firsts) (firsts_without_equals (named m.texts (stencil_items m)))

numbers_fit : (m : MergedView) → All TextFits m.texts → PartsFit m → NumbersFit m
numbers_fit m texts parts = record { texts = texts; top = parts.top.fits; records = parts.records; entries = entries_fit m.entries parts.entries }

-- for a stencil in range they are its image
pub is_image : (m : MergedView) (bytes : List ℕ) → InRange m → All TextFits m.texts → PartsFit m → bytes ≡ image_of (listed_stencil m) → IsImageOf m bytes
is_image m bytes range texts parts is = record {
  range = range;
  widths = numbers_fit m texts parts;
  is = is ∙ sym (image_as_listed m range);
}

-- for a stencil of small texts that stands for a small script they are the image of the script
pub is_script_image : (m : MergedView) (bytes : List ℕ) → length m.texts < 2 ^ 32 - 1 → All TextFits m.texts → PartsFit m → bytes ≡ image_of (listed_stencil m) → TextsSmall m.texts
    → (named : NamedMerged (List Command)) → MergedStandsFor ShowsCommands m named → MergedSmall named → IsImage named bytes
is_script_image m bytes few texts parts is short named stands small =
    subst (IsImage named) (sym (is ∙ ap image_of (stencil_is m (listed_merged named) (commands_as_listed m named stands))))
    (small_value_has_image m named stands (codes_of_bytes m parts) small (omega (arith, few)) short (numbers_fit m texts parts))

-- from what a last call answers to what is answered in all
pub if_ok_then : {T E : Type 0} {P Q : T → Type 0} (r : Result T E) → IfOk r P → ((x : T) → P x → Q x) → IfOk r Q
if_ok_then (Ok x) h f = f x h
if_ok_then (Err e) h f = tt
