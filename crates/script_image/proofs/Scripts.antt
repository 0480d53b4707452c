-- The lines of scripts, one after another.
use Rattle.std.proofs.Common.{◌≡◌, ◌≢◌, ℕ, zero, suc, ◌+◌, ◌-◌, ◌<◌, ◌≤◌, List, [], ◌∷◌, ◌++◌, length, drop, map, get_or, Option, Some, refl, ap, ap₂, sym, subst, ◌∙◌, append_assoc, append-nil, arith, length-drop}
use Rattle.std.specs.Prelude.{min, flat_map, slice_get}
use Rattle.stencil_data.specs.declared.stencils.Entry.{Entry}
use Rattle.stencil_data.specs.declared.stencils.Entry.TheVariants as entry
use Rattle.stencil_data.specs.declared.stencils.TryNote.{TryNote}
use Rattle.stencil_data.specs.MergedView.{MergedView}
use Rattle.std.proofs.lemmas.List.{length-map}
use Rattle.stencil_data.specs.Named.{NamedFunction, NamedRecord}
use Rattle.stencil_data.specs.StandsFor.{named_record}
use Rattle.stencil_data.specs.Views.{FunctionView, RecordView}
use Rattle.bytecode_buf.specs.Command.{Listed, listed_from}
use Rattle.bytecode_buf.specs.Layout.{instructions_within}
use Rattle.script_image.specs.CodeLines.{code_lines, listing, note_line}
use Rattle.script_image.specs.Listed.{listed_entry, listed_script}
use Rattle.script_image.specs.ScriptLines.{Lines, function_line, script_lines, scripts_from, top_line}
use Rattle.script_image.specs.declared.pieces.Place.TheVariants as place
use Rattle.script_image.specs.declared.script_lines.Listing.{Listing}
use Rattle.script_image.specs.declared.script_lines.Listing.TheVariants as of
use Rattle.script_image.specs.Listings.{lines_of}
use Rattle.script_image.specs.Pieces.{compiled_of, from_place, from_script, header_line, left_from, left_in, part_at, script_count}

-- one more part is written
pub one_joined : (now new a rest : List ℕ) → new ≡ now ++ a → new ++ rest ≡ now ++ (a ++ rest)
one_joined now new a rest is = ap (λ (l : List ℕ). l ++ rest) is ∙ append_assoc now a rest

-- the lines of the function at a place, and those behind it
scripts_next : (lines : Lines) (texts : List (List ℕ)) (n k : ℕ) (rs : List RecordView) (es : List Entry) (r : RecordView) (e : Entry) → k < length rs → k < length es → r ≡ get_or rs k r → e ≡ get_or es k e
    → scripts_from lines n (map (named_record texts) (drop k rs)) (map (listed_entry texts) (drop k es))
    ≡ script_lines lines n (named_record texts r) (listed_entry texts e) ++ scripts_from lines (suc n) (map (named_record texts) (drop (suc k) rs)) (map (listed_entry texts) (drop (suc k) es))
scripts_next lines texts n k [] es r e in_rs in_es r_is e_is = absurd (omega (arith, in_rs))
scripts_next lines texts n k (x ∷ rs) [] r e in_rs in_es r_is e_is = absurd (omega (arith, in_es))
scripts_next lines texts n zero (x ∷ rs) (y ∷ es) r e in_rs in_es r_is e_is =
    let one : n + 1 ≡ suc n = omega arith in
    ap₂ (λ (a : RecordView) (b : Entry). script_lines lines n (named_record texts a) (listed_entry texts b) ++ scripts_from lines (n + 1) (map (named_record texts) rs) (map (listed_entry texts) es)) (sym r_is) (sym e_is)
    ∙ ap (λ (m : ℕ). script_lines lines n (named_record texts r) (listed_entry texts e) ++ scripts_from lines m (map (named_record texts) rs) (map (listed_entry texts) es)) one
scripts_next lines texts n (suc k) (x ∷ rs) (y ∷ es) r e in_rs in_es r_is e_is = scripts_next lines texts n k rs es r e (omega (arith, in_rs)) (omega (arith, in_es)) r_is e_is

-- the same where the function is compiled
compiled_next : (lines : Lines) (texts : List (List ℕ)) (n k : ℕ) (rs : List RecordView) (es : List Entry) (part : FunctionView) → k < length rs → compiled_of (slice_get es k) ≡ Some part
    → scripts_from lines n (map (named_record texts) (drop k rs)) (map (listed_entry texts) (drop k es))
    ≡ (function_line n (listed_script texts part) ++ lines (listed_script texts part)) ++ scripts_from lines (suc n) (map (named_record texts) (drop (suc k) rs)) (map (listed_entry texts) (drop (suc k) es))
compiled_next lines texts n k [] es part in_rs is = absurd (omega (arith, in_rs))
compiled_next lines texts n k (x ∷ rs) [] part in_rs is = absurd (cc)
compiled_next lines texts n zero (x ∷ rs) (entry.Lazy ∷ es) part in_rs is = absurd (cc)
compiled_next lines texts n zero (x ∷ rs) (entry.Compiled p ∷ es) part in_rs is =
    let same : p ≡ part = cc in
    let one : n + 1 ≡ suc n = omega arith in
    ap (λ (q : FunctionView). (function_line n (listed_script texts q) ++ lines (listed_script texts q)) ++ scripts_from lines (n + 1) (map (named_record texts) rs) (map (listed_entry texts) es)) same
    ∙ ap (λ (m : ℕ). (function_line n (listed_script texts part) ++ lines (listed_script texts part)) ++ scripts_from lines m (map (named_record texts) rs) (map (listed_entry texts) es)) one
compiled_next lines texts n (suc k) (x ∷ rs) (y ∷ es) part in_rs is = compiled_next lines texts n k rs es part (omega (arith, in_rs)) is

-- ---- one script is written

function_at : (l : Listing) (merged : MergedView) (k : ℕ) (now new : List ℕ) (r : RecordView) (e : Entry) → k < length merged.records → k < length merged.entries → r ≡ get_or merged.records k r → e ≡ get_or merged.entries k e
    → new ≡ now ++ script_lines (lines_of l) (suc k) (named_record merged.texts r) (listed_entry merged.texts e) → new ++ from_script l merged (suc (suc k)) ≡ now ++ from_script l merged (suc k)
function_at l merged k now new r e in_rs in_es r_is e_is is =
    one_joined now new (script_lines (lines_of l) (suc k) (named_record merged.texts r) (listed_entry merged.texts e)) (from_script l merged (suc (suc k))) is
    ∙ ap (λ (text : List ℕ). now ++ text) (sym (scripts_next (lines_of l) merged.texts (suc k) k merged.records merged.entries r e in_rs in_es r_is e_is))

-- a function
pub function_next : (l : Listing) (merged : MergedView) (number : ℕ) (now new : List ℕ) (r : RecordView) (e : Entry) → number ≢ 0 → number < script_count merged → r ≡ get_or merged.records (number - 1) r → e ≡ get_or merged.entries (number - 1) e
    → new ≡ now ++ script_lines (lines_of l) number (named_record merged.texts r) (listed_entry merged.texts e) → new ++ from_script l merged (number + 1) ≡ now ++ from_script l merged number
function_next l merged zero now new r e some there r_is e_is is = absurd (some refl)
function_next l merged (suc k) now new r e some there r_is e_is is =
    let less : suc k - 1 ≡ k = omega arith in
    let more : suc k + 1 ≡ suc (suc k) = omega arith in
    ap (λ (n : ℕ). new ++ from_script l merged n) more
    ∙ function_at l merged k now new r e (omega (arith, there)) (omega (arith, there)) (subst (λ (n : ℕ). r ≡ get_or merged.records n r) less r_is) (subst (λ (n : ℕ). e ≡ get_or merged.entries n e) less e_is) is

-- ---- the line of a script whose code is listed

-- all lines of a code are left at its beginning
pub whole_left : (texts : List (List ℕ)) (part : FunctionView) → code_lines (listed_script texts part) ≡ left_in texts (Some part) 0 0
whole_left texts part =
    let whole : length part.code ≡ length part.code - 0 = omega arith in
    ap (λ (n : ℕ). listing (listed_from texts 0 (instructions_within n part.code)) ++ flat_map note_line part.notes) whole

-- the same by the lists themselves
pub whole_code : (texts : List (List ℕ)) (part : FunctionView) (code : List ℕ) (notes : List TryNote) → code ≡ part.code → notes ≡ part.notes → listing (listed_from texts 0 (left_from code 0 0)) ++ flat_map note_line notes ≡ code_lines (listed_script texts part)
whole_code texts part code notes code_is notes_are =
    ap (λ (l : List ℕ). listing (listed_from texts 0 (left_from l 0 0)) ++ flat_map note_line notes) code_is
    ∙ ap (λ (l : List TryNote). listing (listed_from texts 0 (left_from part.code 0 0)) ++ flat_map note_line l) notes_are
    ∙ sym (whole_left texts part)

header_at : (merged : MergedView) (number : ℕ) (part : FunctionView) → number < script_count merged → part_at merged number ≡ Some part → from_script of.Code merged number ≡ header_line number (listed_script merged.texts part) ++ (code_lines (listed_script merged.texts part) ++ from_script of.Code merged (suc number))
header_at merged zero part there is =
    let same : merged.top ≡ part = cc in
    append_assoc (top_line merged.top.extent) (code_lines (listed_script merged.texts merged.top)) (from_script of.Code merged 1)
    ∙ ap (λ (p : FunctionView). top_line p.extent ++ (code_lines (listed_script merged.texts p) ++ from_script of.Code merged 1)) same
header_at merged (suc k) part there is =
    compiled_next code_lines merged.texts (suc k) k merged.records merged.entries part (omega (arith, there)) is
    ∙ append_assoc (function_line (suc k) (listed_script merged.texts part)) (code_lines (listed_script merged.texts part)) (from_script of.Code merged (suc (suc k)))

pub header_next : (merged : MergedView) (number : ℕ) (part : FunctionView) (now new : List ℕ) → number < script_count merged → part_at merged number ≡ Some part → new ≡ now ++ header_line number (listed_script merged.texts part)
    → new ++ from_place of.Code merged (place.Within number 0 0) ≡ now ++ from_script of.Code merged number
header_next merged number part now new there is new_is =
    one_joined now new (header_line number (listed_script merged.texts part)) (from_place of.Code merged (place.Within number 0 0)) new_is
    ∙ ap (λ (o : Option FunctionView). now ++ (header_line number (listed_script merged.texts part) ++ (left_in merged.texts o 0 0 ++ from_script of.Code merged (suc number)))) is
    ∙ ap (λ (text : List ℕ). now ++ (header_line number (listed_script merged.texts part) ++ (text ++ from_script of.Code merged (suc number)))) (sym (whole_left merged.texts part))
    ∙ ap (λ (text : List ℕ). now ++ text) (sym (header_at merged number part there is))

-- ---- the end

no_scripts : (lines : Lines) (number : ℕ) (rs : List NamedRecord) (es : List (Option (NamedFunction (List Listed)))) → min (length rs) (length es) ≤ 0 → scripts_from lines number rs es ≡ []
no_scripts lines number [] es none = refl
no_scripts lines number (r ∷ rs) [] none = refl
no_scripts lines number (r ∷ rs) (e ∷ es) none = absurd (omega arith)

-- none is left
scripts_end : (lines : Lines) (texts : List (List ℕ)) (number index end : ℕ) (rs : List RecordView) (es : List Entry) (now all : List ℕ) → end ≡ min (length rs) (length es) → end ≤ index → now ++ scripts_from lines number (map (named_record texts) (drop index rs)) (map (listed_entry texts) (drop index es)) ≡ all → now ≡ all
scripts_end lines texts number index end rs es now all end_is done is =
    let none : min (length (map (named_record texts) (drop index rs))) (length (map (listed_entry texts) (drop index es))) ≤ 0 = omega (arith, length-map (drop index rs) (named_record texts), length-map (drop index es) (listed_entry texts), length-drop index rs, length-drop index es, end_is, done) in
    sym (append-nil now) ∙ ap (λ (l : List ℕ). now ++ l) (sym (no_scripts lines number (map (named_record texts) (drop index rs)) (map (listed_entry texts) (drop index es)) none)) ∙ is

-- no script is left
pub none_left : (l : Listing) (merged : MergedView) → from_script l merged (script_count merged) ≡ []
none_left l merged =
    let m = min (length merged.records) (length merged.entries) in
    let one : m + 1 ≡ suc m = omega arith in
    ap (from_script l merged) one ∙ sym (scripts_end (lines_of l) merged.texts (suc m) m m merged.records merged.entries [] (from_script l merged (suc m)) refl (omega arith) refl)

-- all scripts were written
pub all_written : (l : Listing) (merged : MergedView) (count : ℕ) (now new : List ℕ) → count ≡ script_count merged → new ++ from_script l merged count ≡ now ++ from_script l merged 0 → new ≡ now ++ from_script l merged 0
all_written l merged count now new count_is is =
    sym (append-nil new) ∙ ap (λ (text : List ℕ). new ++ text) (sym (ap (from_script l merged) count_is ∙ none_left l merged)) ∙ is
