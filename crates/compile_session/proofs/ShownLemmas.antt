-- What is shown of a script, and what is written of it.
use Rattle.std.proofs.Common.{◌≡◌, ◌∙◌, ℕ, ◌^◌, ◌<◌, ◌≤◌, true, List, ◌++◌, length, map, refl, ap, sym, subst, arith}
use Rattle.std.proofs.lemmas.List.{length-map}
use Rattle.std.proofs.lemmas.List.Sums.{length-filter, count_by-le-length}
use Rattle.script_grammar.specs.Tree.{Stmts}
use Rattle.stencil_data.specs.declared.functions.Extent.{Extent}
use Rattle.stencil_data.specs.MergedView.{MergedView}
use Rattle.stencil_data.specs.Named.{NamedFunction, NamedInitial, NamedMerged, NamedRecord}
use Rattle.stencil_data.specs.StandsFor.{MergedStandsFor, named_record}
use Rattle.stencil_data.specs.Views.{RecordView}
use Rattle.bytecode_buf.specs.Command.{Command as Instruction, Listed}
use Rattle.bytecode_buf.specs.InRange.{TextsSmall}
use Rattle.parse_track.specs.Notes.{closed_names}
use Rattle.script_image.specs.Listed.{ShowsListed}
use Rattle.script_image.specs.ScriptLines.{code_text, listed_merged, scope_text}
use Rattle.script_image.proofs.Stands.{commands_as_listed, stencil_is}
use Rattle.script_image.specs.declared.script_lines.Listing.{Listing}
use Rattle.script_image.specs.Pieces.{from_script}
use Rattle.session_words.specs.declared.options.Command.{Command}
use Rattle.session_words.specs.declared.options.Command.TheVariants as command
use Rattle.session_specs.specs.Answer.{file_line, to_show}
use Rattle.session_specs.specs.Compiled.{shows_scripts}
use Rattle.session_specs.specs.Sources.{IsValid}
use Rattle.emit_limit_laws.proofs.RisingSites.{sites_numbered}
use Rattle.compile_specs.specs.Eager.{Site, compiled_at}
use Rattle.compile_specs.specs.Shown as show
use Rattle.compile_specs.specs.Shown.{is_shown, record_of, starts_of}
use Rattle.compile_wanted.specs.Shows.{Shows}
use Rattle.compile_initial.specs.declared.InitialStencil.{InitialStencil}
use Rattle.compile_initial.specs.Initial.{IsInitialOf}
use Rattle.compile_shown.specs.Counting.{extents_in}
use Rattle.compile_shown.specs.Shown.{shown_in}
use Rattle.compile_image_laws.proofs.Images.{script_stands, shown_has_image}
use Rattle.stencil_xdr_laws.specs.Written.{IsWrittenOf}
use Rattle.compile_session.specs.Listed.{IsWrittenFor, listed_text, listing_for}
use Rattle.compile_session.proofs.SourceLemmas.{same_valid}

-- ---- what is compiled

-- no more functions are shown than there are records
pub shown_few : (want : show.Wanted) (made : InitialStencil) → shown_in want made ≤ length made.parts.records
shown_few want made =
    let all : List Extent = extents_in made.parts.records in
    let e = length-map made.parts.records (λ (lazy : RecordView). lazy.extent) in
    let f = length-filter (is_shown want all) all in
    let g = count_by-le-length (is_shown want all) all in
    omega (arith, e, f, g)

-- so their count fits 32 bits
pub records_few : (bytes : List ℕ) (made : InitialStencil) → IsInitialOf bytes made → length made.parts.records < 2 ^ 32
records_few bytes made is =
    let part : Site → NamedFunction (List Instruction) = λ (s : Site). (compiled_at s).part in
    let record_at : NamedFunction (List Instruction) → NamedRecord = record_of (starts_of (map part is.all)) (closed_names is.items) in
    let stands = script_stands bytes is.items (length made.parts.records) is.short is.valid in
    let numbered = sites_numbered is.valid.read.inner is.valid.read.end is.items (length bytes) is.all stands is.functions in
    let one : length made.parts.records ≡ length is.named.records = sym (length-map made.parts.records (named_record made.parts.texts)) ∙ ap length is.stands.records.are in
    let two : length is.named.records ≡ length (map record_at (map part is.all)) = ap (λ (n : NamedInitial (List Instruction)). length n.records) is.is in
    let three = length-map (map part is.all) record_at in
    let four = length-map is.all part in
    omega (arith, numbered, one, two, three, four)

-- the same script as it was found by another way
pub shows_same : (bytes : List ℕ) (a b : Stmts) (m n : ℕ) (want : show.Wanted) (shown : MergedView) → IsValid bytes a m → IsValid bytes b n → Shows want a (length bytes) shown → Shows want b (length bytes) shown
shows_same bytes a b m n want shown h k s = subst (λ (items : Stmts). Shows want items (length bytes) shown) (same_valid bytes a b m n h k).0 s

-- ---- what is written

pub listed_written : (c : Command) (name : List ℕ) (shown : MergedView) (out : List ℕ) → shows_scripts c ≡ true → (c ≡ command.Save → ⊥)
    → ((named : NamedMerged (List Listed)) → MergedStandsFor ShowsListed shown named → out ≡ file_line name ++ listed_text c named) → IsWrittenFor c name shown out
listed_written command.Code name shown out shows unlike listed = λ want file items count short valid s. (s.named, s.shown, listed (listed_merged s.named) (commands_as_listed shown s.named s.stands))
listed_written command.Scopes name shown out shows unlike listed = λ want file items count short valid s. (s.named, s.shown, listed (listed_merged s.named) (commands_as_listed shown s.named s.stands))
listed_written command.Check name shown out shows unlike listed = absurd (cc)
listed_written command.Save name shown out shows unlike listed = absurd (unlike refl)
listed_written command.Load name shown out shows unlike listed = absurd (cc)
listed_written command.Verify name shown out shows unlike listed = absurd (cc)

-- the listing is that of the value that the stencil stands for
listed_as : (c : Command) (shown : MergedView) (named : NamedMerged (List Listed)) → MergedStandsFor ShowsListed shown named → from_script (listing_for c) shown 0 ≡ listed_text c named
listed_as command.Code shown named s = ap code_text (stencil_is shown named s)
listed_as command.Scopes shown named s = ap scope_text (stencil_is shown named s)
listed_as command.Check shown named s = ap code_text (stencil_is shown named s)
listed_as command.Save shown named s = ap code_text (stencil_is shown named s)
listed_as command.Load shown named s = ap code_text (stencil_is shown named s)
listed_as command.Verify shown named s = ap code_text (stencil_is shown named s)

pub listing_written : (c : Command) (name : List ℕ) (shown : MergedView) (out head : List ℕ) (kind : Listing) → shows_scripts c ≡ true → (c ≡ command.Save → ⊥) → head ≡ file_line name → kind ≡ listing_for c → out ≡ head ++ from_script kind shown 0 → IsWrittenFor c name shown out
listing_written c name shown out head kind shows unlike head_is kind_is out_is =
    listed_written c name shown out shows unlike
    (λ named s.
    out_is
    ∙ ap (λ (l : List ℕ). l ++ from_script kind shown 0) head_is
    ∙ ap (λ (k : Listing). file_line name ++ from_script k shown 0) kind_is
    ∙ ap (λ (l : List ℕ). file_line name ++ l) (listed_as c shown named s))

pub image_written : (c : Command) (name : List ℕ) (shown : MergedView) (image : List ℕ) → c ≡ command.Save → TextsSmall shown.texts → IsWrittenOf shown image → IsWrittenFor c name shown image
image_written c name shown image is small written =
    subst (λ (x : Command). IsWrittenFor x name shown image) (sym is)
    (λ want file items count short valid s. (s.named, s.shown, shown_has_image file items count (length file) (to_show want) shown image short valid s small written))
