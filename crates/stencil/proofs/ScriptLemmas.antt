-- Scripts before any of their functions is compiled, and what is shown of them.
use Rattle.std.proofs.Common.{◌≡◌, ◌∙◌, ℕ, ◌^◌, ◌<◌, ◌≤◌, List, [], length, map, refl, ap, sym, subst, arith}
use Rattle.std.proofs.lemmas.List.{length-map}
use Rattle.std.proofs.lemmas.List.Sums.{length-filter, count_by-le-length}
use Rattle.stencil_data.specs.declared.functions.Extent.{Extent}
use Rattle.stencil_data.specs.MergedView.{MergedView}
use Rattle.stencil_data.specs.Named.{NamedFunction, NamedInitial, NamedRecord}
use Rattle.stencil_data.specs.StandsFor.{named_record}
use Rattle.stencil_data.specs.Views.{RecordView}
use Rattle.bytecode_buf.specs.Command.{Command}
use Rattle.bytecode_buf.specs.InRange.{TextsSmall}
use Rattle.parse_track.specs.Notes.{closed_names}
use Rattle.emit_limit_laws.proofs.RisingSites.{sites_numbered}
use Rattle.emit_depth_laws.proofs.Accepting.{shown_accepted}
use Rattle.session_specs.specs.Answer.{to_show}
use Rattle.session_specs.specs.Sources.{missing}
use Rattle.compile_specs.specs.Eager.{Site, compiled_at}
use Rattle.compile_specs.specs.Shown.{is_shown, record_of, starts_of}
use Rattle.compile_specs.specs.Shown as shown
use Rattle.compile_wanted.specs.declared.flags.Wanted.{Wanted}
use Rattle.compile_wanted.specs.declared.flags.Wanted.TheVariants as wanted
use Rattle.compile_wanted.specs.Numbers as numbers
use Rattle.compile_wanted.specs.Shows.{Shows}
use Rattle.compile_initial.specs.declared.InitialStencil.{InitialStencil}
use Rattle.compile_initial.specs.Initial.{IsInitialOf}
use Rattle.compile_shown.specs.Counting.{extents_in}
use Rattle.compile_shown.specs.Shown.{ShowsWanted, shown_in}
use Rattle.compile_image_laws.proofs.Images.{script_stands}
use Rattle.stencil.specs.Stencils.{IsShownOf, IsStencilOf, asked_of}

-- no more functions are shown than there are records
pub shown_few : (want : shown.Wanted) (made : InitialStencil) → shown_in want made ≤ length made.parts.records
shown_few want made =
    let all : List Extent = extents_in made.parts.records in
    let e = length-map made.parts.records (λ (lazy : RecordView). lazy.extent) in
    let f = length-filter (is_shown want all) all in
    let g = count_by-le-length (is_shown want all) all in
    omega (arith, e, f, g)

-- the count of functions fits 32 bits
pub records_few : (text : List ℕ) (made : InitialStencil) → IsInitialOf text made → length made.parts.records < 2 ^ 32
records_few text made is =
    let part : Site → NamedFunction (List Command) = λ (s : Site). (compiled_at s).part in
    let record_at : NamedFunction (List Command) → NamedRecord = record_of (starts_of (map part is.all)) (closed_names is.items) in
    let stands = script_stands text is.items (length made.parts.records) is.short is.valid in
    let numbered = sites_numbered is.valid.read.inner is.valid.read.end is.items (length text) is.all stands is.functions in
    let one : length made.parts.records ≡ length is.named.records = sym (length-map made.parts.records (named_record made.parts.texts)) ∙ ap length is.stands.records.are in
    let two : length is.named.records ≡ length (map record_at (map part is.all)) = ap (λ (n : NamedInitial (List Command)). length n.records) is.is in
    let three = length-map (map part is.all) record_at in
    let four = length-map is.all part in
    omega (arith, numbered, one, two, three, four)

-- the stencil of a script in which some functions were compiled
pub shown_of : (want : shown.Wanted) (text : List ℕ) (made : InitialStencil) (stencil : MergedView) → IsInitialOf text made → ShowsWanted want text made stencil → length stencil.texts < 2 ^ 31 → TextsSmall stencil.texts
    → IsShownOf want text (length made.parts.records) stencil
shown_of want text made stencil is shows few small =
    let s : Shows want is.items (length text) stencil = shows is in
    let read = is.valid.read in
    record {
      items = is.items;
      valid = is.valid;
      shows = s;
      sound = shown_accepted want read.inner read.end is.items (length text) s.named stencil read.script is.valid.faultless s.shown s.stands;
      few = few;
      small = small;
    }

-- the code's functions that are wanted are those of a command
wanted_alike : (want : Wanted) → numbers.to_show want ≡ to_show (asked_of want)
wanted_alike wanted.All = refl
wanted_alike (wanted.Numbers ns) = refl

-- the same, where all functions that are wanted are there
pub stencil_of : (want : Wanted) (text : List ℕ) (count functions : ℕ) (stencil : MergedView) → IsShownOf (numbers.to_show want) text count stencil → functions ≡ count → missing functions (asked_of want) ≡ []
    → IsStencilOf (asked_of want) text stencil
stencil_of want text count functions stencil is counted present = record {
  count = count;
  is = subst (λ (w : shown.Wanted). IsShownOf w text count stencil) (wanted_alike want) is;
  present = subst (λ (n : ℕ). missing n (asked_of want) ≡ []) counted present;
}
