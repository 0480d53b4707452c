-- What is known while the functions of a script that are shown are taken in, one after another in order of number. This
-- project's own choice.
use Rattle.std.specs.Prelude.{◌≡◌, ℕ, ◌+◌, Bool, List, map, length, Some, slice_get}
use Rattle.stencil_data.specs.MergedView.{MergedView}
use Rattle.stencil_data.specs.StandsFor.{MergedStandsFor}
use Rattle.stencil_data.specs.Views.{RecordView}
use Rattle.bytecode_buf.specs.Command.{ShowsCommands}
use Rattle.parse_track.specs.Notes.{closed_names}
use Rattle.parser_atoms.specs.Places.{AreWithoutEquals, StandsIn}
use Rattle.track_atoms.specs.Known.{HasWords, known_atoms}
use Rattle.emit_stmts.specs.Functions.{top_script}
use Rattle.compile_specs.specs.Eager.{Site, compiled_at}
use Rattle.compile_specs.specs.Shown.{Wanted, is_shown}
use Rattle.compile_initial.specs.declared.InitialStencil.{InitialStencil}
use Rattle.compile_initial.specs.Initial.{IsInitialOf}
use Rattle.compile_lazy_laws.specs.UpTo.{shown_up_to}
use Rattle.compile_shown.specs.Counting.{extents_in}
use Rattle.compile_shown.specs.Shown.{AreFlags}

-- Of the functions in order of number n were passed: of these the ones that are shown are taken in.
pub record IsUpTo (want : Wanted) (bytes : List ℕ) (initial : InitialStencil) (is : IsInitialOf bytes initial) (count : ℕ)
    (merged : MergedView) : Type 0 where
  pub stands : MergedStandsFor ShowsCommands merged
      (shown_up_to count want (closed_names is.items) (top_script is.items (length bytes)).part (map (λ (s : Site). (compiled_at s).part) is.all))
  -- the texts are those of the parts, so they are few
  pub among : (text : List ℕ) → StandsIn merged.texts text → StandsIn initial.parts.texts text
  pub apart : AreWithoutEquals merged.texts
  -- they begin with the known words
  pub known : HasWords merged.texts known_atoms
  pub records : length merged.records ≡ length initial.parts.records

-- whether the function at a place is shown, by these records
abbrev pub IsFlagAt : Wanted → List RecordView → (place : ℕ) → Bool → Type 0
IsFlagAt want records place flag = slice_get (map (is_shown want (extents_in records)) (extents_in records)) place ≡ Some flag

-- ---- what is asked of a step, and what it does, where the script of these bytes is this before any of its functions is compiled

-- n functions were passed, for some that are wanted
abbrev pub HasPassed : List ℕ → InitialStencil → (count : ℕ) → MergedView → Type 0
HasPassed bytes initial count merged = (want : Wanted) × (is : IsInitialOf bytes initial) × IsUpTo want bytes initial is count merged

-- no function was passed, and of each this is whether it is shown
abbrev pub AreNext : List ℕ → InitialStencil → List Bool → MergedView → Type 0
AreNext bytes initial flags merged =
    (want : Wanted) × (is : IsInitialOf bytes initial) × AreFlags want initial.parts.records flags × IsUpTo want bytes initial is 0 merged

-- where no function was passed, whatever is wanted of whichever text
abbrev pub BeginsWith : InitialStencil → MergedView → Type 0
BeginsWith initial merged = (want : Wanted) (bytes : List ℕ) (is : IsInitialOf bytes initial) → IsUpTo want bytes initial is 0 merged

-- the function at this place is passed, of which this is whether it is shown
abbrev pub Passes : List ℕ → InitialStencil → (place : ℕ) → Bool → (merged made : MergedView) → Type 0
Passes bytes initial place flag merged made =
    (want : Wanted) (is : IsInitialOf bytes initial) → IsFlagAt want initial.parts.records place flag
    → IsUpTo want bytes initial is place merged → IsUpTo want bytes initial is (place + 1) made

-- all functions are passed, of each of which this is whether it is shown
abbrev pub PassesAll : List ℕ → InitialStencil → List Bool → (merged made : MergedView) → Type 0
PassesAll bytes initial flags merged made =
    (want : Wanted) (is : IsInitialOf bytes initial) → AreFlags want initial.parts.records flags
    → IsUpTo want bytes initial is 0 merged → IsUpTo want bytes initial is (length flags) made
