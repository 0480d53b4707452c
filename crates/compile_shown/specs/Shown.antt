-- What is answered of a script of which some functions are wanted. This project's own choice.
use Rattle.std.specs.Prelude.{◌≡◌, ℕ, ◌-◌, Bool, false, List, length, map, slice_index_or}
use Rattle.stencil_data.specs.MergedView.{MergedView}
use Rattle.stencil_data.specs.Views.{RecordView}
use Rattle.compile_specs.specs.Shown.{Wanted, is_shown}
use Rattle.compile_wanted.specs.Shows.{Shows}
use Rattle.compile_initial.specs.declared.InitialStencil.{InitialStencil}
use Rattle.compile_initial.specs.Initial.{IsInitialOf}
use Rattle.compile_shown.specs.Counting.{extents_in, shown_count}

-- where the script of these bytes is this before any of its functions is compiled, the stencil stands for what is shown of it
abbrev pub ShowsWanted : Wanted → List ℕ → InitialStencil → MergedView → Type 0
ShowsWanted want bytes initial merged = (is : IsInitialOf bytes initial) → Shows want is.items (length bytes) merged

-- how many of its functions are shown compiled
abbrev pub shown_in : Wanted → InitialStencil → ℕ
shown_in want initial = shown_count want (extents_in initial.parts.records)

-- of each function that has one of these records whether it is shown
abbrev pub AreFlags : Wanted → List RecordView → List Bool → Type 0
AreFlags want records flags = flags ≡ map (is_shown want (extents_in records)) (extents_in records)

-- the flag of the function of this number, from 1
abbrev pub flagged : List Bool → ℕ → Bool
flagged flags number = slice_index_or flags (number - 1) false
