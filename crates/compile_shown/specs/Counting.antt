-- How many functions of a script are shown compiled. This project's own choice.
use Rattle.std.specs.Prelude.{ℕ, suc, Bool, true, false, List, [], ◌∷◌, map, filter, length}
use Rattle.stencil_data.specs.declared.functions.Extent.{Extent}
use Rattle.stencil_data.specs.Views.{RecordView}
use Rattle.compile_specs.specs.Shown.{Wanted, is_shown}

abbrev pub extents_in : List RecordView → List Extent
extents_in records = map (λ (lazy : RecordView). lazy.extent) records

-- of the functions of these extents, how many are shown compiled
abbrev pub shown_count : Wanted → List Extent → ℕ
shown_count want all = length (filter (is_shown want all) all)

abbrev pub trues : List Bool → ℕ
trues [] = 0
trues (true ∷ flags) = suc (trues flags)
trues (false ∷ flags) = trues flags
