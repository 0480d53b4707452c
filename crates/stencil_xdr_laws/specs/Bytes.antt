-- Stencils whose codes are bytes. The codes of the program are, by their type; a view has any numbers there. This project's
-- own choice.
use Rattle.std.specs.Prelude.{ℕ, ◌^◌, ◌<◌, List, All}
use Rattle.stencil_data.specs.declared.stencils.Entry.{Entry}
use Rattle.stencil_data.specs.declared.stencils.Entry.TheVariants as entry
use Rattle.stencil_data.specs.MergedView.{MergedView}

abbrev pub IsOfBytes : List ℕ → Type 0
IsOfBytes code = All (λ byte. byte < 2 ^ 8) code

abbrev pub EntryOfBytes : Entry → Type 0
EntryOfBytes entry.Lazy = Unit {0}
EntryOfBytes (entry.Compiled part) = IsOfBytes part.code

-- the code of all parts
pub record CodesOfBytes (merged : MergedView) : Type 0 where
  pub top : IsOfBytes merged.top.code
  pub entries : All EntryOfBytes merged.entries
