-- A listing that is being cut into pieces. This project's own choice.
use Rattle.std.specs.Prelude.{◌≡◌, ℕ, ◌≤◌, List, Option, Some, None}
use Rattle.stencil_data.specs.MergedView.{MergedView}
use Rattle.stencil_data.specs.Views.{FunctionView}
use Rattle.script_image.specs.declared.cuts.Cuts.{Cuts}
use Rattle.script_image.specs.declared.pieces.Place.TheVariants as place
use Rattle.script_image.specs.declared.script_lines.Listing.{Listing}
use Rattle.script_image.specs.Pieces.{Lead, part_at, script_count}

-- a compiled script with this code
abbrev pub IsCodeOf : Option FunctionView → List ℕ → Type 0
IsCodeOf None code = ⊥
IsCodeOf (Some part) code = part.code ≡ code

abbrev pub HasPart : MergedView → ℕ → List ℕ → Type 0
HasPart merged number code = IsCodeOf (part_at merged number) code

-- the pieces lead to the beginning of the next one, and no script behind this number was passed
pub record IsCutTo (listing : Listing) (merged : MergedView) (cuts : Cuts) (number : ℕ) : Type 0 where
  pub lead : Lead listing merged (place.Before 0) cuts.pieces.items (place.Before cuts.from)
  pub passed : cuts.from ≤ number
  pub there : number ≤ script_count merged
