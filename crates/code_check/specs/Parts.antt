-- The parts of a merged stencil by their numbers.
use Rattle.std.specs.Prelude.{ℕ, zero, suc, Option, Some, None, slice_get}
use Rattle.stencil_data.specs.declared.stencils.Entry.{Entry}
use Rattle.stencil_data.specs.declared.stencils.Entry.TheVariants as entry
use Rattle.stencil_data.specs.Views.{FunctionView}
use Rattle.stencil_data.specs.MergedView.{MergedView}

abbrev pub compiled : Option Entry → Option FunctionView
compiled None = None
compiled (Some entry.Lazy) = None
compiled (Some (entry.Compiled f)) = Some f

-- 0 is the top, every other number that of a function; none where the function is not compiled
abbrev pub part_of : MergedView → ℕ → Option FunctionView
part_of merged zero = Some merged.top
part_of merged (suc n) = compiled (slice_get merged.entries n)
