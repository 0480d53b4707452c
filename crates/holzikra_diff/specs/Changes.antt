-- The changes between the functions of two scripts. This project's own choice.
use Rattle.std.specs.Prelude.{ℕ, List, [], Option, Some, None, unwrap_or, slice_get}
use Rattle.holzikra_edits.specs.Edits.{IsDifference}
use Rattle.holzikra_diff.specs.declared.changes.Change.{Change}

-- the lines of the function of this number, by the lines of all functions; none where there is no such function
abbrev pub lines_of : List (List ℕ) → Option ℕ → List ℕ
lines_of functions None = []
lines_of functions (Some number) = unwrap_or (slice_get functions number) []

-- the edits of a change lead from the lines that its function had to those that it has, by the lines of all functions of both scripts
abbrev pub IsChange : List (List ℕ) → List (List ℕ) → Change → Type 0
IsChange old new change = IsDifference change.edits.items (lines_of old change.old) (lines_of new change.new)
