-- What is shown of a script where its functions are taken one after another, in order of number. This project's own choice.
use Rattle.std.specs.Prelude.{ℕ, zero, suc, if◌then◌else◌, List, [], ◌∷◌, map, Option, None}
use Rattle.stencil_data.specs.declared.functions.Extent.{Extent}
use Rattle.stencil_data.specs.Named.{NamedFunction, NamedMerged}
use Rattle.bytecode_buf.specs.Command.{Command}
use Rattle.parse_track.specs.ClosedNames.{Bound}
use Rattle.compile_specs.specs.Shown.{Wanted, is_shown, entry, starts_of, extents_of, with_numbers, record_of}
use Rattle.stencil_merge.specs.Instructions.{numbered_commands}
use Rattle.stencil_merge.specs.Merging.{with_function}

-- the entries of functions, of which the first ones, n, were taken: the others are not compiled
abbrev pub entries_up_to : (count : ℕ) → Wanted → List Extent → List ℕ → List (NamedFunction (List Command))
    → List (Option (NamedFunction (List Command)))
entries_up_to zero want all starts functions = map (λ (f : NamedFunction (List Command)). None) functions
entries_up_to (suc count) want all starts [] = []
entries_up_to (suc count) want all starts (f ∷ functions) = entry want all starts f ∷ entries_up_to count want all starts functions

-- what is shown of a script, of whose functions n were taken
abbrev pub shown_up_to : (count : ℕ) → Wanted → List (Bound (List ℕ)) → NamedFunction (List Command) → List (NamedFunction (List Command))
    → NamedMerged (List Command)
shown_up_to count want bound top functions = record {
  top = with_numbers (starts_of functions) top;
  records = map (record_of (starts_of functions) bound) functions;
  entries = entries_up_to count want (extents_of functions) (starts_of functions) functions;
}

-- functions with their numbers: those that are shown of the ones from this number on, in order
abbrev pub shown_from : (number : ℕ) → Wanted → List Extent → List (NamedFunction (List Command)) → List (ℕ × NamedFunction (List Command))
shown_from number want all [] = []
shown_from number want all (f ∷ functions) =
    if is_shown want all f.extent then (number, f) ∷ shown_from (suc number) want all functions else shown_from (suc number) want all functions

-- the script in which these functions are compiled too, one after another
abbrev pub with_each : List (ℕ × NamedFunction (List Command)) → NamedMerged (List Command) → NamedMerged (List Command)
with_each [] merged = merged
with_each (f ∷ functions) merged = with_each functions (with_function numbered_commands f.0 f.1 merged)
