-- What is kept of each function that was found. This project's own choice.
use Rattle.std.specs.Prelude.{◌≡◌, ℕ, ◌+◌, ◌^◌, ◌<◌, List, length, map}
use Rattle.stencil_data.specs.Views.{RecordView}
use Rattle.compile_specs.specs.Shown.{numbers_of}
use Rattle.emit_limit_laws.specs.Offsets.{OffsetsRise}
use Rattle.compile_numbers.specs.Sorted.{NamesView, names_in}
use Rattle.parse_function_list.specs.declared.list.ListedFunction.{ListedFunction}
use Rattle.compile_initial.specs.declared.Nesting.{Nesting}

-- functions that start at these offsets can be numbered by them
abbrev pub HaveNumbers : List ℕ → Type 0
HaveNumbers starts = OffsetsRise 0 starts × (length starts + 1 < 2 ^ 32)

abbrev pub start_at : ListedFunction → ℕ
start_at f = f.extent.start

-- the record of a function among those that start at these offsets, where these are the closed names of the script
abbrev pub record_at : List ℕ → NamesView → ListedFunction → RecordView
record_at starts closed f = record {
  extent = f.extent;
  kind = f.kind;
  name = f.name;
  inner = numbers_of starts f.inner.items;
  closed = names_in closed f.extent.start;
}

-- the records of functions are these, where the functions can be numbered
abbrev pub AreRecordsOf : NamesView → List ListedFunction → List RecordView → Type 0
AreRecordsOf closed functions records = HaveNumbers (map start_at functions) → records ≡ map (record_at (map start_at functions) closed) functions

abbrev pub around_at : ListedFunction → Nesting
around_at f = record { number = f.around; place = f.place }
