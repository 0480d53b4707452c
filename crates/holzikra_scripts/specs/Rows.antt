-- In which order the lines of the table of counts stand. This project's own choice.
use Rattle.std.specs.Prelude.{ℕ, slice_index}
use Rattle.std.specs.String.{string_cmp}
use Rattle.std.specs.Ordering.{nat_cmp}
use Rattle.std.specs.declared.cmp.Ordering.{Ordering}
use Rattle.holzikra_words.specs.declared.stats.Column.{Column}
use Rattle.holzikra_words.specs.declared.stats.Column.TheVariants as column
use Rattle.holzikra_scripts.specs.declared.table.Line.{Line}

-- the line with the greater number in this place comes first
abbrev pub falling : ℕ → Line → Line → Ordering
falling place one other = nat_cmp (slice_index other.numbers place) (slice_index one.numbers place)

-- names rise, numbers fall
abbrev pub line_cmp : Column → Line → Line → Ordering
line_cmp column.File one other = string_cmp one.name other.name
line_cmp column.Functions one other = falling 0 one other
line_cmp column.Closed one other = falling 1 one other
line_cmp column.Instructions one other = falling 2 one other
line_cmp column.CodeBytes one other = falling 3 one other
line_cmp column.Depth one other = falling 4 one other
line_cmp column.Nested one other = falling 5 one other
line_cmp column.SourceBytes one other = falling 6 one other
