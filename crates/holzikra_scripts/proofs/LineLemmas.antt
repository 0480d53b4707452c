-- The order of lines is one.
use Rattle.std.proofs.Common.{ℕ, Bool, slice_index}
use Rattle.std.proofs.lemmas.Cmp.{nat_cmp_total}
use Rattle.std.proofs.lemmas.List.Sorted.{ranks_by, IsStrictWeakOrder-flip}
use Rattle.std.specs.Cmp.{IsStrictWeakOrder}
use Rattle.std.specs.Ordering.{is_lt, nat_cmp}
use Rattle.std.specs.String.{string_cmp_total}
use Rattle.holzikra_words.specs.declared.stats.Column.{Column}
use Rattle.holzikra_words.specs.declared.stats.Column.TheVariants as column
use Rattle.holzikra_scripts.specs.declared.table.Line.{Line}
use Rattle.holzikra_scripts.specs.Rows.{falling, line_cmp}

-- this line comes before that one
abbrev pub before : Column → Line → Line → Bool
before which one other = is_lt (line_cmp which one other)

by_number : (place : ℕ) → IsStrictWeakOrder (λ (one other : Line). is_lt (falling place one other))
by_number place = IsStrictWeakOrder-flip (λ (one other : Line). is_lt (nat_cmp (slice_index one.numbers place) (slice_index other.numbers place))) (ranks_by nat_cmp_total (λ (line : Line). slice_index line.numbers place))

pub is_order : (which : Column) → IsStrictWeakOrder (before which)
is_order column.File = ranks_by string_cmp_total (λ (line : Line). line.name)
is_order column.Functions = by_number 0
is_order column.Closed = by_number 1
is_order column.Instructions = by_number 2
is_order column.CodeBytes = by_number 3
is_order column.Depth = by_number 4
is_order column.Nested = by_number 5
is_order column.SourceBytes = by_number 6
