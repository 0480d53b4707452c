-- In which order the numbers of tasks stand. This project's own choice.
use Rattle.std.specs.Prelude.{◌≡◌, ℕ, ◌+◌, ◌<◌, ◌≤◌, List, length, reverse, slice_index_or, IsPermutation}
use Rattle.std.specs.List.Sorted.{IsNonDecreasing}
use Rattle.session_words.specs.declared.options.Order.{Order}
use Rattle.session_words.specs.declared.options.Order.TheVariants as order

-- no number stands after that of a smaller thing
abbrev pub FallBy : (ℕ → ℕ) → List ℕ → Type 0
FallBy size numbers = (i j d : ℕ) → i ≤ j → j < length numbers → size (slice_index_or numbers j d) ≤ size (slice_index_or numbers i d)

-- numbers of things of one size that stand side by side rise
abbrev pub TiesRise : (ℕ → ℕ) → List ℕ → Type 0
TiesRise size numbers =
    (k d : ℕ) → k + 1 < length numbers → size (slice_index_or numbers k d) ≡ size (slice_index_or numbers (k + 1) d)
    → slice_index_or numbers k d ≤ slice_index_or numbers (k + 1) d

-- the numbers of larger things stand first, and those of things of one size by rising number, where all rose before
pub record LargerFirst (size : ℕ → ℕ) (before after : List ℕ) : Type 0 where
  pub same : IsPermutation before after
  pub fall : FallBy size after
  pub ties : IsNonDecreasing before → TiesRise size after

-- numbers that stood before stand so after they were put into this order, where things have these sizes
abbrev pub AreInOrder : Order → (ℕ → ℕ) → (before after : List ℕ) → Type 0
AreInOrder order.First size before after = after ≡ before
AreInOrder order.Large size before after = LargerFirst size before after
AreInOrder order.Reverse size before after = after ≡ reverse before
