-- The numbers of tasks in their order. This project's own choice.
use Rattle.std.specs.Prelude.{ℕ, List}
use Rattle.std.specs.List.{range_with_len}

-- the numbers below n, rising
abbrev pub rising : ℕ → List ℕ
rising count = range_with_len 0 count
