use Rattle.helper_tasks.specs.Count.{once_below, times}
use Rattle.std.specs.Prelude.{ℕ, length, ◌≡◌}
use Rattle.session_output.proofs.printing.numbers.Given as goal

abbrev pub invariant-loop-number : goal.invariant-loop-number
invariant-loop-number l = (length l.numbers.items ≡ l.number) × ((x : ℕ) → times x l.numbers.items ≡ once_below x l.number)
