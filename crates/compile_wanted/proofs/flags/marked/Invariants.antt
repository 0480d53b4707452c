use Rattle.std.proofs.Common.{◌≡◌, ℕ, ◌+◌, ◌<◌, false, nat_eq, take, length, get_or}
use Rattle.std.specs.List.{list_any}
use Rattle.compile_wanted.proofs.flags.marked.Given as goal

abbrev pub invariant-loop-number : goal.invariant-loop-number
invariant-loop-number l =
    (length l.flags.items ≡ l.count) × ((k : ℕ) → k < l.count → get_or l.flags.items k false ≡ list_any (λ n. nat_eq n (k + 1)) (take l.number-index l.numbers))
