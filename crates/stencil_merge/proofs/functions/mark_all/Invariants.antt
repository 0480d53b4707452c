use Rattle.std.proofs.Common.{◌≡◌, ℕ, ◌+◌, ◌<◌, ◌||◌, false, nat_eq, take, length, get_or}
use Rattle.std.specs.List.{list_any}
use Rattle.stencil_merge.proofs.functions.mark_all.Given as goal

abbrev pub invariant-loop-number : goal.invariant-loop-number
invariant-loop-number l =
    (length l.flags ≡ length l.initial.flags)
    × ((k : ℕ) → k < length l.initial.flags → get_or l.flags k false ≡ (get_or l.initial.flags k false || list_any (λ n. nat_eq n (k + 1)) (take l.number-index l.numbers)))
