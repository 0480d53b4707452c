use Rattle.std.proofs.Common.{◌≡◌, ℕ, ◌+◌, ◌<◌, false, take, length, get_or}
use Rattle.stencil_merge.specs.Functions.{inner_of, is_inside}
use Rattle.stencil_merge.proofs.functions.are_inside.Given as goal

abbrev pub invariant-loop-lazy : goal.invariant-loop-lazy
invariant-loop-lazy l =
    (length l.flags.items ≡ length l.records)
    × ((k : ℕ) → k < length l.records → get_or l.flags.items k false ≡ is_inside (inner_of (take l.lazy-index l.records)) (k + 1))
