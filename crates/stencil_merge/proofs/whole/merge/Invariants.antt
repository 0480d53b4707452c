use Rattle.std.proofs.Common.{◌≡◌, ◌+◌, ◌≤◌, length, take}
use Rattle.stencil_merge.specs.Whole.{Merges, text_count}
use Rattle.stencil_merge.proofs.whole.merge.Given as goal

-- the functions so far are compiled
abbrev pub invariant-loop-function : goal.invariant-loop-function
invariant-loop-function l =
    Merges l.parts (take l.function-index l.functions) l.merger
    × (length l.merger.texts ≤ length l.parts.texts + text_count (take l.function-index l.functions))
    × (length l.merger.records ≡ length l.parts.records)
