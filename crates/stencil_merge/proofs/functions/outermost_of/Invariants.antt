use Rattle.std.proofs.Common.{◌≡◌, ◌+◌, ◌++◌, drop}
use Rattle.stencil_merge.specs.Functions.{inner_of, outermost_from, outermost}
use Rattle.stencil_merge.proofs.functions.outermost_of.Given as goal

abbrev pub invariant-loop-place : goal.invariant-loop-place
invariant-loop-place l = l.numbers.items ++ outermost_from (inner_of l.records) (l.place + 1) (drop l.place (inner_of l.records)) ≡ outermost (inner_of l.records)
