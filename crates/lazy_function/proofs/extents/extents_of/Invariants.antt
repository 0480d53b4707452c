use Rattle.std.proofs.Common.{◌≡◌, map, take, Some}
use Rattle.stencil_data.specs.declared.functions.Extent.{Extent}
use Rattle.compile_lazy_laws.specs.Inside.{extents_at}
use Rattle.lazy_function.proofs.extents.extents_of.Given as goal

-- the extents so far are those of the numbers so far
abbrev pub invariant-loop-number : goal.invariant-loop-number
invariant-loop-number l = map (λ (e : Extent). Some e) l.extents.items ≡ extents_at l.records (take l.number-index l.numbers)
