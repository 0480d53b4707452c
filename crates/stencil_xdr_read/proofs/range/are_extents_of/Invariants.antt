use Rattle.std.proofs.Common.{◌≡◌, ℕ, slice_index}
use Rattle.stencil_data.specs.declared.functions.Extent.{Extent}
use Rattle.bytecode_buf.specs.InRange.{extent_of}
use Rattle.stencil_xdr_read.proofs.Loops.{Reaches}
use Rattle.stencil_xdr_read.proofs.range.are_extents_of.Given as goal

abbrev pub invariant-loop-at : goal.invariant-loop-at
invariant-loop-at l = Reaches (λ (at : ℕ) (extent : Extent). extent ≡ extent_of l.records (slice_index l.numbers at)) l.extents l.at
