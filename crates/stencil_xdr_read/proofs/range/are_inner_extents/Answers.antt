use Rattle.stencil_xdr_read.proofs.Apart.{inner_extents}
use Rattle.stencil_xdr_read.proofs.range.are_inner_extents.Goals as goal

pub returns-then-numbers-extents : goal.returns-then-numbers-extents
returns-then-numbers-extents c = inner_extents c.args.records.now c.args.numbers.now c.args.extents.now _ c.if-numbers-extents.true c.are_extents_of.ensures
