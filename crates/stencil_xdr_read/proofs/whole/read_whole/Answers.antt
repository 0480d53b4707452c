use Rattle.stencil_xdr_read.proofs.Stencils.{whole_handed, whole_read, whole_left}
use Rattle.stencil_xdr_read.proofs.whole.read_whole.Goals as goal

pub returns-in_err-stencil : goal.returns-in_err-stencil
returns-in_err-stencil c = whole_handed _ _ _ _ c.new-reader.ensures c.from_residual.ensures.1 c.in_err-stencil.ensures

pub returns-then-is_done : goal.returns-then-is_done
returns-then-is_done c = whole_read _ _ _ _ c.new-reader.ensures c.in_ok-stencil.ensures c.if-is_done.ensures

pub returns-else-is_done : goal.returns-else-is_done
returns-else-is_done c = whole_left _ _ _ _ c.new-reader.ensures c.in_ok-stencil.ensures c.if-is_done.ensures
