use Rattle.stencil_xdr_write.proofs.Written.{wrote}
use Rattle.stencil_xdr_write.proofs.writer.WriterSink.bytes.Goals as goal

pub returns : goal.returns
returns c = rw (← c.self.view_is) (wrote c.self.inside.table.now _ _ _ c.in_ok-extend_from_slice.ensures.items)
