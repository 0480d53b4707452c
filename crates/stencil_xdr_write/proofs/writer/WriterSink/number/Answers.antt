use Rattle.stencil_xdr_write.proofs.Written.{wrote}
use Rattle.stencil_xdr_write.proofs.writer.WriterSink.number.Goals as goal

pub returns : goal.returns
returns c = rw (← c.self.view_is) (wrote c.self.inside.table.now _ _ _ c.in_ok-append_number.ensures)
