use Rattle.stencil_xdr_write.proofs.Written.{wrote}
use Rattle.stencil_xdr_write.proofs.writer.WriterSink.atom.Goals as goal

pub returns : goal.returns
returns c = rw (← c.self.view_is) (wrote c.self.inside.table.now _ _ _ (rw c.number_at-number.ensures at c.in_ok-append_number.ensures))
