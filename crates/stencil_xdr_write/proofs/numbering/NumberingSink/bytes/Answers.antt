use Rattle.stencil_xdr_write.proofs.Naming.{bytes_named}
use Rattle.stencil_xdr_write.proofs.numbering.NumberingSink.bytes.Goals as goal

pub returns : goal.returns
returns c = bytes_named c.args.self.now c.args._bytes.now
