use Rattle.std.proofs.Common.{refl}
use Rattle.stencil_xdr_write.proofs.Naming.{numbered_none}
use Rattle.stencil_xdr_write.proofs.numbering.Numbering.new.Goals as goal

pub returns-clause-none : goal.returns-clause-none
returns-clause-none c = numbered_none c.args.texts.now _ refl c.in_ok-table.ensures.none c.new.ensures
