use Rattle.stencil_xdr_write.proofs.Handing.{at_last}
use Rattle.stencil_xdr_write.proofs.data.ClosedNamePart.hand.Goals as goal

pub returns-clause-taken : goal.returns-clause-taken
returns-clause-taken g c = at_last c.atom.result c.atom.ensures (λ h. g.met.S.Sink.takes_both _ _ _ _ _ c.in_ok-number.ensures h)
