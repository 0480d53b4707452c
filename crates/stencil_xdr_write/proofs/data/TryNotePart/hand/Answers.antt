use Rattle.stencil_xdr_write.proofs.Handing.{at_last}
use Rattle.stencil_xdr_write.proofs.data.TryNotePart.hand.Goals as goal

pub returns-clause-taken : goal.returns-clause-taken
returns-clause-taken g c = at_last c.number-3.result c.number-3.ensures (λ h. g.met.S.Sink.takes_both _ _ _ _ _ (g.met.S.Sink.takes_both _ _ _ _ _ c.in_ok-number.ensures c.in_ok-number-2.ensures) h)
