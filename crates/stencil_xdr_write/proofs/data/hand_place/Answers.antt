use Rattle.stencil_xdr_write.proofs.Handing.{at_last}
use Rattle.stencil_xdr_write.proofs.data.hand_place.Goals as goal

pub returns : goal.returns
returns g c = at_last c.number-2.result c.number-2.ensures (λ h. g.met.S.Sink.takes_both _ _ _ _ _ c.in_ok-number.ensures h)
