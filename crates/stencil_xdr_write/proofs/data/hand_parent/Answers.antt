use Rattle.stencil_xdr_write.proofs.Handing.{at_last}
use Rattle.stencil_xdr_write.proofs.data.hand_parent.Goals as goal

pub returns-in_ok-number-in-Some : goal.returns-in_ok-number-in-Some
returns-in_ok-number-in-Some g c = rw c.in-Some.is (at_last c.number-in-Some-2.result c.number-in-Some-2.ensures (λ h. g.met.S.Sink.takes_both _ _ _ _ _ c.in_ok-number-in-Some.ensures h))
