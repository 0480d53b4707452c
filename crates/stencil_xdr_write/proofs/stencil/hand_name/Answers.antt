use Rattle.stencil_xdr_write.proofs.Handing.{at_last}
use Rattle.stencil_xdr_write.proofs.stencil.hand_name.Goals as goal

pub returns-in_ok-number-in-Some : goal.returns-in_ok-number-in-Some
returns-in_ok-number-in-Some g c = rw c.in-Some.is (at_last c.atom.result c.atom.ensures (λ h. g.met.S.Sink.takes_both _ _ _ _ _ c.in_ok-number-in-Some.ensures h))
