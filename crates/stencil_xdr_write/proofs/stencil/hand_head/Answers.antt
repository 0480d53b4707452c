use Rattle.stencil_xdr_write.proofs.Handing.{at_last}
use Rattle.stencil_xdr_write.proofs.stencil.hand_head.Goals as goal

pub returns-clause-taken : goal.returns-clause-taken
returns-clause-taken g c = at_last c.hand_name.result c.hand_name.ensures (λ h. g.met.S.Sink.takes_both _ _ _ _ _ c.in_ok-hand.ensures.taken (g.met.S.Sink.takes_both _ _ _ _ _ c.in_ok-hand-2.ensures.taken h))
