use Rattle.stencil_xdr_write.proofs.Handing.{at_last}
use Rattle.stencil_xdr_write.proofs.data.BindingPart.hand.Goals as goal

pub returns-clause-taken : goal.returns-clause-taken
returns-clause-taken g c = at_last c.hand-2.result c.hand-2.ensures.taken (λ h. g.met.S.Sink.takes_both _ _ _ _ _ c.in_ok-atom.ensures (g.met.S.Sink.takes_both _ _ _ _ _ c.in_ok-hand.ensures.taken h))
