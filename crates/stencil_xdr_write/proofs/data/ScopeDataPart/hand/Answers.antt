use Rattle.stencil_xdr_write.proofs.Handing.{at_last}
use Rattle.stencil_xdr_write.proofs.data.ScopeDataPart.hand.Goals as goal

pub returns-clause-taken : goal.returns-clause-taken
returns-clause-taken g c =
    rw (← c.self.view_is) (at_last c.hand-2.result c.hand-2.ensures.taken (λ h.
    g.met.S.Sink.takes_both _ _ _ _ _ (g.met.S.Sink.takes_both _ _ _ _ _ (g.met.S.Sink.takes_both _ _ _ _ _ c.in_ok-hand.ensures.taken c.in_ok-hand_parent.ensures) (rw c.deref.ensures.value at c.in_ok-hand_list.ensures.taken)) h))
