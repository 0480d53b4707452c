use Rattle.stencil_xdr_write.proofs.Handing.{at_last}
use Rattle.stencil_xdr_write.proofs.stencil.hand_stencil.Goals as goal

pub returns-clause-taken : goal.returns-clause-taken
returns-clause-taken g c =
    rw (← c.merged.view_is) (at_last c.hand_each.result (rw c.deref-2.ensures.value at c.hand_each.ensures.taken) (λ h.
    g.met.S.Sink.takes_both _ _ _ _ _ (g.met.S.Sink.takes_both _ _ _ _ _ c.in_ok-hand.ensures.taken (rw c.deref.ensures.value at c.in_ok-hand_list.ensures.taken)) h))

pub returns-clause-fit : goal.returns-clause-fit
returns-clause-fit g c =
    rw (← c.merged.view_is) (at_last c.hand_each.result (rw c.deref-2.ensures.value at c.hand_each.ensures.fit) (λ h. record {
      top = c.in_ok-hand.ensures.fit;
      records = rw c.deref.ensures.value at c.in_ok-hand_list.ensures.fit;
      entries = h;
    }))
