use Rattle.stencil_xdr_write.proofs.Handing.{at_last}
use Rattle.stencil_xdr_write.proofs.stencil.FunctionStencilPart.hand.Goals as goal

pub returns-clause-taken : goal.returns-clause-taken
returns-clause-taken g c =
    rw (← c.self.view_is) (at_last c.hand_list-3.result (rw c.deref-4.ensures.value at c.hand_list-3.ensures.taken) (λ h.
    g.met.S.Sink.takes_both _ _ _ _ _ (g.met.S.Sink.takes_both _ _ _ _ _ (g.met.S.Sink.takes_both _ _ _ _ _ (g.met.S.Sink.takes_both _ _ _ _ _ (g.met.S.Sink.takes_both _ _ _ _ _ c.in_ok-hand_head.ensures.taken c.in_ok-hand.ensures.taken) (rw c.deref.ensures.value at c.in_ok-hand_list.ensures.taken))
    (rw c.deref-2.ensures.value at c.in_ok-hand_code.ensures.taken)) (rw c.deref-3.ensures.value at c.in_ok-hand_list-2.ensures.taken)) h))

pub returns-clause-fit : goal.returns-clause-fit
returns-clause-fit g c =
    rw (← c.self.view_is) (at_last c.hand_list-3.result (rw c.deref-4.ensures.value at c.hand_list-3.ensures.fit) (λ h. record {
      fits = record {
        extent = c.in_ok-hand_head.ensures.fit;
        scopes = rw c.deref.ensures.value at c.in_ok-hand_list.ensures.fit;
        code = rw c.deref-2.ensures.value at c.in_ok-hand_code.ensures.fit;
        notes = rw c.deref-3.ensures.value at c.in_ok-hand_list-2.ensures.fit;
        inner = h;
      };
      bytes = rw c.deref-2.ensures.value at c.in_ok-hand_code.ensures.bytes;
    }))
