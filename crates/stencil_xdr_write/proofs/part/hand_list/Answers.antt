use Rattle.stencil_xdr_write.proofs.Handing.{at_last}
use Rattle.stencil_xdr_write.proofs.part.hand_list.Goals as goal

pub returns-clause-taken : goal.returns-clause-taken
returns-clause-taken g c = at_last c.hand_each.result c.hand_each.ensures.taken (λ h. g.met.S.Sink.takes_both _ _ _ _ _ c.in_ok-number.ensures h)
