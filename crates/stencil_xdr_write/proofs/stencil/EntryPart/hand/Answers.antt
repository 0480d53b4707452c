use Rattle.stencil_xdr_write.proofs.Handing.{at_last}
use Rattle.stencil_xdr_write.proofs.stencil.EntryPart.hand.Goals as goal

pub returns-in_ok-number-in-Compiled-clause-taken : goal.returns-in_ok-number-in-Compiled-clause-taken
returns-in_ok-number-in-Compiled-clause-taken g c = rw c.in-Compiled.is (at_last c.hand.result c.hand.ensures.taken (λ h. g.met.S.Sink.takes_both _ _ _ _ _ c.in_ok-number-in-Compiled.ensures h))
