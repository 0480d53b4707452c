use Rattle.stencil_xdr_write.proofs.Handing.{hands_none, hands_more, hands_taken, hands_fit}
use Rattle.stencil_xdr_write.proofs.part.hand_each.Goals as goal

pub loop-part-init : goal.loop-part-init
loop-part-init g c = hands_none g.S.Sink.takes g.P.Part.items g.P.Part.fits _ _ (g.met.S.Sink.takes_none _)

pub loop-part-preserved : goal.loop-part-preserved
loop-part-preserved g c = hands_more g.S.Sink.takes g.P.Part.items g.P.Part.fits g.met.S.Sink.takes_both _ _ _ _ _ _ c.loop-part-test.true c.part-item.is c.in_ok-hand.ensures.taken c.in_ok-hand.ensures.fit c.loop-part.invariant

pub returns-clause-taken : goal.returns-clause-taken
returns-clause-taken g c = hands_taken g.S.Sink.takes g.P.Part.items g.P.Part.fits _ _ _ _ c.loop-part-test.false c.loop-part.invariant

pub returns-clause-fit : goal.returns-clause-fit
returns-clause-fit g c = hands_fit g.S.Sink.takes g.P.Part.items g.P.Part.fits _ _ _ _ c.loop-part-test.false c.loop-part.invariant
