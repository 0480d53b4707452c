use Rattle.stencil_xdr_write.proofs.Handing.{HandsEach}
use Rattle.stencil_xdr_write.proofs.part.hand_each.Given as goal

abbrev pub invariant-loop-part : goal.invariant-loop-part
invariant-loop-part g l = HandsEach g.S.Sink.takes g.P.Part.items g.P.Part.fits l.initial.sink l.sink l.parts l.part-index
