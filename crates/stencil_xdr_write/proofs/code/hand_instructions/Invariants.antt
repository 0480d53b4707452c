use Rattle.stencil_xdr_write.proofs.CodeWalk.{HandsCode}
use Rattle.stencil_xdr_write.proofs.code.hand_instructions.Given as goal

abbrev pub invariant-loop : goal.invariant-loop
invariant-loop g l = HandsCode g.S.Sink.takes l.initial.sink l.sink l.code l.at l.counter
