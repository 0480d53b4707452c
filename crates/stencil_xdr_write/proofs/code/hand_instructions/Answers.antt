use Rattle.std.proofs.Common.{arith}
use Rattle.stencil_xdr_read.proofs.CodeLoop.{reads_next, reads_none, reads_end}
use Rattle.stencil_xdr_write.proofs.CodeWalk.{code_none, code_more, code_end}
use Rattle.stencil_xdr_write.proofs.code.hand_instructions.Goals as goal

pub loop-init : goal.loop-init
loop-init g c = code_none g.S.Sink.takes _ c.args.code.now (g.met.S.Sink.takes_none _)

pub returns-in-None : goal.returns-in-None
returns-in-None g c = code_end g.S.Sink.takes _ _ c.args.code.now c.loop.at c.loop.counter (reads_none c.args.code.now c.loop.at c.loop.counter c.loop-test.true c.in-None.ensures.value) c.loop.invariant

pub loop-preserved : goal.loop-preserved
loop-preserved g c =
    code_more g.S.Sink.takes g.met.S.Sink.takes_both _ _ _ c.args.code.now c.loop.at c.loop.counter c.in-Some.instr
    (reads_next c.args.code.now c.loop.at c.loop.counter c.in-Some.instr (λ k. omega (arith, c.type_inv.code k)) c.loop-test.true c.in-Some.ensures.value) c.in_ok-hand_instruction-in-Some.ensures c.loop.invariant

pub returns : goal.returns
returns g c = code_end g.S.Sink.takes _ _ c.args.code.now c.loop.at c.loop.counter (reads_end c.args.code.now c.loop.at c.loop.counter c.loop-test.false) c.loop.invariant
