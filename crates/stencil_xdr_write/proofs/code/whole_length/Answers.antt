use Rattle.std.proofs.Common.{arith}
use Rattle.stencil_xdr_read.proofs.CodeLoop.{reads_next, reads_none, reads_end}
use Rattle.stencil_xdr_write.proofs.CodeWalk.{size_none, size_more, size_end}
use Rattle.stencil_xdr_write.proofs.code.whole_length.Goals as goal

pub loop-init : goal.loop-init
loop-init c = size_none c.args.code.now

pub returns-in-None : goal.returns-in-None
returns-in-None c = size_end c.args.code.now _ c.loop.at c.loop.counter (reads_none c.args.code.now c.loop.at c.loop.counter c.loop-test.true c.in-None.ensures.value) c.loop.invariant

pub loop-preserved : goal.loop-preserved
loop-preserved c =
    size_more c.args.code.now _ c.loop.at c.loop.counter c.in-Some.instr
    (reads_next c.args.code.now c.loop.at c.loop.counter c.in-Some.instr (λ k. omega (arith, c.type_inv.code k)) c.loop-test.true c.in-Some.ensures.value) c.loop.invariant

pub returns : goal.returns
returns c = size_end c.args.code.now _ c.loop.at c.loop.counter (reads_end c.args.code.now c.loop.at c.loop.counter c.loop-test.false) c.loop.invariant
