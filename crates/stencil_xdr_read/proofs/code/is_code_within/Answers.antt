use Rattle.std.proofs.Common.{true, false, refl, arith}
use Rattle.stencil_xdr_read.proofs.CodeLoop.{reads_next, reads_none, reads_end, testing_more, testing_fails, testing_end}
use Rattle.stencil_xdr_read.proofs.code.is_code_within.Goals as goal

pub returns-in-None : goal.returns-in-None
returns-in-None c = testing_end c.args.functions c.args.code.now c.loop.at c.loop.counter _ (reads_none c.args.code.now c.loop.at c.loop.counter c.loop-test.true c.in-None.ensures.value) refl c.loop.invariant

pub returns-then-not-fits : goal.returns-then-not-fits
returns-then-not-fits c =
    testing_fails c.args.functions c.args.code.now c.loop.at c.loop.counter c.in-Some.instr false
    (reads_next c.args.code.now c.loop.at c.loop.counter c.in-Some.instr (λ k. omega (arith, c.type_inv.code k)) c.loop-test.true c.in-Some.ensures.value) c.if-not-fits.ensures refl c.loop.invariant

pub loop-preserved : goal.loop-preserved
loop-preserved c =
    testing_more c.args.functions c.args.code.now c.loop.at c.loop.counter c.in-Some.instr true (λ k. omega (arith, c.type_inv.code k))
    (reads_next c.args.code.now c.loop.at c.loop.counter c.in-Some.instr (λ k. omega (arith, c.type_inv.code k)) c.loop-test.true c.in-Some.ensures.value) c.if-not-fits.ensures refl c.loop.invariant

pub returns : goal.returns
returns c = testing_end c.args.functions c.args.code.now c.loop.at c.loop.counter _ (reads_end c.args.code.now c.loop.at c.loop.counter c.loop-test.false) refl c.loop.invariant
