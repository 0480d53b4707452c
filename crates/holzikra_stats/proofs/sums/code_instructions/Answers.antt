use Rattle.std.proofs.Common.{arith}
use Rattle.script_image.proofs.CodeLoop.{reads_next, reads_none, reads_end, count_next, count_end}
use Rattle.holzikra_stats.proofs.sums.code_instructions.Goals as goal

pub returns-in-None : goal.returns-in-None
returns-in-None c = count_end c.loop.count _ _ (reads_none c.args.code.now c.loop.at c.loop.counter c.loop-test.true c.in-None.ensures.value) c.loop.invariant.0

pub loop-preserved : goal.loop-preserved
loop-preserved c = (
  count_next c.args.code.now c.loop.count _ c.loop.at c.loop.counter c.in-Some.instr (reads_next c.args.code.now c.loop.at c.loop.counter c.in-Some.instr (λ k. omega (arith, c.type_inv.code k)) c.loop-test.true c.in-Some.ensures.value) c.loop.invariant.0,
  omega (arith, c.loop.invariant.1),
)

pub returns : goal.returns
returns c = count_end c.loop.count _ _ (reads_end c.args.code.now c.loop.at c.loop.counter c.loop-test.false) c.loop.invariant.0
