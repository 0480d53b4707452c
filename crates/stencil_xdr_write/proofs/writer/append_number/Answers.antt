use Rattle.stencil_xdr_write.proofs.Written.{number_more, number_end}
use Rattle.stencil_xdr_write.proofs.writer.append_number.Goals as goal

pub loop-preserved : goal.loop-preserved
loop-preserved c = number_more c.loop.out.items _ _ c.args.width c.loop.counter c.loop.rest c.loop-test.true c.in_ok-push.ensures.items c.loop.invariant

pub returns : goal.returns
returns c = number_end c.loop.out.items _ c.args.width c.loop.counter c.loop.rest c.loop-test.false c.loop.invariant
