use Rattle.bytecode_buf.proofs.Bytes.{writing_none, writing_more, writing_all}
use Rattle.bytecode_buf.proofs.little_endian.write_number.Goals as goal

pub loop-i-init : goal.loop-i-init
loop-i-init c = writing_none _ _ _ _

pub loop-i-preserved : goal.loop-i-preserved
loop-i-preserved c = writing_more _ _ _ _ _ _ _ c.loop-i-test.true c.loop-i.invariant

pub returns : goal.returns
returns c = writing_all _ _ _ _ _ _ _ c.requires c.loop-i.auto.i-end c.loop-i-test.false c.loop-i.invariant
