use Rattle.bytecode_buf.proofs.AppendLemmas.{appends_here}
use Rattle.bytecode_buf.proofs.waits.target.Goals as goal

pub returns-clause-lands : goal.returns-clause-lands
returns-clause-lands c = appends_here c.args.aim c.args.out.now c.land.new.out _ c.args.inner.now c.args.waits.now.items _ c.in_ok-land.ensures.lands c.in_ok-put.ensures.ok
