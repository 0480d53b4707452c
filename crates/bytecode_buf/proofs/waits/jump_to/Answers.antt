use Rattle.bytecode_buf.proofs.AppendLemmas.{appends_wait_at}
use Rattle.bytecode_buf.proofs.waits.jump_to.Goals as goal

pub returns-clause-jumps : goal.returns-clause-jumps
returns-clause-jumps c texts notes = appends_wait_at texts c.args.out.now c.jump.new.self c.args.waits.now.items c.push.new.self.items notes c.args.op c.args.aim c.in_ok-at.at c.requires c.in_ok-at.ensures.ok c.in_ok-at.ensures.offset c.in_ok-push.ensures.items
