use Rattle.bytecode_buf.proofs.AppendLemmas.{appends_turn_at}
use Rattle.bytecode_buf.proofs.waits.turn.Goals as goal

pub returns : goal.returns
returns c texts old waits notes code place x = appends_turn_at texts old c.args.out.now c.jump.new.self c.patch.new.self waits notes code c.args.op c.args.start c.in_ok-at.at c.requires.jump place c.requires.start c.in_ok-at.ensures.offset c.in_ok-at.ensures.ok c.patch.ensures x
