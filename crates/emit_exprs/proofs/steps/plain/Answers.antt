use Rattle.emit_exprs.proofs.Singles.{emits_plain}
use Rattle.emit_exprs.proofs.steps.plain.Goals as goal

pub returns : goal.returns
returns c texts = emits_plain texts c.args.out.now c.put.new.self c.args.op c.requires c.in_ok-put.ensures.ok
