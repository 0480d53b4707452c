use Rattle.emit_exprs.proofs.Choices.{begins_short}
use Rattle.emit_exprs.proofs.shortcuts.jump_short.Goals as goal

pub returns : goal.returns
returns c = begins_short c.args.short c.op.result c.op.ensures c.in_ok-jump_to.ensures.jumps c.in_ok-jump_to.ensures.waits c.in_ok-plain.ensures
