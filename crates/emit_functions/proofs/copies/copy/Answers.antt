use Rattle.emit_functions.proofs.CopyRows.{copy_some, copy_none}
use Rattle.emit_functions.proofs.copies.copy.Goals as goal

pub returns-in_ok-plain : goal.returns-in_ok-plain
returns-in_ok-plain c = copy_some c.args.outside.now c.args.params.now c.args.atom c.requires c.is_param.ensures c.if-is_param.true c.in_ok-reading.ensures c.in_ok-writing.ensures (c.in_ok-plain.ensures c.args.inside.now.texts.now)

pub returns-else-is_param : goal.returns-else-is_param
returns-else-is_param c hops outer passes = copy_none c.args.inside.now c.args.out.now c.args.params.now c.args.atom c.is_param.ensures c.if-is_param.false hops outer
