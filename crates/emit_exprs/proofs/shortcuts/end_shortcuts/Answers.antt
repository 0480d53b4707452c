use Rattle.emit_exprs.proofs.Choices.{ends_of}
use Rattle.emit_exprs.proofs.shortcuts.end_shortcuts.Goals as goal

pub returns : goal.returns
returns c = ends_of c.args.site.now c.new-outside.ensures.items c.in_ok-target.ensures.lands c.in_ok-target.ensures.waits
