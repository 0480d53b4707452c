use Rattle.std.proofs.Common.{sym, ◌∙◌}
use Rattle.emit_stmts.proofs.Hiding.{hidden}
use Rattle.emit_stmts.proofs.entering.hide.Goals as goal

pub returns : goal.returns
returns c texts = hidden c.args.slots.now (sym c.if-is_empty.false ∙ c.is_empty.ensures) (c.in_ok-plain.ensures texts) (c.in_ok-hide_each.ensures texts) (c.in_ok-plain-2.ensures texts)
