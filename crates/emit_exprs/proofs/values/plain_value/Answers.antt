use Rattle.bytecode_buf.proofs.AppendLemmas.{emits_both}
use Rattle.emit_exprs.proofs.values.plain_value.Goals as goal

pub returns : goal.returns
returns c = emits_both (c.in_ok-plain.ensures c.args.site.now.texts.now) (c.in_ok-used_value.ensures c.args.site.now.texts.now)
