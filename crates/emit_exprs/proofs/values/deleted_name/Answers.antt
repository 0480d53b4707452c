use Rattle.bytecode_buf.proofs.AppendLemmas.{emits_both}
use Rattle.emit_exprs.proofs.values.deleted_name.Goals as goal

pub returns : goal.returns
returns c = emits_both c.in_ok-reading.ensures (c.in_ok-pop_true.ensures c.args.site.now.texts.now)
