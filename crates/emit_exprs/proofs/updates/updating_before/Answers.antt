use Rattle.bytecode_buf.proofs.AppendLemmas.{emits_both}
use Rattle.emit_exprs.proofs.updates.updating_before.Goals as goal

pub returns : goal.returns
returns c = emits_both (emits_both c.in_ok-loading.ensures (c.in_ok-numeric_updated.ensures c.args.site.now.texts.now)) c.in_ok-storing.ensures
