use Rattle.bytecode_buf.proofs.AppendLemmas.{emits_both}
use Rattle.emit_functions.proofs.params.given.Goals as goal

pub returns : goal.returns
returns c = emits_both (emits_both (c.in_ok-plain.ensures c.args.site.now.texts.now) c.in_ok-writing.ensures) (c.in_ok-plain-2.ensures c.args.site.now.texts.now)
