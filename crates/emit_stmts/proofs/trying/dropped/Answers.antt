use Rattle.bytecode_buf.proofs.AppendLemmas.{emits_both}
use Rattle.emit_stmts.proofs.trying.dropped.Goals as goal

pub returns : goal.returns
returns c texts = emits_both (c.in_ok-plain.ensures texts) (c.in_ok-plain-2.ensures texts)
