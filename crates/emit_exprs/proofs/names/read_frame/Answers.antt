use Rattle.bytecode_buf.proofs.AppendLemmas.{emits_both}
use Rattle.emit_exprs.proofs.names.read_frame.Goals as goal

pub returns : goal.returns
returns c texts = emits_both (c.in_ok-counted.ensures texts) (c.in_ok-check_frame.ensures texts)
