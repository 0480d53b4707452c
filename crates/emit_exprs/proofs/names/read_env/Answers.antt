use Rattle.bytecode_buf.proofs.AppendLemmas.{emits_both}
use Rattle.emit_exprs.proofs.names.read_env.Goals as goal

pub returns : goal.returns
returns c texts = emits_both (c.in_ok-aliased.ensures texts) (c.in_ok-check_env.ensures texts)
