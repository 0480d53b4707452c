use Rattle.std.proofs.Common.{subst}
use Rattle.bytecode_buf.specs.declared.opcode.Op.{Op}
use Rattle.bytecode_buf.specs.Emits.{Emits}
use Rattle.bytecode_buf.proofs.AppendLemmas.{emits_both}
use Rattle.emit_exprs.specs.Whole.{just}
use Rattle.emit_exprs.proofs.updates.numeric_updated.Goals as goal

pub returns : goal.returns
returns c texts =
    emits_both (c.in_ok-plain.ensures texts)
    (subst (λ (o : Op). Emits texts c.plain.new.out c.plain-2.new.out (just o)) c.update_op.ensures.is (c.in_ok-plain-2.ensures texts))
