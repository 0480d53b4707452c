use Rattle.std.proofs.Common.{ℕ, subst}
use Rattle.bytecode_buf.specs.declared.opcode.Op.{Op}
use Rattle.bytecode_buf.proofs.AppendLemmas.{emits_both}
use Rattle.emit_exprs.specs.Exprs.{keeping}
use Rattle.emit_exprs.specs.Sites.{EmitsAt}
use Rattle.emit_exprs.specs.Whole.{just}
use Rattle.emit_exprs.proofs.updates.updating_behind.Goals as goal

pub returns : goal.returns
returns c =
    emits_both
    (emits_both
    (emits_both
    (emits_both
    (emits_both c.in_ok-loading.ensures (c.in_ok-numeric_twice.ensures c.args.site.now.texts.now))
    (subst (λ (n : ℕ). EmitsAt c.args.site.now c.numeric_twice.new.out c.keeping.new.out (keeping n)) c.reach_size-size.ensures.is (c.in_ok-keeping.ensures c.args.site.now.texts.now)))
    (subst (λ (o : Op). EmitsAt c.args.site.now c.keeping.new.out c.plain.new.out (just o)) c.update_op.ensures.is (c.in_ok-plain.ensures c.args.site.now.texts.now)))
    c.in_ok-storing.ensures)
    (c.in_ok-plain-2.ensures c.args.site.now.texts.now)
