use Rattle.std.proofs.Common.{ℕ, ◌+◌, [], ◌∷◌, ◌++◌, ◌^◌, arith}
use Rattle.bytecode_buf.specs.declared.opcode.Op.TheVariants as op
use Rattle.bytecode_buf.specs.Command.{counted}
use Rattle.bytecode_buf.proofs.AppendLemmas.{emits_both}
use Rattle.emit_exprs.specs.Exprs.{used_value}
use Rattle.emit_exprs.specs.Whole.{whole}
use Rattle.emit_exprs.proofs.Counting.{counted_code}
use Rattle.emit_exprs.proofs.counts.construct.Goals as goal

pub returns : goal.returns
returns c = record {
  made = counted_code c.args.site.now c.args.out.now c.used_value.new.out c.args.count 65535 (2 ^ 16) c.count_within-args.result (λ (n : ℕ). whole (counted op.Pick (n + 1) ∷ counted op.New n ∷ []) ++ used_value c.args.wanted) c.count_within-args.ensures.same (λ h. omega (arith, h))
      (emits_both (c.in_ok-counted.ensures c.args.site.now.texts.now) (emits_both (c.in_ok-counted-2.ensures c.args.site.now.texts.now) (c.in_ok-used_value.ensures c.args.site.now.texts.now)));
}
