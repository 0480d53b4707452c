use Rattle.std.proofs.Common.{ℕ, ◌^◌, arith}
use Rattle.bytecode_buf.specs.declared.opcode.Op.TheVariants as op
use Rattle.bytecode_buf.specs.Command.{counted}
use Rattle.bytecode_buf.specs.Pieces.{one}
use Rattle.emit_exprs.proofs.Counting.{counted_code}
use Rattle.emit_exprs.proofs.counts.new_array.Goals as goal

pub returns : goal.returns
returns c = counted_code c.args.site.now c.args.out.now c.counted.new.out c.args.count 4294967295 (2 ^ 32) c.count_within.result (λ (n : ℕ). one (counted op.NewArray n)) c.count_within.ensures.same (λ h. omega (arith, h)) (c.in_ok-counted.ensures c.args.site.now.texts.now)
