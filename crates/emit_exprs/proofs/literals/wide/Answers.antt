use Rattle.std.proofs.Common.{refl, arith}
use Rattle.bytecode_buf.specs.declared.opcode.Op.TheVariants as op
use Rattle.emit_exprs.proofs.Singles.{emits_counted}
use Rattle.emit_exprs.proofs.literals.wide.Goals as goal

pub returns : goal.returns
returns c texts = emits_counted texts c.args.out.now c.put.new.self op.Double c.args.number refl (omega arith) c.in_ok-put.ensures.ok
