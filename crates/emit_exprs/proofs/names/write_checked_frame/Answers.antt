use Rattle.bytecode_buf.specs.declared.opcode.Op.TheVariants as op
use Rattle.bytecode_buf.specs.Command.{counted}
use Rattle.emit_exprs.specs.declared.names.Access.TheVariants as access
use Rattle.emit_exprs.specs.Names.{read_frame}
use Rattle.emit_exprs.proofs.Singles.{emits_after_check}
use Rattle.emit_exprs.proofs.names.write_checked_frame.Goals as goal

pub returns : goal.returns
returns c texts =
    emits_after_check texts c.args.out.now c.read_frame.new.out c.plain.new.out c.counted.new.out (read_frame c.args.slot access.Checked) (counted op.SetLocal c.args.slot)
    (c.in_ok-read_frame.ensures texts) (c.in_ok-plain.ensures texts) (c.in_ok-counted.ensures texts)
