use Rattle.std.proofs.Common.{[], slice_index_or}
use Rattle.bytecode_buf.specs.declared.opcode.Op.TheVariants as op
use Rattle.bytecode_buf.specs.Command.{named}
use Rattle.emit_exprs.specs.declared.names.Access.TheVariants as access
use Rattle.emit_exprs.specs.Names.{read_frame}
use Rattle.emit_exprs.proofs.Singles.{emits_after_check}
use Rattle.emit_exprs.proofs.names.write_constant_frame.Goals as goal

pub returns : goal.returns
returns c texts =
    emits_after_check texts c.args.out.now c.read_frame.new.out c.plain.new.out c.named.new.out (read_frame c.args.slot access.Constant) (named op.ThrowSetConst (slice_index_or texts c.args.atom []))
    (c.in_ok-read_frame.ensures texts) (c.in_ok-plain.ensures texts) (c.in_ok-named.ensures texts)
