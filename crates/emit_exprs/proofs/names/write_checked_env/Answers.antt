use Rattle.bytecode_buf.specs.declared.opcode.Op.TheVariants as op
use Rattle.bytecode_buf.specs.Command.{aliased}
use Rattle.emit_exprs.specs.declared.names.Access.TheVariants as access
use Rattle.emit_exprs.specs.Names.{read_env}
use Rattle.emit_exprs.proofs.Singles.{emits_after_check}
use Rattle.emit_exprs.proofs.names.write_checked_env.Goals as goal

pub returns : goal.returns
returns c texts =
    emits_after_check texts c.args.out.now c.read_env.new.out c.plain.new.out c.aliased.new.out (read_env c.args.hops c.args.slot access.Checked) (aliased op.SetAliasedVar c.args.hops c.args.slot)
    (c.in_ok-read_env.ensures texts) (c.in_ok-plain.ensures texts) (c.in_ok-aliased.ensures texts)
