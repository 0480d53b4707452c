use Rattle.bytecode_buf.proofs.ReadBack.{layout_is_read_back, reads_laid}
use Rattle.bytecode_buf.proofs.instruction.decode_at.Goals as goal

pub returns-clause-laid : goal.returns-clause-laid
returns-clause-laid c = reads_laid c.args.code.now c.args.at c.read_at.result c.read_at.ensures

pub returns-clause-layout : goal.returns-clause-layout
returns-clause-layout c = layout_is_read_back
