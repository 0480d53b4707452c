use Rattle.std.proofs.Common.{ap, ◌∙◌}
use Rattle.bytecode_buf.specs.Width.{shape_of}
use Rattle.emit_operators.specs.Operators.{op_or}
use Rattle.emit_operators.proofs.Plain.{plain_op}
use Rattle.emit_operators.proofs.operators.op_of.Goals as goal

pub returns-in-Some-clause-is : goal.returns-in-Some-clause-is
returns-in-Some-clause-is c = ap (op_or c.args.other) c.in-Some.ensures

pub returns-in-Some-clause-plain : goal.returns-in-Some-clause-plain
returns-in-Some-clause-plain c = ap shape_of (ap (op_or c.args.other) c.in-Some.ensures) ∙ plain_op c.args.table.now c.args.other c.args.sign c.requires

pub returns-in-None-clause-is : goal.returns-in-None-clause-is
returns-in-None-clause-is c = ap (op_or c.args.other) c.in-None.ensures

pub returns-in-None-clause-plain : goal.returns-in-None-clause-plain
returns-in-None-clause-plain c = ap shape_of (ap (op_or c.args.other) c.in-None.ensures) ∙ plain_op c.args.table.now c.args.other c.args.sign c.requires
