use Rattle.std.proofs.Common.{Bool, ◌+◌, ◌∙◌, ap}
use Rattle.bytecode_buf.specs.Layout.{instr_by}
use Rattle.bytecode_buf.specs.Width.{first_width, is_jump_shape, second_width}
use Rattle.bytecode_buf.proofs.Decode.{instr_is_decoded}
use Rattle.bytecode_buf.proofs.instruction.read_instr.Goals as goal

pub returns : goal.returns
returns c =
    instr_is_decoded c.args.op c.args.at c.args.behind.now c.make_instr.result c.read_number-a.result c.read_second-b.result c.first_width-first.result c.second_width-second.result
    (c.first_width-first.ensures ∙ ap first_width c.shape-shape.ensures)
    (c.second_width-second.ensures ∙ ap second_width c.shape-shape.ensures)
    c.if-behind-first.false c.read_number-a.ensures c.read_second-b.ensures
    (c.make_instr.ensures
    ∙ ap (λ (is : Bool). instr_by is c.args.op c.read_number-a.result c.read_second-b.result (c.args.at + (1 + c.first_width-first.result + c.second_width-second.result)))
    (c.is_jump.ensures ∙ ap is_jump_shape c.shape-shape.ensures))
