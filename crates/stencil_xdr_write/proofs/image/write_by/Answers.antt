use Rattle.std.proofs.Common.{◌∙◌}
use Rattle.stencil_xdr_write.proofs.Written.{written_all}
use Rattle.stencil_xdr_write.proofs.image.write_by.Goals as goal

pub returns : goal.returns
returns c =
    c.into_bytes.ensures ∙ written_all c.args.table.now c.args.texts.now c.args.merged.now c.new-writer.result c.bytes.new.self c.hand_list.new.sink c.hand_stencil.new.sink
    c.new-writer.ensures c.in_ok-bytes.ensures c.in_ok-hand_list.ensures.taken c.in_ok-hand_stencil.ensures.taken
