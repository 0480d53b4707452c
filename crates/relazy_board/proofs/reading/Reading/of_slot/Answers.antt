use Rattle.std.proofs.Common.{◌∙◌, ap, not}
use Rattle.relazy_board.proofs.Standing.{reads}
use Rattle.relazy_board.proofs.reading.Reading.of_slot.Goals as goal

pub read-requires : goal.read-requires
read-requires c = reads c.args.claim.right c.args.claim.value c.get.result.now c.requires c.get.ensures.0 (c.is_none.ensures ∙ ap not c.if-is_none.false)
