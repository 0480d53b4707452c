use Rattle.relazy_board.proofs.Results.{compiled_if}
use Rattle.relazy_board.proofs.board.RelazyBoard.read.Goals as goal

pub returns : goal.returns
returns c = compiled_if c.slot.result.now c.args.self.now.bytes c.args.number c.enter.result c.slot.ensures.bytes c.slot.ensures.number c.enter.ensures
