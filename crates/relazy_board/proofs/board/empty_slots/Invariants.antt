use Rattle.relazy_board.specs.Board.{AreSlotsOf}
use Rattle.relazy_board.proofs.board.empty_slots.Given as goal

-- the slots so far are those of the first functions
abbrev pub invariant-loop-index : goal.invariant-loop-index
invariant-loop-index l = AreSlotsOf l.bytes l.index l.slots.items
