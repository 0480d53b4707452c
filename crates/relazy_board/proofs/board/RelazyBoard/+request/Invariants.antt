use Rattle.relazy_board.proofs.board.RelazyBoard.+request.Given as goal

-- the functions around one have smaller numbers
abbrev pub decreases-request : goal.decreases-request
decreases-request g l = l.number
