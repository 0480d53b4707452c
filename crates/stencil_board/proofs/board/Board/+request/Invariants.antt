use Rattle.stencil_board.proofs.board.Board.+request.Given as goal

-- the function around one has a smaller number
abbrev pub decreases-request : goal.decreases-request
decreases-request g l = l.number
