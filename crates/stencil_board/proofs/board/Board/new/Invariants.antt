use Rattle.std.proofs.Common.{◌≡◌, length}
use Rattle.stencil_board.proofs.board.Board.new.Given as goal

-- a cell for each function so far
abbrev pub invariant-loop : goal.invariant-loop
invariant-loop g l = length l.cells.items ≡ l.counter
