use Rattle.std.proofs.Common.{◌≡◌, map, replicate, take, None}
use Rattle.once_cell.specs.Once.{cell_name}
use Rattle.stencil_board.proofs.board.Board.pass.Given as goal

-- a note of each cell so far, which knows nothing
abbrev pub invariant-loop-cell : goal.invariant-loop-cell
invariant-loop-cell g l = record {
  cells : map (λ n. n.cell) l.notes.items ≡ map cell_name (take l.cell-index l.self-inside.cells.items);
  known : map (λ n. n.known) l.notes.items ≡ replicate l.cell-index None;
  own : l.own.items ≡ replicate l.cell-index None;
}
