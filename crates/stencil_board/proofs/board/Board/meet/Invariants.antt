use Rattle.std.proofs.Common.{◌≡◌, ◌<◌, ℕ}
use Rattle.stencil_board.specs.Passes.{AgreeAt}
use Rattle.stencil_board.proofs.board.Board.meet.Given as goal

-- the notes in front of the place agree
abbrev pub invariant-loop-place : goal.invariant-loop-place
invariant-loop-place g l = record {
  one : l.one ≡ l.initial.one;
  two : l.two ≡ l.initial.two;
  agree : (k : ℕ) → k < l.place → AgreeAt l.initial.one l.initial.two k;
}
