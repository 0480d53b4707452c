use Rattle.stencil_board.specs.Passes.{BelongsTo}
use Rattle.example_scripts.proofs.threads.asked_by.Given as goal

-- the passes are of their boards still
abbrev pub invariant-loop-number : goal.invariant-loop-number
invariant-loop-number g l = record {
  here : BelongsTo l.pass l.board;
  there : BelongsTo l.there l.second;
}
