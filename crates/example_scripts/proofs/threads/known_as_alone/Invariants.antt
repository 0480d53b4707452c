use Rattle.std.specs.Prelude.{◌<◌}
use Rattle.stencil_board.specs.Passes.{BelongsTo}
use Rattle.example_scripts.proofs.threads.known_as_alone.Given as goal

-- the pass is of the board still, and fewer are alike than the next number
abbrev pub invariant-loop-number : goal.invariant-loop-number
invariant-loop-number g l = record {
  belongs : BelongsTo l.pass l.board;
  alike : l.alike < l.number;
}
