use Rattle.std.proofs.Common.{◌≡◌, ◌+◌, ◌≤◌}
use Rattle.stencil_board.specs.Passes.{BelongsTo, lacking}
use Rattle.compile_specs.specs.Shown.{Wanted}
use Rattle.compile_initial.specs.Initial.{IsInitialOf}
use Rattle.compile_shown.specs.Shown.{AreFlags, flagged}
use Rattle.compile_shown.specs.UpTo.{IsUpTo}
use Rattle.compile_shown.proofs.flagged.add_flagged.Given as goal

-- those in front were passed, and what was compiled for them is counted
abbrev pub invariant-loop-place : goal.invariant-loop-place
invariant-loop-place g l =
    BelongsTo l.pass l.board
    × ((want : Wanted) (is : IsInitialOf l.board.bytes l.board.initial) → AreFlags want l.board.initial.parts.records l.shown
    → IsUpTo want l.board.bytes l.board.initial is 0 l.initial.merger → IsUpTo want l.board.bytes l.board.initial is l.place l.merger)
    × (g.T.Ticks.count l.tally + g.T.Ticks.room l.tally ≡ g.T.Ticks.count l.initial.tally + g.T.Ticks.room l.initial.tally)
    × (g.T.Ticks.count l.initial.tally ≤ g.T.Ticks.count l.tally)
    × (g.T.Ticks.count l.tally + lacking (flagged l.shown) l.pass ≤ g.T.Ticks.count l.initial.tally + lacking (flagged l.shown) l.initial.pass)
