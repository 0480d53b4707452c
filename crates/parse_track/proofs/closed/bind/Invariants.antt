use Rattle.std.proofs.Common.{◌≡◌, ℕ, ◌+◌, drop}
use Rattle.parse_track.specs.AtomTables.{entry}
use Rattle.parse_track.specs.Shadows.{atoms_bound}
use Rattle.parse_track.specs.Walk.{bind_all}
use Rattle.parse_track.proofs.closed.bind.Given as goal

abbrev pub invariant-loop-index : goal.invariant-loop-index
invariant-loop-index l =
    (y : ℕ) → bind_all l.depth (l.place + l.index) (atoms_bound (drop l.index l.bound)) (entry l.env.entries.items) y ≡ bind_all l.depth l.place (atoms_bound l.bound) (entry l.fn.env.entries.items) y
