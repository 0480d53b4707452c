use Rattle.std.proofs.Common.{◌≡◌, ℕ, drop}
use Rattle.parse_track.specs.AtomTables.{entry}
use Rattle.parse_track.specs.Shadows.{bind_back}
use Rattle.parse_track.proofs.closed.bind_back.Given as goal

abbrev pub invariant-loop-name : goal.invariant-loop-name
invariant-loop-name l = (y : ℕ) → bind_back (drop l.name-index l.shadowed) (entry l.env.entries.items) y ≡ bind_back l.shadowed (entry l.fn.env.entries.items) y
