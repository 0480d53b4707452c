use Rattle.std.proofs.Common.{◌≡◌, ℕ, map, drop}
use Rattle.parse_track.specs.AtomTables.{entry}
use Rattle.parse_track.specs.LexicalNames.{keep_all}
use Rattle.parse_track.specs.Log.{name_of}
use Rattle.parse_track.proofs.clashing.open_names.Given as goal

abbrev pub invariant-loop-name : goal.invariant-loop-name
invariant-loop-name l =
    (y : ℕ) → keep_all l.depth l.is_head (map name_of (drop l.name-index l.opened)) (entry l.names.entries.items) y ≡ keep_all l.depth l.is_head (map name_of l.opened) (entry l.fn.names.entries.items) y
