-- The early errors that look at no region, of bodies that are read apart.
use Rattle.std.specs.Prelude.{List}
use Rattle.std.specs.List.{flat_map}
use Rattle.script_grammar.specs.Tree.{Stmts}
use Rattle.parse_track.specs.declared.region.Early.{Early}
use Rattle.parse_track.specs.Notes.{notes_stmts}
use Rattle.early_apart_laws.specs.Emptied.{emptied}

-- Those of bodies, in each of which the bodies inside are passed over.
abbrev pub bodies_notes : List Stmts → List Early
bodies_notes = flat_map (λ (body : Stmts). notes_stmts (emptied body))
