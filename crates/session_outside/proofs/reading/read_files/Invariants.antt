use Rattle.std.proofs.Common.{map, take}
use Rattle.std.specs.String.{string_bytes}
use Rattle.session_outside.proofs.ManyLemmas.{IsReadingAll}
use Rattle.session_outside.proofs.reading.read_files.Given as goal

abbrev pub invariant-loop-name : goal.invariant-loop-name
invariant-loop-name g l =
    IsReadingAll (g.L.Shelf.faults l.initial.shelf) (g.L.Shelf.faults l.shelf) (g.L.Shelf.turned l.initial.shelf) (g.L.Shelf.turned l.shelf) (g.L.Shelf.held l.initial.shelf) (g.L.Shelf.held l.shelf) l.most (map string_bytes (take l.name-index l.names)) l.left l.reads.items
