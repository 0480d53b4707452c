use Rattle.std.proofs.Common.{◌+◌, ◌-◌, length}
use Rattle.session_outside.proofs.ReadLemmas.{IsReading}
use Rattle.session_outside.proofs.reading.read_rest.Given as goal

abbrev pub invariant-loop-count : goal.invariant-loop-count
invariant-loop-count g l =
    IsReading (g.L.Shelf.faults l.initial.shelf) (g.L.Shelf.faults l.shelf) (g.L.Shelf.turned l.initial.shelf) (g.L.Shelf.turned l.shelf) (g.L.Shelf.held l.initial.shelf) (g.L.Shelf.held l.shelf) (g.L.Shelf.is_open l.shelf) (g.L.Shelf.left l.initial.shelf) (g.L.Shelf.left l.shelf) l.bytes.items l.most

abbrev pub decreases-loop-count : goal.decreases-loop-count
decreases-loop-count g l = l.most + 1 - length l.bytes.items
