use Rattle.std.proofs.Common.{◌+◌, arith}
use Rattle.parse_track.proofs.Marked.{resized}
use Rattle.parse_track.proofs.atom_set.AtomSet.reach.Goals as goal

pub returns-clause-same : goal.returns-clause-same
returns-clause-same c = λ y. resized c.args.self.now.marks.items c.resize.new.self.items (c.args.atom + 1) _ y (omega arith) c.in_ok-resize.ensures.items
