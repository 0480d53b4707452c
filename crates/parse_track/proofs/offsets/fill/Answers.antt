use Rattle.std.proofs.Common.{arith}
use Rattle.parse_track.specs.AtomSets.{has_atom}
use Rattle.parse_track.proofs.Clashes.{seen_step}
use Rattle.parse_track.proofs.offsets.fill.Goals as goal

pub loop-name-preserved : goal.loop-name-preserved
loop-name-preserved c = seen_step c.args.names.now c.loop-name.name-index (record { atom = 0; at = 0 }) (has_atom c.loop-name.atoms.marks.items c.loop-name.atoms.version) (has_atom c.insert.new.self.marks.items c.insert.new.self.version) (omega arith) c.in_ok-insert.ensures.has c.loop-name.invariant
