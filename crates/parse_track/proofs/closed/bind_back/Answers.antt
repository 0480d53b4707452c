use Rattle.std.proofs.Common.{arith}
use Rattle.parse_track.specs.AtomTables.{entry}
use Rattle.parse_track.proofs.Shadowing.{bind_back_step}
use Rattle.parse_track.proofs.closed.bind_back.Goals as goal

pub loop-name-preserved : goal.loop-name-preserved
loop-name-preserved c =
    bind_back_step c.args.shadowed.now _ c.loop-name.name-index (entry c.loop-name.env.entries.items) (entry c.set.new.self.entries.items) _ (omega arith)
    c.in_ok-set.ensures
    c.loop-name.invariant
