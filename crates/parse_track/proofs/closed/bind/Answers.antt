use Rattle.std.proofs.Common.{arith}
use Rattle.parse_track.specs.AtomTables.{entry}
use Rattle.parse_track.proofs.Binding.{bind_step}
use Rattle.parse_track.proofs.closed.bind.Goals as goal

pub loop-index-preserved : goal.loop-index-preserved
loop-index-preserved c =
    bind_step c.args.bound.now _ c.loop-index.index c.args.depth c.args.place (entry c.loop-index.env.entries.items) (entry c.set.new.self.entries.items) _ (omega arith)
    c.in_ok-set.ensures
    c.loop-index.invariant
