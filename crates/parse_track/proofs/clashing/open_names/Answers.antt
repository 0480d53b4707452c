use Rattle.std.proofs.Common.{arith}
use Rattle.parse_track.specs.AtomTables.{entry}
use Rattle.parse_track.proofs.Keeping.{keep_step}
use Rattle.parse_track.proofs.clashing.open_names.Goals as goal

pub loop-name-preserved : goal.loop-name-preserved
loop-name-preserved c =
    keep_step c.args.depth c.args.is_head c.args.opened.now c.loop-name.name-index _ (entry c.loop-name.names.entries.items) (entry c.open_name.new.names.entries.items) _ (omega arith)
    c.in_ok-open_name.ensures
    c.loop-name.invariant
