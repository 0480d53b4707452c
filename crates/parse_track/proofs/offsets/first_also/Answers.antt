use Rattle.std.proofs.Common.{map, arith, ◌∙◌, get_or}
use Rattle.parse_track.specs.Log.{name_of}
use Rattle.parse_track.proofs.Clashes.{also_step}
use Rattle.parse_track.proofs.offsets.first_also.Goals as goal

pub loop-name-preserved : goal.loop-name-preserved
loop-name-preserved c =
    also_step (map name_of c.args.xs.now) c.args.ys.now c.loop-name.name-index (record { atom = 0; at = 0 }) c.loop-name.first c.lesser_if-first.result _ c.contains.result (omega arith)
    c.lesser_if-first.ensures
    (c.contains.ensures ∙ c.in_ok-fill.ensures (get_or c.args.ys.now c.loop-name.name-index (record { atom = 0; at = 0 })).atom)
    c.loop-name.invariant
