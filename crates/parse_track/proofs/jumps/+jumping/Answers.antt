use Rattle.std.proofs.Common.{◌-◌, ◌<◌, drop, length, map, arith, add-one, drop-cons}
use Rattle.std.proofs.lemmas.List.{drop_all}
use Rattle.parse_track.specs.Log.{told_region}
use Rattle.parse_track.specs.Rows.{row_of}
use Rattle.parse_track.specs.Targets.{around_of}
use Rattle.parse_track.proofs.JumpSteps.{jump_step, jump_end}
use Rattle.parse_track.proofs.jumps.+jumping.Goals as goal

pub jumps_in-loop-item-preserved : goal.jumps_in-loop-item-preserved
jumps_in-loop-item-preserved t c =
    let l : c.loop-item.item-index < length c.items_at-items.result.now = omega arith in
    jump_step (map row_of c.args.rows.now) (told_region (c.args.room - 1) (map row_of c.args.rows.now)) c.items_at-items.result.now c.loop-item.item-index _
    (around_of c.args.targets.now) (around_of c.loop-item.targets) (around_of c.jumps_in_item.new.targets) c.loop-item.first c.in_ok-here.here c.lesser-first.result _
    (rw add-one (drop-cons c.items_at-items.result.now c.loop-item.item-index _ l))
    c.in_ok-here.ensures c.lesser-first.ensures c.loop-item.invariant

pub jumps_in-returns : goal.jumps_in-returns
jumps_in-returns t c =
    jump_end (map row_of c.args.rows.now) c.args.room c.args.region c.items_at-items.result.now (drop c.loop-item.item-index c.items_at-items.result.now)
    (around_of c.args.targets.now) (around_of c.loop-item.targets) c.loop-item.first (drop_all c.loop-item.item-index c.items_at-items.result.now (omega arith)) c.loop-item.invariant c.items_at-items.ensures.items
