use Rattle.std.proofs.Common.{None, Some, map, ◌∙◌}
use Rattle.parse_track.specs.Rows.{row_of}
use Rattle.parse_track.proofs.JumpSteps.{region_loop}
use Rattle.parse_track.proofs.jumps.+loops.Goals as goal

pub is_loop-returns-in-Some : goal.is_loop-returns-in-Some
is_loop-returns-in-Some t c =
    c.is_loop_at.ensures ∙ region_loop (map row_of c.args.rows.now) c.args.room c.args.region c.items_at.result.now (Some c.in-Some.inner) c.items_at.ensures.items c.in-Some.ensures.first

pub is_loop-returns-in-None : goal.is_loop-returns-in-None
is_loop-returns-in-None t c =
    region_loop (map row_of c.args.rows.now) c.args.room c.args.region c.items_at.result.now None c.items_at.ensures.items c.in-None.ensures.first
