use Rattle.std.proofs.Common.{◌+◌, ◌*◌}
use Rattle.parse_track.proofs.jumps.+loops.Given as goal

abbrev pub decreases-is_loop_at : goal.decreases-is_loop_at
decreases-is_loop_at l = 2 * l.room + 1

abbrev pub decreases-is_loop : goal.decreases-is_loop
decreases-is_loop l = 2 * l.room
