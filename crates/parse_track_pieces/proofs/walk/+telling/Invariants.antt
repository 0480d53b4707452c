use Rattle.std.proofs.Common.{◌+◌, ◌*◌}
use Rattle.parse_track_pieces.specs.Weight.{weight}
use Rattle.parse_track_pieces.proofs.Walking.{Turn}
use Rattle.parse_track_pieces.proofs.walk.+telling.Given as goal

abbrev pub invariant-tell_pieces-loop-piece : goal.invariant-tell_pieces-loop-piece
invariant-tell_pieces-loop-piece l = Turn l.initial.track l.track l.initial.bodies.items l.bodies.items l.yielded

abbrev pub decreases-tell_piece : goal.decreases-tell_piece
decreases-tell_piece l = 6 * goal.size-tell_piece l + 0 + weight l.bodies.now.items

abbrev pub decreases-tell_pieces : goal.decreases-tell_pieces
decreases-tell_pieces l = 6 * goal.size-tell_pieces l + 1 + weight l.bodies.now.items

abbrev pub decreases-tell_next : goal.decreases-tell_next
decreases-tell_next l = 1 + weight l.bodies.now.items

abbrev pub decreases-tell_kept : goal.decreases-tell_kept
decreases-tell_kept l = 6 * goal.size-tell_kept l + 2 + weight l.bodies.now.items
