use Rattle.parse_track.proofs.Order.{around_in_order}
use Rattle.parse_track.proofs.track.Track.leave.Goals as goal

pub invariant_of-self : goal.invariant_of-self
invariant_of-self c = rw (c.around-self-inside.ensures, c.deref.ensures.value) (around_in_order _ _ c.self.invariant)
