use Rattle.parse_track.proofs.Order.{leaf_in_order}
use Rattle.parse_track.proofs.track.Track.declare.Goals as goal

pub invariant_of-self : goal.invariant_of-self
invariant_of-self c = leaf_in_order _ _ _ _ c.add_item.ensures.either c.self.invariant
