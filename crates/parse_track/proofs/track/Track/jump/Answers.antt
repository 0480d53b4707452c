use Rattle.parse_track.proofs.Order.{item_in_order}
use Rattle.parse_track.proofs.track.Track.jump.Goals as goal

pub invariant_of-self : goal.invariant_of-self
invariant_of-self c = item_in_order _ _ _ _ _ c.jumped.ensures c.add_item.ensures.either c.self.invariant
