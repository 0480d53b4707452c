use Rattle.std.proofs.Common.{arith}
use Rattle.stencil_merge.proofs.Interning.{own_places_next}
use Rattle.stencil_merge.proofs.atoms.own_places.Goals as goal

pub loop-place-preserved : goal.loop-place-preserved
loop-place-preserved c = own_places_next c.args.texts.now c.loop-place.numbers.items c.push.new.self.items c.loop-place.place (omega arith) c.in_ok-push.ensures.items c.loop-place.invariant
