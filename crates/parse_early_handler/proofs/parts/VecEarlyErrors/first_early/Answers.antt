use Rattle.std.proofs.Common.{map, drop_of_length-le, sym, ap, ◌∙◌}
use Rattle.parse_track.specs.EarlyErrors.{sooner}
use Rattle.parse_early_handler.specs.Firsts.{first_of}
use Rattle.parse_early_handler.proofs.Sooner.{sooner_none}
use Rattle.parse_early_handler.proofs.Turns.{first_on, next_of}
use Rattle.parse_early_handler.proofs.parts.VecEarlyErrors.first_early.Goals as goal

pub loop-part-preserved : goal.loop-part-preserved
loop-part-preserved g c = first_on g.T.EarlyErrors.first c.deref-part-items.result.now c.loop-part.part-index c.part-item.result c.loop-part.first c.first_early-error.result _ _ (next_of c.deref-part-items.result.now c.loop-part.part-index c.part-item.result c.loop-part-test.true c.part-item.is) c.first_early-error.ensures c.sooner-first.ensures c.loop-part.invariant

pub returns : goal.returns
returns g c =
    sym (sooner_none c.loop-part.first)
    ∙ (ap (λ xs. sooner c.loop-part.first (first_of (map g.T.EarlyErrors.first xs))) (sym (drop_of_length-le c.deref-part-items.result.now c.loop-part-test.false))
    ∙ (c.loop-part.invariant ∙ ap (λ xs. first_of (map g.T.EarlyErrors.first xs)) c.deref-part-items.ensures.value))
