use Rattle.std.proofs.Common.{◌+◌, ◌++◌, [], ◌∷◌, None, refl, ap, ◌∙◌}
use Rattle.helper_tasks.proofs.Placing.{slots_more}
use Rattle.helper_tasks.proofs.place.slots.Goals as goal

pub loop-preserved : goal.loop-preserved
loop-preserved g c = c.in_ok-push.ensures.items ∙ (ap (λ l. l ++ None ∷ []) c.loop.invariant ∙ slots_more c.loop.counter (c.loop.counter + 1) refl)
