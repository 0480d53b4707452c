use Rattle.std.proofs.Common.{refl, ap, sym, ◌∙◌}
use Rattle.helper_tasks.specs.Hands.{places}
use Rattle.helper_tasks.proofs.Counts.{no_items}
use Rattle.helper_tasks.proofs.Settling.{from, back_step, look_here, from_end}
use Rattle.helper_tasks.proofs.settle.bring_back.Goals as goal

pub absorb-requires-clause-deque : goal.absorb-requires-clause-deque
absorb-requires-clause-deque g c =
    (look_here c.loop-look.at c.loop-look.helpers c.index-helpers-at.result c.in-Some.look _ (ap places (sym c.in-Some.ensures.steps.0) ∙ c.loop-look.invariant.2)).1

pub loop-look-preserved : goal.loop-look-preserved
loop-look-preserved g c =
    let inv = c.loop-look.invariant in
    let step = c.in-Some.ensures.steps.0 in
    let next = back_step _ c.loop-look.at _ c.loop-look.helpers c.index-helpers-at.result c.absorb.new.self c.in-Some.look _ _ refl step inv.2 inv.3 inv.4 c.absorb.ensures in
    (tt, tt, next.0, next.1, next.2)

pub returns : goal.returns
returns g c =
    let inv = c.loop-look.invariant in
    let none = no_items c.loop-look.look-iterator.rest.items (sym c.loop-look.look-iterator.rest.ok.0 ∙ c.in-None.ensures.steps.0) in
    sym (from_end c.loop-look.at c.loop-look.helpers) ∙ (ap (from c.loop-look.at c.loop-look.helpers) (sym none) ∙ inv.4)
