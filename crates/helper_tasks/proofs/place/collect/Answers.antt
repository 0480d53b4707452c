use Rattle.std.proofs.Common.{◌≡◌, ◌<◌, length, ap, sym, ◌∙◌, subst}
use Rattle.helper_tasks.specs.Count.{Each}
use Rattle.helper_tasks.specs.Crew.{placed}
use Rattle.helper_tasks.proofs.Placing.{collect_slots, collect_tasks, collect_shares}
use Rattle.helper_tasks.proofs.place.collect.Goals as goal

pub place_all-requires : goal.place_all-requires
place_all-requires g c =
    let inv = c.loop-desk.invariant in
    let size : c.args.count ≡ length c.deref_mut.result.now = sym (ap length c.deref_mut.ensures.value ∙ inv.4) in
    subst (λ n. Each (λ m. m.task < n) c.in-Some.desk.made.items) size (collect_tasks _ _ _ _ c.in-Some.ensures.steps.0 inv.5).0

pub loop-desk-preserved : goal.loop-desk-preserved
loop-desk-preserved g c =
    let inv = c.loop-desk.invariant in
    let step = c.in-Some.ensures.steps.0 in
    let now = c.place_all.ensures in
    let slots = collect_slots c.loop-desk.slots.items c.place_all.new.slots c.loop-desk.slots.len _ c.in-Some.desk _ _ _ step (sym c.loop-desk.slots.ok.0) inv.4 (now ∙ ap (λ s. placed s c.in-Some.desk.made.items) c.deref_mut.ensures.value) inv.3 in (
      tt,
      tt,
      collect_shares _ _ c.in-Some.desk _ _ _ c.in_ok-push.ensures.items step inv.2,
      slots.0,
      slots.1,
      (collect_tasks _ _ _ _ step inv.5).1,
    )
