use Rattle.std.proofs.Common.{length, ap, sym, ◌∙◌}
use Rattle.std.proofs.lemmas.List.{length-map}
use Rattle.helper_tasks.proofs.Finishing.{refilled, staffed_tasks, staffed_shares, staffed_fresh}
use Rattle.helper_tasks.proofs.crew.staff.Goals as goal

pub returns-clause-tasks : goal.returns-clause-tasks
returns-clause-tasks g c =
    let size = c.give_looks.auto.helpers ∙ (ap length c.deref_mut.ensures.value ∙ sym c.in_ok-helpers.helpers.ok.0) in
    staffed_tasks c.args.order.now c.hire.new.all.dealt.pushed _ c.in_ok-helpers.helpers.items c.deref_mut.result.now c.give_looks.new.helpers _ c.deref_mut.ensures.value
    (refilled c.in_ok-helpers.helpers.len c.give_looks.new.helpers c.in_ok-helpers.helpers.items size) c.in_ok-give_looks.ensures.same (ap (λ r. r.dealt.pushed) c.in_ok-helpers.ensures.all) c.in_ok-helpers.ensures.rest

pub returns-clause-shares : goal.returns-clause-shares
returns-clause-shares g c =
    let size = c.give_looks.auto.helpers ∙ (ap length c.deref_mut.ensures.value ∙ sym c.in_ok-helpers.helpers.ok.0) in
    staffed_shares c.in_ok-helpers.helpers.items c.deref_mut.result.now c.give_looks.new.helpers _ c.args.shares.items c.deref_mut.ensures.value
    (refilled c.in_ok-helpers.helpers.len c.give_looks.new.helpers c.in_ok-helpers.helpers.items size) c.in_ok-give_looks.ensures.same c.in_ok-helpers.ensures.shares

pub returns-clause-fresh : goal.returns-clause-fresh
returns-clause-fresh g c =
    let size = c.give_looks.auto.helpers ∙ (ap length c.deref_mut.ensures.value ∙ sym c.in_ok-helpers.helpers.ok.0) in
    let count = sym (ap length c.in_ok-helpers.ensures.shares) ∙ (length-map c.in_ok-helpers.helpers.items (λ h. h.desk.share) ∙ sym (ap length c.deref_mut.ensures.value)) in
    staffed_fresh c.args.queue.now (length c.args.shares.items) c.args.order.now c.in_ok-helpers.helpers.items c.deref_mut.result.now c.give_looks.new.helpers _ c.deref_mut.ensures.value
    (refilled c.in_ok-helpers.helpers.len c.give_looks.new.helpers c.in_ok-helpers.helpers.items size) c.in_ok-give_looks.ensures.same count c.in_ok-helpers.ensures.hired c.in_ok-give_looks.ensures.own c.in_ok-give_looks.ensures.looks
