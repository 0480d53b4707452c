use Rattle.std.proofs.Common.{length, map, refl, ap, sym, ◌∙◌, subst, arith}
use Rattle.helper_tasks.specs.Count.{times, total}
use Rattle.helper_tasks.specs.Desks.{InOrder}
use Rattle.helper_tasks.specs.Crew.{desk_of, fetcher_of, fetched, popped, came_to, left_by, Paired}
use Rattle.helper_tasks.proofs.Counts.{each-index}
use Rattle.helper_tasks.proofs.Finishing.{refilled, settle_dismissible, settle_lists, settle_ran, settle_came}
use Rattle.helper_tasks.proofs.workplace.Workplace.settle.Goals as goal

pub dismiss-requires-clause-helpers : goal.dismiss-requires-clause-helpers
dismiss-requires-clause-helpers g c κs within =
    let size = c.return_looks.auto.helpers ∙ (ap length c.deref_mut.ensures.value ∙ sym c.args.helpers.ok.0) in
    settle_dismissible _ _ _ c.args.helpers.items c.return_looks.new.helpers _ (refilled c.args.helpers.len c.return_looks.new.helpers c.args.helpers.items size)
    (c.return_looks.ensures.desks ∙ ap (map desk_of) c.deref_mut.ensures.value) (c.return_looks.ensures.fetchers ∙ ap (map fetcher_of) c.deref_mut.ensures.value)
    c.return_looks.ensures.parts c.return_looks.ensures.looks c.requires.ready

pub index_mut-requires : goal.index_mut-requires
index_mut-requires g c =
    let size = c.return_looks.auto.helpers ∙ (ap length c.deref_mut.ensures.value ∙ sym c.args.helpers.ok.0) in
    let whole = ap length (refilled c.args.helpers.len c.return_looks.new.helpers c.args.helpers.items size) in
    let count = c.in_ok-desks.ensures.count in
    let ok = c.in_ok-desks.desks.ok.0 in
    let old = c.args.helpers.ok.0 in
    let some = c.requires.count.0 in
    omega arith

pub drain_queue-requires-clause-desk : goal.drain_queue-requires-clause-desk
drain_queue-requires-clause-desk g c κs within =
    let size = c.return_looks.auto.helpers ∙ (ap length c.deref_mut.ensures.value ∙ sym c.args.helpers.ok.0) in
    let whole = ap length (refilled c.args.helpers.len c.return_looks.new.helpers c.args.helpers.items size) in
    let count = c.in_ok-desks.ensures.count in
    let old = c.args.helpers.ok.0 in
    let some = c.requires.count.0 in
    subst (InOrder (g.J.Job.fits c.args.self.now.job.now) (g.J.Job.gives c.args.self.now.job.now)) (sym c.index_mut.ensures.value)
    (each-index (InOrder (g.J.Job.fits c.args.self.now.job.now) (g.J.Job.gives c.args.self.now.job.now)) c.in_ok-desks.desks.items 0 c.index_mut.result.now (omega arith) c.in_ok-desks.ensures.desks)

pub returns-clause-lists : goal.returns-clause-lists
returns-clause-lists g c = λ starts p.
    let size = c.return_looks.auto.helpers ∙ (ap length c.deref_mut.ensures.value ∙ sym c.args.helpers.ok.0) in
    let whole = refilled c.args.helpers.len c.return_looks.new.helpers c.args.helpers.items size in
    let same = ap (map desk_of) whole ∙ (c.return_looks.ensures.desks ∙ ap (map desk_of) c.deref_mut.ensures.value) in
    settle_lists _ _ g.J.Job.ran starts c.in_ok-desks.desks.items c.index_mut.result.now c.index_mut.result.now c.drain_queue.new.desk _ _ c.index_mut.ensures.value c.in_ok-drain_queue.ensures.drained
    (c.in_ok-desks.ensures.lists starts (subst (Paired _ starts) (sym same) p))

pub returns-clause-ran : goal.returns-clause-ran
returns-clause-ran g c = λ x.
    let size = c.return_looks.auto.helpers ∙ (ap length c.deref_mut.ensures.value ∙ sym c.args.helpers.ok.0) in
    let whole = refilled c.args.helpers.len c.return_looks.new.helpers c.args.helpers.items size in
    let long = ap length whole in
    let count = c.in_ok-desks.ensures.count in
    let old = c.args.helpers.ok.0 in
    let some = c.requires.count.0 in
    let few = c.requires.count.1 in
    let all = c.in_ok-desks.ensures.all in
    let parts = ap (λ r. r.dealt.parts) c.requires.all in
    let none = ap (λ r. times x r.dealt.taken) c.requires.all in
    let fetches = c.in_ok-desks.ensures.fetched x in
    let came = c.return_looks.ensures.came x in
    let came_base = ap (total (came_to x)) c.deref_mut.ensures.value in
    let left = c.return_looks.ensures.left x in
    let left_base = ap (total (left_by x)) c.deref_mut.ensures.value in
    let split = settle_came x c.return_looks.new.helpers c.return_looks.ensures.looks in
    let one = ap (total (fetched x)) whole in
    let two = ap (total (popped x)) whole in
    let three = ap (total (left_by x)) whole in
    settle_ran _ _ g.J.Job.ran x _ (times x c.dismiss.new.all.dealt.taken) _ _ _ c.in_ok-desks.desks.items c.index_mut.result.now c.index_mut.result.now c.drain_queue.new.desk _ c.dismiss.new.all.dealt c.drain_queue.new.all.dealt
    (omega arith) c.index_mut.ensures.value c.in_ok-drain_queue.ensures.drained c.in_ok-drain_queue.ensures.empty (omega arith) all.2 refl (c.in_ok-desks.ensures.ran x) (omega arith) (omega arith)
