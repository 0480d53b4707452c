use Rattle.std.proofs.Common.{rules, ◌≡◌, ℕ, ◌<◌, ◌++◌, ◌∷◌, [], sym, subst}
use denote.Param.Send.{sendable}
use Rattle.std.proofs.lemmas.Result.{IfOk-at_ok}
use Rattle.helper_tasks.specs.Count.{Each}
use Rattle.helper_tasks.specs.Crew.{Paired, Served, StartsIn}
use Rattle.helper_tasks.proofs.Serving.{each_but_last, each_last, paired_last}
use Rattle.helper_tasks.proofs.threads.+serve_each.Goals.{in-Ok, in-Err}
use Rattle.helper_tasks.proofs.threads.+serve_each.Goals as goal

pub spawn_scoped_with-started-requires-clause-runs : goal.spawn_scoped_with-started-requires-clause-runs
spawn_scoped_with-started-requires-clause-runs g t c κs within =
    ((c.requires.numbered, c.requires.tasks, each_last _ _ _ _ c.in-Some.ensures.items c.requires.helpers), search (sendable, c.requires.sends, c.requires.syncs) parts 16)

pub serve_each-others-requires-clause-helpers : goal.serve_each-others-requires-clause-helpers
serve_each-others-requires-clause-helpers g t c κs within = each_but_last _ _ _ _ c.in-Some.ensures.items c.requires.helpers

pub work-served-requires-after_bounds : goal.work-served-requires-after_bounds
work-served-requires-after_bounds g t c κs within =
    subst (λ w. (g.N.Numbering.bound ≡ g.J.Job.tasks w.0.now.job.now) × Each (λ (x : ℕ). x < g.N.Numbering.bound) w.2.now × StartsIn (g.J.Job.fits w.0.now.job.now) (g.J.Job.gives w.0.now.job.now) w.0.now.queue.now w.2.now w.3)
    (sym c.in-Err.ensures.err)
    (c.requires.numbered, c.requires.tasks, each_last _ _ _ _ c.in-Some.ensures.items c.requires.helpers)

pub returns : goal.returns
returns g t c =
    let fits = g.J.Job.fits in let gives = g.J.Job.gives in let ran = g.J.Job.ran in
    let R = Served (fits c.args.place.now.job.now) (gives c.args.place.now.job.now) ran c.args.place.now.queue.now c.args.order.now in
    let did : R c.in-Some.helper c.match-started.served =
    elim c.match-started.branch [
      | in-Ok w ↦ subst (λ h. R h c.match-started.served) c.of.ensures
          (subst (λ p. Served (fits p.place.now.job.now) (gives p.place.now.job.now) ran p.place.now.queue.now p.order.now p.helper.value c.match-started.served) w.in-Ok.ensures.ok
          (subst (λ r. Served (fits w.in-Ok.thread.promise.place.now.job.now) (gives w.in-Ok.thread.promise.place.now.job.now) ran w.in-Ok.thread.promise.place.now.queue.now w.in-Ok.thread.promise.order.now w.in-Ok.thread.promise.helper.value r) (sym w.served-is) w.join-served.ensures))
      | in-Err w ↦ subst (λ v. Served (fits v.0.now.job.now) (gives v.0.now.job.now) ran v.0.now.queue.now v.2.now v.3 c.match-started.served) w.in-Err.ensures.err
          (subst (λ r. Served (fits w.in-Err.refused.value.0.now.job.now) (gives w.in-Err.refused.value.0.now.job.now) ran w.in-Err.refused.value.0.now.queue.now w.in-Err.refused.value.2.now w.in-Err.refused.value.3 r) (sym w.served-is) w.work-served.ensures)
    ] in
    paired_last R c.args.helpers.items c.pop.new.self.items c.in-Some.helper c.push.new.self.items c.in_ok-all.all.items c.match-started.served
    c.in-Some.ensures.items c.in_ok-push.ensures.items (IfOk-at_ok (λ v. Paired R c.pop.new.self.items v.items) c.in_ok-all.was c.serve_each-others.ensures) did
