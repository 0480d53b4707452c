use Rattle.std.proofs.Common.{◌++◌, [], length, map, ap, sym, ◌∙◌, subst, arith, length-append, ◌∷◌}
use Rattle.std.proofs.lemmas.List.{append-nil}
use Rattle.helper_tasks.specs.Count.{total}
use Rattle.helper_tasks.specs.Desks.{Lists}
use Rattle.helper_tasks.specs.Crew.{Paired, desk_of, fetched, popped, left_by}
use Rattle.helper_tasks.proofs.Counts.{no_items}
use Rattle.helper_tasks.proofs.Settling.{dismiss_paired, dismiss_fits, dismiss_ran, dismiss_fetched, dismiss_parts, dismiss_pushed, dismiss_order, dismiss_some}
use Rattle.helper_tasks.proofs.workplace.Workplace.dismiss.Goals as goal

pub loop-helper-preserved : goal.loop-helper-preserved
loop-helper-preserved g c =
    let inv = c.loop-helper.invariant in
    let step = c.in-Some.ensures.steps.0 in
    let h = c.in-Some.helper in
    let fit = dismiss_fits _ _ g.J.Job.ran _ h _ _ step inv.2 in
    let drained = c.in_ok-drain.ensures.drained in
    let empty = c.in_ok-drain.ensures.empty in
    let more = c.in_ok-push.ensures.items in
    let joined = c.absorb.ensures in (
      tt,
      tt,
      fit.1,
      ap (λ r. r.injector) joined,
      dismiss_parts _ _ g.J.Job.ran _ c.loop-helper.all c.absorb.new.fetcher h _ _ _ step fit.0 joined inv.4,
      dismiss_pushed _ _ g.J.Job.ran _ c.loop-helper.all c.absorb.new.fetcher h _ fit.0 joined inv.5,
      (λ x. dismiss_fetched (g.J.Job.fits c.args.self.now.job.now) (g.J.Job.gives c.args.self.now.job.now) g.J.Job.ran _ x c.loop-helper.all c.absorb.new.fetcher h _ _ _ step joined (inv.6 x)),
      dismiss_order _ _ _ _ _ more drained.in_order inv.7,
      (λ starts p. dismiss_paired _ _ _ c.args.self.now.queue.now starts _ _ h _ _ _ _ _ step more drained (inv.8 starts p)),
      (λ x. dismiss_ran _ _ _ _ x _ _ h _ _ _ _ _ step more fit.0 drained empty (inv.9 x)),
      dismiss_some (g.J.Job.fits c.args.self.now.job.now) (g.J.Job.gives c.args.self.now.job.now) g.J.Job.ran _ c.loop-helper.all c.absorb.new.fetcher h joined inv.10,
      (let n = inv.11 in let a = ap length step in let b = ap length more in let m = length-append c.loop-helper.desks.items (c.drain.new.desk ∷ []) in omega arith),
    )

pub returns-clause-fetched : goal.returns-clause-fetched
returns-clause-fetched g c = λ x.
    let none = no_items c.loop-helper.helper-iterator.rest.items (sym c.loop-helper.helper-iterator.rest.ok.0 ∙ c.in-None.ensures.steps.0) in
    let e = ap (total (fetched x)) none in
    let i = c.loop-helper.invariant.6 x in
    omega arith

pub returns-clause-lists : goal.returns-clause-lists
returns-clause-lists g c = λ starts p.
    let none = no_items c.loop-helper.helper-iterator.rest.items (sym c.loop-helper.helper-iterator.rest.ok.0 ∙ c.in-None.ensures.steps.0) in
    let e = ap (λ r. c.loop-helper.desks.items ++ map desk_of r) none ∙ append-nil c.loop-helper.desks.items in
    subst (Paired (Lists g.J.Job.ran) starts) e (c.loop-helper.invariant.8 starts p)

pub returns-clause-ran : goal.returns-clause-ran
returns-clause-ran g c = λ x.
    let none = no_items c.loop-helper.helper-iterator.rest.items (sym c.loop-helper.helper-iterator.rest.ok.0 ∙ c.in-None.ensures.steps.0) in
    let e = ap (total (left_by x)) none in
    let f = ap (total (popped x)) none in
    let i = c.loop-helper.invariant.9 x in
    omega arith
