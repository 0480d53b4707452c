use Rattle.std.proofs.Common.{ℕ, ◌-◌, [], ap, sym, ◌∙◌, arith}
use Rattle.helper_tasks.specs.Rule.{dealt}
use Rattle.helper_tasks.specs.Handles.{reach_at}
use Rattle.helper_tasks.proofs.Placing.{tasks_below, slots_filled}
use Rattle.helper_tasks.proofs.Finishing.{order_within, all_start, all_done, done_ready, made_given, run_once, run_looking, run_lists, answer_outs, answer_count, answer_shares, answer_lists, paired_length, shares_count}
use Rattle.helper_tasks.proofs.run.run_numbered.Goals as goal

pub staff-requires-clause-tasks : goal.staff-requires-clause-tasks
staff-requires-clause-tasks g c = order_within _ _ c.args.order.now c.requires.numbered c.requires.order.1

pub serve_all-requires-clause-tasks : goal.serve_all-requires-clause-tasks
serve_all-requires-clause-tasks g c κs within = order_within _ _ c.args.order.now c.requires.numbered c.requires.order.1

pub serve_all-requires-clause-helpers : goal.serve_all-requires-clause-helpers
serve_all-requires-clause-helpers g c κs within =
    all_start _ _ c.in_ok-queue.queue c.args.order.now c.in_ok-helpers.helpers.items c.args.shares.items c.in_ok-helpers.ensures.shares c.requires.workers.0 c.requires.workers.1 c.in_ok-helpers.ensures.fresh c.requires.fits

pub settle-requires-clause-count : goal.settle-requires-clause-count
settle-requires-clause-count g c κs within =
    let done = (all_done (g.J.Job.fits c.args.job.now) (g.J.Job.gives c.args.job.now) g.J.Job.ran c.in_ok-queue.queue c.args.order.now c.in_ok-helpers.helpers.items c.in_ok-helpers-2.helpers.items c.in_ok-serve_all.field-0.items c.in_ok-helpers-2.ensures c.in_ok-serve_all.ensures) in
    let same = paired_length _ _ _ done in
    let hired = shares_count c.in_ok-helpers.helpers.items c.args.shares.items c.in_ok-helpers.ensures.shares in
    (omega (arith, same, hired, c.requires.workers.0), omega (arith, same, hired, c.requires.workers.1))

pub settle-requires-clause-all : goal.settle-requires-clause-all
settle-requires-clause-all g c κs within =
    let done = (all_done (g.J.Job.fits c.args.job.now) (g.J.Job.gives c.args.job.now) g.J.Job.ran c.in_ok-queue.queue c.args.order.now c.in_ok-helpers.helpers.items c.in_ok-helpers-2.helpers.items c.in_ok-serve_all.field-0.items c.in_ok-helpers-2.ensures c.in_ok-serve_all.ensures) in
    c.in_ok-helpers.ensures.all ∙ ap (λ (n : ℕ). reach_at c.in_ok-queue.queue (dealt (64 - n) c.staff.new.all.dealt.pushed [])) (sym (paired_length _ _ _ done))

pub settle-requires-clause-looking : goal.settle-requires-clause-looking
settle-requires-clause-looking g c κs within =
    let done = (all_done (g.J.Job.fits c.args.job.now) (g.J.Job.gives c.args.job.now) g.J.Job.ran c.in_ok-queue.queue c.args.order.now c.in_ok-helpers.helpers.items c.in_ok-helpers-2.helpers.items c.in_ok-serve_all.field-0.items c.in_ok-helpers-2.ensures c.in_ok-serve_all.ensures) in
    run_looking (g.J.Job.fits c.args.job.now) (g.J.Job.gives c.args.job.now) g.J.Job.ran c.in_ok-queue.queue c.args.order.now c.in_ok-helpers.helpers.items c.in_ok-helpers-2.helpers.items c.in_ok-helpers.ensures.fresh done

pub settle-requires-clause-ready : goal.settle-requires-clause-ready
settle-requires-clause-ready g c κs within =
    let done = (all_done (g.J.Job.fits c.args.job.now) (g.J.Job.gives c.args.job.now) g.J.Job.ran c.in_ok-queue.queue c.args.order.now c.in_ok-helpers.helpers.items c.in_ok-helpers-2.helpers.items c.in_ok-serve_all.field-0.items c.in_ok-helpers-2.ensures c.in_ok-serve_all.ensures) in
    done_ready (g.J.Job.fits c.args.job.now) (g.J.Job.gives c.args.job.now) g.J.Job.ran c.in_ok-queue.queue c.args.order.now c.in_ok-helpers.helpers.items c.in_ok-helpers-2.helpers.items done

pub collect-requires-clause-tasks : goal.collect-requires-clause-tasks
collect-requires-clause-tasks g c =
    let done = (all_done (g.J.Job.fits c.args.job.now) (g.J.Job.gives c.args.job.now) g.J.Job.ran c.in_ok-queue.queue c.args.order.now c.in_ok-helpers.helpers.items c.in_ok-helpers-2.helpers.items c.in_ok-serve_all.field-0.items c.in_ok-helpers-2.ensures c.in_ok-serve_all.ensures) in
    tasks_below _ _ (run_once (g.J.Job.fits c.args.job.now) (g.J.Job.gives c.args.job.now) g.J.Job.ran c.in_ok-queue.queue c.args.order.now c.in_ok-helpers.helpers.items c.in_ok-helpers-2.helpers.items c.in_ok-desks.desks.items c.staff.new.all.dealt.pushed _ c.in_ok-helpers.ensures.fresh done c.in_ok-helpers.ensures.tasks c.in_ok-desks.ensures.ran c.requires.order.0 c.requires.order.1)

pub collect-requires-clause-filled : goal.collect-requires-clause-filled
collect-requires-clause-filled g c =
    let done = (all_done (g.J.Job.fits c.args.job.now) (g.J.Job.gives c.args.job.now) g.J.Job.ran c.in_ok-queue.queue c.args.order.now c.in_ok-helpers.helpers.items c.in_ok-helpers-2.helpers.items c.in_ok-serve_all.field-0.items c.in_ok-helpers-2.ensures c.in_ok-serve_all.ensures) in
    slots_filled _ _ (run_once (g.J.Job.fits c.args.job.now) (g.J.Job.gives c.args.job.now) g.J.Job.ran c.in_ok-queue.queue c.args.order.now c.in_ok-helpers.helpers.items c.in_ok-helpers-2.helpers.items c.in_ok-desks.desks.items c.staff.new.all.dealt.pushed _ c.in_ok-helpers.ensures.fresh done c.in_ok-helpers.ensures.tasks c.in_ok-desks.ensures.ran c.requires.order.0 c.requires.order.1)

pub returns-clause-outs : goal.returns-clause-outs
returns-clause-outs g c = answer_outs (g.J.Job.gives c.args.job.now) _ _ c.in_ok-desks.desks.items c.collect.result c.requires.order.0 (made_given (g.J.Job.fits c.args.job.now) (g.J.Job.gives c.args.job.now) c.in_ok-desks.desks.items c.in_ok-desks.ensures.desks) c.collect.ensures.outs

pub returns-clause-count : goal.returns-clause-count
returns-clause-count g c =
    let done = (all_done (g.J.Job.fits c.args.job.now) (g.J.Job.gives c.args.job.now) g.J.Job.ran c.in_ok-queue.queue c.args.order.now c.in_ok-helpers.helpers.items c.in_ok-helpers-2.helpers.items c.in_ok-serve_all.field-0.items c.in_ok-helpers-2.ensures c.in_ok-serve_all.ensures) in
    answer_count g.J.Job.ran c.in_ok-desks.desks.items c.args.shares.items c.collect.result (run_lists (g.J.Job.fits c.args.job.now) (g.J.Job.gives c.args.job.now) g.J.Job.ran c.in_ok-queue.queue c.args.order.now c.in_ok-helpers.helpers.items c.in_ok-helpers-2.helpers.items c.in_ok-desks.desks.items c.args.shares.items c.in_ok-helpers.ensures.fresh done c.in_ok-helpers.ensures.shares c.in_ok-desks.ensures.lists) c.collect.ensures.shares

pub returns-clause-shares : goal.returns-clause-shares
returns-clause-shares g c = answer_shares (g.J.Job.fits c.args.job.now) (g.J.Job.gives c.args.job.now) c.in_ok-desks.desks.items c.collect.result c.in_ok-desks.ensures.desks c.collect.ensures.shares

pub returns-clause-lists : goal.returns-clause-lists
returns-clause-lists g c =
    let done = (all_done (g.J.Job.fits c.args.job.now) (g.J.Job.gives c.args.job.now) g.J.Job.ran c.in_ok-queue.queue c.args.order.now c.in_ok-helpers.helpers.items c.in_ok-helpers-2.helpers.items c.in_ok-serve_all.field-0.items c.in_ok-helpers-2.ensures c.in_ok-serve_all.ensures) in
    answer_lists g.J.Job.ran _ _ c.in_ok-desks.desks.items c.args.shares.items c.collect.result c.requires.order.0 (run_lists (g.J.Job.fits c.args.job.now) (g.J.Job.gives c.args.job.now) g.J.Job.ran c.in_ok-queue.queue c.args.order.now c.in_ok-helpers.helpers.items c.in_ok-helpers-2.helpers.items c.in_ok-desks.desks.items c.args.shares.items c.in_ok-helpers.ensures.fresh done c.in_ok-helpers.ensures.shares c.in_ok-desks.ensures.lists) (run_once (g.J.Job.fits c.args.job.now) (g.J.Job.gives c.args.job.now) g.J.Job.ran c.in_ok-queue.queue c.args.order.now c.in_ok-helpers.helpers.items c.in_ok-helpers-2.helpers.items c.in_ok-desks.desks.items c.staff.new.all.dealt.pushed _ c.in_ok-helpers.ensures.fresh done c.in_ok-helpers.ensures.tasks c.in_ok-desks.ensures.ran c.requires.order.0 c.requires.order.1) c.collect.ensures.shares
