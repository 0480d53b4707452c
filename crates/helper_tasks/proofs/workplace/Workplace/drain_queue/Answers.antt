use Rattle.std.proofs.Common.{ap}
use Rattle.helper_tasks.proofs.Settling.{drained_more}
use Rattle.helper_tasks.proofs.workplace.Workplace.drain_queue.Goals as goal

pub loop-preserved : goal.loop-preserved
loop-preserved g c =
    let run = c.in_ok-run.ensures in
    let took = c.in-Some-fetch.ensures.1 in
    (tt, tt, drained_more _ _ _ c.args.desk.now c.loop.desk c.run.new.desk c.args.all.now.dealt c.loop.all.dealt c.fetch.new.fetcher.dealt c.in-Some-fetch.task c.loop.invariant.2 (ap (λ o. o.dealt) took) run.desk run.lists run.made, ap (λ o. o.injector) took)
