use Rattle.std.proofs.Common.{ap}
use Rattle.helper_tasks.proofs.Settling.{drained_more}
use Rattle.helper_tasks.proofs.workplace.Workplace.drain.Goals as goal

pub loop-preserved : goal.loop-preserved
loop-preserved g c =
    let run = c.in_ok-run.ensures in
    (tt, tt, drained_more _ _ _ c.args.desk.now c.loop.desk c.run.new.desk c.args.own.now.dealt c.loop.own.dealt c.pop.new.self.dealt c.in-Some-pop.task c.loop.invariant.2 (ap (λ o. o.dealt) c.in-Some-pop.ensures.1) run.desk run.lists run.made)
