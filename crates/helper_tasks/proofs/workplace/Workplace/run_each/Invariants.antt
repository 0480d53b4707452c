use Rattle.std.proofs.Common.{drop}
use Rattle.helper_tasks.specs.Desks.{Works}
use Rattle.helper_tasks.proofs.workplace.Workplace.run_each.Given as goal

abbrev pub invariant-loop-task : goal.invariant-loop-task
invariant-loop-task g l =
    Works (g.J.Job.fits l.self.job.now) (g.J.Job.gives l.self.job.now) g.J.Job.ran l.self.queue.now l.fn.helper l.helper l.tasks (drop l.task-index l.tasks)
