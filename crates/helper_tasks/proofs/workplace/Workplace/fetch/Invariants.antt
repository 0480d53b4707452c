use Rattle.std.proofs.Common.{[], ◌∷◌}
use Rattle.helper_tasks.specs.Desks.{Works}
use Rattle.helper_tasks.proofs.workplace.Workplace.fetch.Given as goal

abbrev pub invariant-loop : goal.invariant-loop
invariant-loop g l =
    Works (g.J.Job.fits l.self.job.now) (g.J.Job.gives l.self.job.now) g.J.Job.ran l.self.queue.now l.fn.helper l.helper [] (l.first ∷ [])
