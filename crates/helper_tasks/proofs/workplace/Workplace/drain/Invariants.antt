use Rattle.helper_tasks.specs.Crew.{Drained}
use Rattle.helper_tasks.proofs.workplace.Workplace.drain.Given as goal

abbrev pub invariant-loop : goal.invariant-loop
invariant-loop g l =
    (goal.iterator-loop g).can_next l.iterator'
    × (goal.iterator-loop g).is_finite l.iterator'
    × Drained (g.J.Job.fits l.self.job.now) (g.J.Job.gives l.self.job.now) g.J.Job.ran l.fn.desk l.desk l.fn.own.dealt l.own.dealt
