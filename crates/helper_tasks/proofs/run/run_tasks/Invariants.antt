use Rattle.helper_tasks.proofs.run.run_tasks.Given as goal

-- the rule's bound is the number of tasks
abbrev pub ghosts-run_numbered : goal.ghosts-run_numbered
ghosts-run_numbered g a = record { bound = g.J.Job.tasks a.job.now }
