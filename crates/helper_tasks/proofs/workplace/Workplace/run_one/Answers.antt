use Rattle.helper_tasks.proofs.Working.{works_ran}
use Rattle.helper_tasks.proofs.workplace.Workplace.run_one.Goals as goal

pub returns : goal.returns
returns g c = works_ran _ _ _ _ _ _ _ _ c.requires.ready c.run.ensures.desk c.run.ensures.lists c.run.ensures.made
