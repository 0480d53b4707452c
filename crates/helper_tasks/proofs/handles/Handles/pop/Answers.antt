use Rattle.helper_tasks.proofs.Moves.{popped}
use Rattle.helper_tasks.proofs.handles.Handles.pop.Goals as goal

pub returns : goal.returns
returns g c = popped _ _ _ _ c.requires c.pop.ensures
