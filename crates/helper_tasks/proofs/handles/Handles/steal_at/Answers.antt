use Rattle.helper_tasks.proofs.Moves.{stolen}
use Rattle.helper_tasks.proofs.handles.Handles.steal_at.Goals as goal

pub returns : goal.returns
returns g c = stolen _ _ _ _ _ _ c.requires.equipped c.requires.at c.index_mut-look.ensures.value c.steal.ensures
