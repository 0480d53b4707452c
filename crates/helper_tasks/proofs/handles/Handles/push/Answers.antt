use Rattle.helper_tasks.proofs.Moves.{kept}
use Rattle.helper_tasks.proofs.handles.Handles.push.Goals as goal

pub returns : goal.returns
returns g c = kept _ _ _ _ c.requires.equipped c.push.ensures
