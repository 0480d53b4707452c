use Rattle.helper_tasks.proofs.Moves.{fetched}
use Rattle.helper_tasks.proofs.handles.Handles.fetch.Goals as goal

pub returns : goal.returns
returns g c = fetched _ _ _ _ _ c.requires.equipped c.requires.queue c.fetch.ensures
