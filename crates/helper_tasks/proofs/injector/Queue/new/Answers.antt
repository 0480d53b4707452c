use Rattle.helper_tasks.proofs.Steps.{begins}
use Rattle.helper_tasks.proofs.injector.Queue.new.Goals as goal

pub new_as-requires : goal.new_as-requires
new_as-requires g c = begins _
