use Rattle.helper_tasks.proofs.Steps.{begins}
use Rattle.helper_tasks.proofs.deque.Own.new.Goals as goal

pub fifo_as-requires : goal.fifo_as-requires
fifo_as-requires g c = begins _
