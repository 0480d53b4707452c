use Rattle.std.proofs.Common.{length}
use Rattle.helper_tasks.proofs.threads.+serve_each.Given as goal

abbrev pub decreases-serve_each : goal.decreases-serve_each
decreases-serve_each g l = length l.helpers.items
