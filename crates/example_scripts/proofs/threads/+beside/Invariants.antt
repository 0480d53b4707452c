use Rattle.std.proofs.Common.{◌+◌, ◌*◌}
use Rattle.example_scripts.proofs.threads.+beside.Given as goal

-- one thread fewer is asked each time
abbrev pub decreases-asked_beside : goal.decreases-asked_beside
decreases-asked_beside g l = 2 * l.threads

abbrev pub decreases-others : goal.decreases-others
decreases-others g l = 2 * l.thread + 1
