use Rattle.std.proofs.Common.{◌+◌, ◌*◌}
use Rattle.bench_atoms.proofs.workers.+halves.Given as goal

abbrev pub decreases-join+arg2 : goal.decreases-join+arg2
decreases-join+arg2 g l = 2 * l.fewer + 1

abbrev pub decreases-join+arg3 : goal.decreases-join+arg3
decreases-join+arg3 g l = 2 * l.fewer + 1

abbrev pub decreases-interned : goal.decreases-interned
decreases-interned g l = 2 * l.halvings
