use Rattle.std.proofs.Common.{◌≡◌}
use Rattle.bench_atoms.proofs.workers.at_desk.Given as goal

abbrev pub invariant-loop-number : goal.invariant-loop-number
invariant-loop-number l = l.desk.table ≡ l.table
