use Rattle.std.proofs.Common.{◌≡◌, vec_len}
use Rattle.bench_atoms.proofs.names.doubled_names.Given as goal

abbrev pub invariant-loop-index : goal.invariant-loop-index
invariant-loop-index l = vec_len l.texts ≡ l.index
