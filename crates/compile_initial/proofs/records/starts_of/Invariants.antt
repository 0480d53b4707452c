use Rattle.std.proofs.Common.{◌≡◌, map, take}
use Rattle.compile_initial.specs.Records.{start_at}
use Rattle.compile_initial.proofs.records.starts_of.Given as goal

abbrev pub invariant-loop-function : goal.invariant-loop-function
invariant-loop-function l = l.starts.items ≡ map start_at (take l.function-index l.functions)
