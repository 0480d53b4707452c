use Rattle.std.proofs.Common.{◌≡◌, map, take}
use Rattle.compile_initial.specs.Records.{around_at}
use Rattle.compile_initial.proofs.records.around_of.Given as goal

abbrev pub invariant-loop-function : goal.invariant-loop-function
invariant-loop-function l = l.around.items ≡ map around_at (take l.function-index l.functions)
