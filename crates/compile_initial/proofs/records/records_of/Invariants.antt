use Rattle.std.proofs.Common.{◌≡◌, map, take}
use Rattle.compile_initial.specs.Records.{HaveNumbers, start_at, record_at}
use Rattle.compile_initial.proofs.records.records_of.Given as goal

abbrev pub invariant-loop-function : goal.invariant-loop-function
invariant-loop-function l = HaveNumbers (map start_at l.functions) → l.records.items ≡ map (record_at (map start_at l.functions) l.closed) (take l.function-index l.functions)
