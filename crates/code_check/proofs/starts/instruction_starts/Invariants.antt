use Rattle.std.proofs.Common.{◌-◌, length}
use Rattle.code_check.proofs.StartWalk.{StartsTo}
use Rattle.code_check.proofs.starts.instruction_starts.Given as goal

abbrev pub invariant-loop-instr : goal.invariant-loop-instr
invariant-loop-instr l = StartsTo l.code l.starts.items l.at

abbrev pub decreases-loop-instr : goal.decreases-loop-instr
decreases-loop-instr l = length l.code - l.at
