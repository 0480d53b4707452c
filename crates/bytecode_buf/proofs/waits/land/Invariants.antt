use Rattle.std.proofs.Common.{drop}
use Rattle.bytecode_buf.proofs.AppendLemmas.{Landing}
use Rattle.bytecode_buf.proofs.waits.land.Given as goal

abbrev pub invariant-loop-wait : goal.invariant-loop-wait
invariant-loop-wait l = Landing l.aim l.inner l.initial.out l.initial.waits.items (drop l.wait-index l.inner) l.out l.waits.items
