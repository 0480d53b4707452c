use Rattle.std.proofs.Common.{ℕ, ◌<◌}
use Rattle.holzikra_flow.specs.Flow.{NoteFits}
use Rattle.holzikra_flow.proofs.checking.notes_fit.Given as goal

abbrev pub invariant-loop-index : goal.invariant-loop-index
invariant-loop-index l = (k : ℕ) → k < l.index → NoteFits l.reached l.notes k
