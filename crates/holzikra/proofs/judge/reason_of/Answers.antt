use Rattle.holzikra.proofs.JudgeLemmas.{never-missing}
use Rattle.holzikra.proofs.judge.reason_of.Goals as goal

pub unreachable-requires : goal.unreachable-requires
unreachable-requires c = never-missing _ _ (rw c.in-NoFunction.is at c.requires)
