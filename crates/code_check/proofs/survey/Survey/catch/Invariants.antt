use Rattle.code_check.proofs.Catches.{WalksTo}
use Rattle.code_check.proofs.survey.Survey.catch.Given as goal

abbrev pub invariant-loop-node : goal.invariant-loop-node
invariant-loop-node l = WalksTo l.notes l.starts (record { at = l.at; depth = l.depth }) l.initial.self l.initial.index l.node l.self l.index

abbrev pub decreases-loop-node : goal.decreases-loop-node
decreases-loop-node l = l.node
