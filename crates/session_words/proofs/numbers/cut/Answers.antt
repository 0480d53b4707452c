use Rattle.session_words.proofs.NumberLemmas.{cut_at, further_piece, all_one_piece}
use Rattle.session_words.proofs.numbers.cut.Goals as goal

pub returns-then-word-i-eq44-clause-pieces : goal.returns-then-word-i-eq44-clause-pieces
returns-then-word-i-eq44-clause-pieces c = cut_at _ _ c.loop-i-test.true c.loop-i.invariant c.if-word-i-eq44.true

pub loop-i-preserved : goal.loop-i-preserved
loop-i-preserved c = further_piece _ _ c.loop-i-test.true c.loop-i.invariant c.if-word-i-eq44.false

pub returns-clause-pieces : goal.returns-clause-pieces
returns-clause-pieces c = all_one_piece _ _ c.loop-i-test.false c.loop-i.invariant
