use Rattle.compile_session.proofs.ListingLemmas.{least_same, least_more}
use Rattle.compile_session.proofs.listing.least_above.Goals as goal
use Rattle.compile_session.proofs.listing.least_above.Goals.{then-number-count, else-number-count}

pub loop-number-preserved : goal.loop-number-preserved
loop-number-preserved c = elim c.if-number-count.branch [
  | then-number-count w ↦ least_more c.args.count c.args.numbers.now c.loop-number.number-index c.loop-number.least c.if-number-count.least w.lesser.result c.loop-number-test.true w.if-number-count.true c.loop-number.invariant w.lesser.ensures.is w.lesser.ensures.least w.least-is
  | else-number-count w ↦ least_same c.args.count c.args.numbers.now c.loop-number.number-index c.loop-number.least c.if-number-count.least c.loop-number-test.true w.if-number-count.false c.loop-number.invariant w.least-is
]
