use Rattle.std.proofs.Common.{take}
use Rattle.compile_session.proofs.ListingLemmas.{above, IsLeast}
use Rattle.compile_session.proofs.listing.least_above.Given as goal

abbrev pub invariant-loop-number : goal.invariant-loop-number
invariant-loop-number l = IsLeast (above l.count (take l.number-index l.numbers)) l.least
