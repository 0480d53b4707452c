use Rattle.std.proofs.Common.{take}
use Rattle.session_requests.specs.Hands.{FitAll}
use Rattle.session_requests.proofs.hand.Hand.new.Given as goal

-- a seat for each file so far
abbrev pub invariant-loop-work : goal.invariant-loop-work
invariant-loop-work g l = FitAll (take l.work-index l.works) l.seats.items
