use Rattle.std.proofs.Common.{◌≡◌, take}
use Rattle.session_requests.specs.Hands.{count_total}
use Rattle.session_requests.proofs.hand.Hand.compiled.Given as goal

-- those at the seats so far
abbrev pub invariant-loop-seat : goal.invariant-loop-seat
invariant-loop-seat g l = l.count ≡ count_total (take l.seat-index l.seat-items)
