use Rattle.std.proofs.Common.{◌≡◌, length}
use Rattle.std.specs.List.{All}
use Rattle.session_requests.specs.Hands.{Fits}
use Rattle.session_requests.proofs.hand.hands_for.Given as goal

-- as many workers as turns, each of which fits
abbrev pub invariant-loop : goal.invariant-loop
invariant-loop g l = (length l.hands.items ≡ l.counter) × All (Fits l.works) l.hands.items
