use Rattle.std.proofs.Common.{◌≡◌, take}
use Rattle.session_requests.specs.Hands.{compiled_total}
use Rattle.session_requests.proofs.hand.compiled_by.Given as goal

-- those of the workers so far
abbrev pub invariant-loop-hand : goal.invariant-loop-hand
invariant-loop-hand g l = l.count ≡ compiled_total (take l.hand-index l.hands)
