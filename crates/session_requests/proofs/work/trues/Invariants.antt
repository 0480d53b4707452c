use Rattle.std.proofs.Common.{◌≡◌, ◌≤◌, take}
use Rattle.compile_shown.specs.Counting as counting
use Rattle.session_requests.proofs.work.trues.Given as goal

-- the true ones so far
abbrev pub invariant-loop-flag : goal.invariant-loop-flag
invariant-loop-flag l = (l.count ≡ counting.trues (take l.flag-index l.flags)) × (l.count ≤ l.flag-index)
