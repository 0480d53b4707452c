use Rattle.std.proofs.Common.{◌≤◌}
use Rattle.std.specs.Prelude.{IfSome}
use Rattle.parse_function.proofs.holes.window.Given as goal

-- what was found lies in the function
abbrev pub invariant-loop-at : goal.invariant-loop-at
invariant-loop-at l = IfSome l.to (λ to. (l.inner.start ≤ to) × (to ≤ l.inner.end))
