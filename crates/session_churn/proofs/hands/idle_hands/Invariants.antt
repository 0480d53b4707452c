use Rattle.std.specs.Prelude.{length, ◌≡◌}
use Rattle.session_churn.proofs.hands.idle_hands.Given as goal

abbrev pub invariant-loop : goal.invariant-loop
invariant-loop l = length l.hands.items ≡ l.counter
