use Rattle.std.specs.Prelude.{◌*◌, ◌^◌, ◌≤◌}
use Rattle.session_churn.specs.Counts.{HaveInstructions}
use Rattle.session_churn.proofs.rounds.visit_in_rounds.Given as goal

abbrev pub invariant-loop : goal.invariant-loop
invariant-loop g l =
    HaveInstructions l.bytes l.found.instructions
    × (l.found.instructions ≤ 2 ^ 83)
    × (l.found.compiled ≤ l.counter * 2 ^ 38)
