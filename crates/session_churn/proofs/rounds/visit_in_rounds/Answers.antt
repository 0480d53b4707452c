use Rattle.std.proofs.Common.{List, arith, subst, ℕ}
use Rattle.session_churn.specs.Counts.{HaveInstructions}
use Rattle.session_churn.proofs.rounds.visit_in_rounds.Goals as goal

pub loop-init : goal.loop-init
loop-init g c =
    let few = c.in_ok-found.ensures.compiled in
    (subst (λ (l : List ℕ). HaveInstructions l c.in_ok-found.found.instructions) c.in_ok-board.ensures.bytes c.in_ok-found.ensures.instructions, c.in_ok-found.ensures.size, omega (arith, few))

pub loop-preserved : goal.loop-preserved
loop-preserved g c =
    let before = c.loop.invariant.2 in
    let few = c.in_ok-again.ensures.compiled in
    (subst (λ (l : List ℕ). HaveInstructions l c.in_ok-again.again.instructions) c.in_ok-board.ensures.bytes c.in_ok-again.ensures.instructions, c.in_ok-again.ensures.size, omega (arith, before, few))
