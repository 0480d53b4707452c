use Rattle.std.proofs.Common.{List, ap, arith, subst, sym, ℕ, ◌<◌, ◌∙◌}
use Rattle.std.specs.Prelude.{length, map, sum}
use denote.Param.Send.{sendable}
use Rattle.helper_tasks.specs.Jobs.{IsOrderOf}
use Rattle.session_churn.proofs.Crossing.{round_sync}
use Rattle.session_churn.proofs.Totals.{visits_counted}
use Rattle.session_churn.specs.Visits.{size_of}
use Rattle.session_churn.specs.declared.visits.Visit.{Visit}
use Rattle.session_churn.proofs.round.visit_all.Goals as goal

pub run_tasks-requires-clause-order : goal.run_tasks-requires-clause-order
run_tasks-requires-clause-order g c κs within =
    let order = c.in_ok-order.ensures in
    let long = order.0 in
    let few = c.requires.can.few in
    subst (λ (l : List ℕ). IsOrderOf c.args.functions l × (length l < 4294967296)) (sym c.deref.ensures.value) (order, omega (arith, long, few))

pub run_tasks-requires-sync-J : goal.run_tasks-requires-sync-J
run_tasks-requires-sync-J g c κs within = search (round_sync, sendable)

pub returns-clause-instructions : goal.returns-clause-instructions
returns-clause-instructions g c =
    visits_counted c.args.board.now.bytes c.args.board.now.initial c.in_ok-visits.visits.items c.found_by.result.instructions c.requires.can.initial (c.in_ok-visits.ensures.outs.0 ∙ c.requires.can.all) c.in_ok-visits.ensures.outs.1
    (c.found_by.ensures.instructions ∙ ap (λ (visits : List Visit). sum (map size_of visits)) c.deref-2.ensures.value)
