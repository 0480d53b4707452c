use Rattle.std.proofs.Common.{List, Option, subst}
use Rattle.std.proofs.lemmas.List.{take_all}
use Rattle.session_requests.specs.Hands.{FitAll}
use Rattle.session_requests.specs.Views.{WorkView}
use Rattle.session_requests.proofs.Fitting.{fit_next, fit_none, work_here}
use Rattle.session_requests.proofs.hand.Hand.new.Goals as goal

pub seat_at-requires : goal.seat_at-requires
seat_at-requires g c = work_here g.N.Sources.files c.args.works.now c.loop-work.work-index c.work-item.result c.loop-work-test.true c.work-item.is c.requires

pub loop-work-init : goal.loop-work-init
loop-work-init g c = fit_none c.args.works.now c.new-seats.result.items c.new-seats.ensures.items

pub loop-work-preserved : goal.loop-work-preserved
loop-work-preserved g c =
    fit_next c.args.works.now c.loop-work.work-index c.loop-work.seats.items _ c.work-item.result c.in_ok-seat.seat
    c.loop-work-test.true c.work-item.is c.loop-work.invariant c.in_ok-seat.ensures c.in_ok-push.ensures.items

pub returns : goal.returns
returns g c = subst (λ (works : List (Option WorkView)). FitAll works c.loop-work.seats.items) (take_all c.loop-work.work-index c.args.works.now c.loop-work-test.false) c.loop-work.invariant
