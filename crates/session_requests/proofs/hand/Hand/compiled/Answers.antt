use Rattle.std.proofs.Common.{sym, arith}
use Rattle.session_requests.proofs.Fitting.{all_seats, count_more, nothing_taken, seat_fits}
use Rattle.session_requests.proofs.hand.Hand.compiled.Goals as goal

pub loop-seat-init : goal.loop-seat-init
loop-seat-init g c = sym (nothing_taken c.deref-seat-items.result.now)

pub overflow_add-count : goal.overflow_add-count
overflow_add-count g c =
    let fits = seat_fits c.deref-seat-items.result.now c.self.inside.seats.items c.self.inside.ran.items c.args.self.now c.loop-seat.seat-index c.seat-item.result c.loop-seat.count c.compiled_at-count.result
    c.self.view_is c.deref-seat-items.ensures.value c.loop-seat-test.true c.seat-item.is c.loop-seat.invariant c.compiled_at-count.ensures c.requires in
    omega (arith, fits)

pub loop-seat-preserved : goal.loop-seat-preserved
loop-seat-preserved g c =
    let more = count_more c.deref-seat-items.result.now c.loop-seat.seat-index c.seat-item.result c.loop-seat-test.true c.seat-item.is in
    let so_far = c.loop-seat.invariant in
    let here = c.compiled_at-count.ensures in
    omega (arith, more, so_far, here)

pub returns : goal.returns
returns g c =
    all_seats c.deref-seat-items.result.now c.self.inside.seats.items c.self.inside.ran.items c.args.self.now c.loop-seat.seat-index c.loop-seat.count
    c.self.view_is c.deref-seat-items.ensures.value (omega arith) c.loop-seat.invariant
