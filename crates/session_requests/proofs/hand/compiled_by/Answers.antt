use Rattle.std.proofs.Common.{sym, ap, arith}
use Rattle.std.proofs.lemmas.List.{take_all}
use Rattle.session_requests.specs.Hands.{compiled_total}
use Rattle.session_requests.proofs.Fitting.{compiled_few, compiled_more, none_taken, one_fits}
use Rattle.session_requests.proofs.hand.compiled_by.Goals as goal

pub loop-hand-init : goal.loop-hand-init
loop-hand-init g c = sym (none_taken c.args.hands.now)

pub compiled-count-requires : goal.compiled-count-requires
compiled-count-requires g c =
    let few = one_fits c.requires.0 c.args.hands.now c.loop-hand.hand-index c.hand-item.result c.requires.1 c.requires.2 c.loop-hand-test.true c.hand-item.is in
    omega (arith, few)

pub overflow_add-count : goal.overflow_add-count
overflow_add-count g c =
    let few = one_fits c.requires.0 c.args.hands.now c.loop-hand.hand-index c.hand-item.result c.requires.1 c.requires.2 c.loop-hand-test.true c.hand-item.is in
    let so_far = c.loop-hand.invariant in
    let here = c.compiled-count.ensures in
    omega (arith, few, so_far, here)

pub loop-hand-preserved : goal.loop-hand-preserved
loop-hand-preserved g c =
    let more = compiled_more c.args.hands.now c.loop-hand.hand-index c.hand-item.result c.loop-hand-test.true c.hand-item.is in
    let so_far = c.loop-hand.invariant in
    let here = c.compiled-count.ensures in
    omega (arith, more, so_far, here)

pub returns : goal.returns
returns g c = λ works fit.
    let few = compiled_few works c.args.hands.now fit in
    let all = ap compiled_total (take_all c.loop-hand.hand-index c.args.hands.now c.loop-hand-test.false) in
    let so_far = c.loop-hand.invariant in
    omega (arith, few, all, so_far)
