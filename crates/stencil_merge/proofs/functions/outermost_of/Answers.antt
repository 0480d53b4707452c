use Rattle.std.proofs.Common.{◌≡◌, ◌+◌, ◌++◌, ℕ, List, true, false, drop, sym, subst}
use Rattle.stencil_merge.specs.Functions.{inner_of, outermost_from, outermost}
use Rattle.stencil_merge.proofs.Outermost.{passed, counted, all_found, place_within, all_passed, flag_is}
use Rattle.stencil_merge.proofs.functions.outermost_of.Goals as goal

pub loop-place-preserved-then-is_inside : goal.loop-place-preserved-then-is_inside
loop-place-preserved-then-is_inside c =
    passed (inner_of c.args.records.now) c.loop-place.place c.loop-place.numbers.items
    (place_within c.args.records.now c.in_ok-flags.flags.items c.deref-is_inside-items.result.now c.loop-place.place c.deref-is_inside-items.ensures.value c.in_ok-flags.ensures.count c.loop-place-test.true) c.loop-place.invariant
    (flag_is c.args.records.now c.in_ok-flags.flags.items c.deref-is_inside-items.result.now c.loop-place.place true c.deref-is_inside-items.ensures.value c.in_ok-flags.ensures.count c.in_ok-flags.ensures.flags c.loop-place-test.true c.if-is_inside.true)

pub loop-place-preserved : goal.loop-place-preserved
loop-place-preserved c =
    subst (λ (ns : List ℕ). ns ++ outermost_from (inner_of c.args.records.now) (c.loop-place.place + 1 + 1) (drop (c.loop-place.place + 1) (inner_of c.args.records.now)) ≡ outermost (inner_of c.args.records.now)) (sym c.in_ok-push.ensures.items)
    (counted (inner_of c.args.records.now) c.loop-place.place c.loop-place.numbers.items
    (place_within c.args.records.now c.in_ok-flags.flags.items c.deref-is_inside-items.result.now c.loop-place.place c.deref-is_inside-items.ensures.value c.in_ok-flags.ensures.count c.loop-place-test.true) c.loop-place.invariant
    (flag_is c.args.records.now c.in_ok-flags.flags.items c.deref-is_inside-items.result.now c.loop-place.place false c.deref-is_inside-items.ensures.value c.in_ok-flags.ensures.count c.in_ok-flags.ensures.flags c.loop-place-test.true c.if-is_inside.false))

pub returns : goal.returns
returns c =
    all_found (inner_of c.args.records.now) c.loop-place.place c.loop-place.numbers.items
    (all_passed c.args.records.now c.in_ok-flags.flags.items c.deref-is_inside-items.result.now c.loop-place.place c.deref-is_inside-items.ensures.value c.in_ok-flags.ensures.count c.loop-place-test.false) c.loop-place.invariant
