use Rattle.std.proofs.Common.{◌+◌, ◌∙◌, length, ap, arith}
use Rattle.stencil_merge.proofs.Wholes.{merges_none, merges_step, number_at, texts_at, texts_within}
use Rattle.stencil_merge.proofs.whole.merge.Goals as goal

pub add-requires-clause-function : goal.add-requires-clause-function
add-requires-clause-function c = number_at _ _ c.args.functions.now c.loop-function.function-index c.function-item.result c.requires.numbers c.loop-function-test.true c.function-item.is c.loop-function.invariant.2

pub add-requires-clause-few : goal.add-requires-clause-few
add-requires-clause-few c =
    let here = texts_at c.args.functions.now c.loop-function.function-index c.function-item.result c.deref.result.now c.loop-function-test.true c.function-item.is c.deref.ensures.value in
    let most = texts_within c.args.functions.now (c.loop-function.function-index + 1) in
    let few = c.loop-function.invariant.1 in
    let room = c.requires.texts in
    omega (arith, here, most, few, room)

pub loop-function-init : goal.loop-function-init
loop-function-init c = (merges_none c.args.parts.now c.in_ok-merger.merger c.in_ok-merger.ensures.begins, omega (arith, c.in_ok-merger.ensures.few), c.in_ok-merger.ensures.records)

pub loop-function-preserved : goal.loop-function-preserved
loop-function-preserved c =
    let number = number_at _ _ c.args.functions.now c.loop-function.function-index c.function-item.result c.requires.numbers c.loop-function-test.true c.function-item.is c.loop-function.invariant.2 in
    let here = texts_at c.args.functions.now c.loop-function.function-index c.function-item.result c.deref.result.now c.loop-function-test.true c.function-item.is c.deref.ensures.value in
    let few = c.loop-function.invariant.1 in
    let more = c.in_ok-add.ensures.few in (
      merges_step c.args.parts.now c.args.functions.now c.loop-function.function-index c.function-item.result c.deref.result.now c.loop-function.merger c.add.new.self c.loop-function-test.true c.function-item.is c.deref.ensures.value number.0 c.loop-function.invariant.0 c.in_ok-add.ensures.adds,
      omega (arith, here, few, more),
      ap length c.in_ok-add.ensures.records ∙ c.loop-function.invariant.2,
    )
