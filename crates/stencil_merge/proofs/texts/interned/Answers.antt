use Rattle.stencil_merge.proofs.Interning.{in_order_next}
use Rattle.stencil_merge.proofs.texts.interned.Goals as goal

pub loop-text-preserved : goal.loop-text-preserved
loop-text-preserved c =
    in_order_next c.args.texts.now c.loop-text.atoms c.intern.new.self c.loop-text.text-index c.text-item.result c.units.result.now c.in_ok-intern.field-0
    c.requires.apart c.loop-text-test.true c.text-item.is c.units.ensures c.loop-text.invariant c.in_ok-intern.ensures.ok
