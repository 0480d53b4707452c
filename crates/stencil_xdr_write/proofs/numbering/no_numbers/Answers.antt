use Rattle.stencil_xdr_write.proofs.Naming.{emptied_none, emptied_more, emptied_table, emptied_fit}
use Rattle.stencil_xdr_write.proofs.numbering.no_numbers.Goals as goal

pub loop-text-init : goal.loop-text-init
loop-text-init c = emptied_none _ _ c.in_ok-table.ensures.items

pub loop-text-preserved : goal.loop-text-preserved
loop-text-preserved c =
    emptied_more _ _ _ _ c.text-item.result c.no_number.result c.loop-text-test.true c.text-item.is c.no_number.ensures.none (rw c.units.ensures at c.no_number.ensures.fit) c.in_ok-push.ensures.items c.loop-text.invariant

pub returns-clause-none : goal.returns-clause-none
returns-clause-none c = emptied_table _ _ _ _ c.loop-text.auto.text-index-end c.loop-text-test.false c.in_ok-push-2.ensures.items c.loop-text.invariant

pub returns-clause-fit : goal.returns-clause-fit
returns-clause-fit c = emptied_fit _ _ _ c.loop-text-test.false c.loop-text.invariant
