use Rattle.std.proofs.Common.{drop_of_length-le}
use Rattle.bytecode_buf.proofs.AppendLemmas.{drop-next}
use Rattle.emit_stmts.proofs.Hiding as list
use Rattle.emit_stmts.proofs.entering.hide_each.Goals as goal

pub loop-slot-init : goal.loop-slot-init
loop-slot-init c = list.hides_begin _ _ c.requires

pub counted-requires-clause-fits : goal.counted-requires-clause-fits
counted-requires-clause-fits c = list.hides_fits _ _ _ (drop-next c.args.slots.now c.loop-slot.slot-index 0 c.loop-slot-test.true) c.loop-slot.invariant

pub loop-slot-preserved : goal.loop-slot-preserved
loop-slot-preserved c = list.hides_next _ _ _ (drop-next c.args.slots.now c.loop-slot.slot-index 0 c.loop-slot-test.true) c.in_ok-counted.ensures c.loop-slot.invariant

pub returns : goal.returns
returns c = list.hides_end _ (drop_of_length-le c.args.slots.now c.loop-slot-test.false) c.loop-slot.invariant
