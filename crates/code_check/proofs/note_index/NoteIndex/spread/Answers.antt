use Rattle.code_check.proofs.Spreading.{spreads_first, spreads_more, spreads_all, second_inside}
use Rattle.code_check.proofs.note_index.NoteIndex.spread.Goals as goal

pub put_if-requires-in-loop-low : goal.put_if-requires-in-loop-low
put_if-requires-in-loop-low c = second_inside c.args.number c.loop-low.low c.loop-low.low c.loop-low.high _ c.loop-low.self c.put_if.new.self c.loop-low-test.true c.loop-low.invariant.inside c.in_ok-put_if.ensures

pub loop-low-init : goal.loop-low-init
loop-low-init c = spreads_first c.args.number c.args.low c.args.high c.args.self.now c.requires

pub loop-low-preserved : goal.loop-low-preserved
loop-low-preserved c = spreads_more c.args.number c.args.low c.args.high c.args.self.now c.loop-low.low c.loop-low.high c.loop-low.self c.loop-low.invariant c.put_if.new.self c.put_if-in-loop-low.new.self c.loop-low-test.true c.in_ok-put_if.ensures c.in_ok-put_if-2.ensures

pub returns : goal.returns
returns c = spreads_all c.args.number c.args.low c.args.high c.args.self.now c.loop-low.low c.loop-low.high c.loop-low.self c.loop-low.invariant c.loop-low-test.false
