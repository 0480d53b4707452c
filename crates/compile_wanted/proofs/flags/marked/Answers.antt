use Rattle.std.proofs.Common.{take_all}
use Rattle.compile_wanted.proofs.ShownFlags.{marked_all}
use Rattle.compile_wanted.proofs.flags.marked.Goals as goal

pub returns : goal.returns
returns c = marked_all c.args.numbers.now _ c.args.count c.loop-number.flags.items (take_all c.loop-number.number-index c.args.numbers.now c.loop-number-test.false) c.loop-number.invariant.0 c.loop-number.invariant.1
