use Rattle.std.proofs.Common.{drop_of_length-le}
use Rattle.bytecode_buf.proofs.AppendLemmas.{drop-next}
use Rattle.emit_functions.proofs.CopyRows as list
use Rattle.emit_functions.proofs.copies.copies.Goals as goal

pub loop-binding-init : goal.loop-binding-init
loop-binding-init c hops outer passes = list.copies_begin _ _ _ _ _ _

pub loop-binding-preserved : goal.loop-binding-preserved
loop-binding-preserved c hops outer passes = list.copies_next _ _ _ (drop-next c.args.bindings.now c.loop-binding.binding-index _ c.loop-binding-test.true) (c.in_ok-copy.ensures hops outer passes) (c.loop-binding.invariant hops outer passes)

pub returns : goal.returns
returns c hops outer passes = list.copies_end _ (drop_of_length-le c.args.bindings.now c.loop-binding-test.false) (c.loop-binding.invariant hops outer passes)
