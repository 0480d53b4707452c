use Rattle.std.proofs.Common.{drop_of_length-le}
use Rattle.bytecode_buf.proofs.AppendLemmas.{drop-next}
use Rattle.emit_functions.proofs.ParamRows as list
use Rattle.emit_functions.proofs.params.specials.Goals as goal

pub loop-binding-init : goal.loop-binding-init
loop-binding-init c = list.specials_begin _ _ _

pub loop-binding-preserved : goal.loop-binding-preserved
loop-binding-preserved c = list.specials_next _ _ _ (drop-next c.args.bindings.now c.loop-binding.binding-index _ c.loop-binding-test.true) c.in_ok-special.ensures c.loop-binding.invariant

pub returns : goal.returns
returns c = list.specials_end _ (drop_of_length-le c.args.bindings.now c.loop-binding-test.false) c.loop-binding.invariant
