use Rattle.std.proofs.Common.{drop_of_length-le}
use Rattle.bytecode_buf.proofs.AppendLemmas.{drop-next}
use Rattle.emit_stmts.specs.declared.frames.Frame.TheVariants as frame
use Rattle.emit_stmts.proofs.Exits as list
use Rattle.emit_stmts.proofs.leaving.exits.Goals as goal

pub loop-frame-init : goal.loop-frame-init
loop-frame-init c = list.exits_begin _ _ _

pub loop-frame-preserved : goal.loop-frame-preserved
loop-frame-preserved c = list.exits_next _ _ _ (drop-next c.args.frames.now c.loop-frame.frame-index frame.Loop c.loop-frame-test.true) c.in_ok-exit.ensures c.loop-frame.invariant

pub returns : goal.returns
returns c = list.exits_end _ (drop_of_length-le c.args.frames.now c.loop-frame-test.false) c.loop-frame.invariant
