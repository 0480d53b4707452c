use Rattle.std.proofs.Common.{drop_of_length-le}
use Rattle.bytecode_buf.proofs.AppendLemmas.{drop-next}
use Rattle.emit_stmts.specs.declared.frames.Frame.TheVariants as frame
use Rattle.emit_stmts.proofs.ReturnRows as list
use Rattle.emit_stmts.proofs.returning.have_exit.Goals as goal

pub loop-frame-init : goal.loop-frame-init
loop-frame-init c = list.looked_begin _ _ _

pub returns-then-has_exit : goal.returns-then-has_exit
returns-then-has_exit c = list.looked_found _ _ _ (drop-next c.args.frames.now c.loop-frame.frame-index frame.Loop c.loop-frame-test.true) c.has_exit.ensures c.if-has_exit.true c.loop-frame.invariant

pub loop-frame-preserved : goal.loop-frame-preserved
loop-frame-preserved c = list.looked_next _ _ _ (drop-next c.args.frames.now c.loop-frame.frame-index frame.Loop c.loop-frame-test.true) c.has_exit.ensures c.if-has_exit.false c.loop-frame.invariant

pub returns : goal.returns
returns c = list.looked_none _ (drop_of_length-le c.args.frames.now c.loop-frame-test.false) c.loop-frame.invariant
