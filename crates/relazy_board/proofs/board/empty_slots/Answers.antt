use Rattle.std.proofs.Common.{◌+◌, sym, ap, subst}
use Rattle.relazy_board.specs.declared.place.FunctionPlace.{FunctionPlace}
use Rattle.relazy_board.specs.Board.{AreSlotsOf}
use Rattle.relazy_board.proofs.Slots.{one_more}
use Rattle.relazy_board.proofs.board.empty_slots.Goals as goal

pub loop-index-preserved : goal.loop-index-preserved
loop-index-preserved c =
    subst (AreSlotsOf c.args.bytes.now (c.loop-index.index + 1)) (sym c.in_ok-push.ensures.items)
    (one_more c.args.bytes.now c.loop-index.index c.loop-index.slots.items c.new.result (ap (λ (p : FunctionPlace). p.bytes.now) c.new.ensures) (ap (λ (p : FunctionPlace). p.number) c.new.ensures) c.loop-index.invariant)
