use Rattle.std.proofs.Common.{◌-◌, Bool, ap, arith}
use Rattle.std.proofs.Math.ListN.{set}
use Rattle.compile_wanted.proofs.Showing.{show_next}
use Rattle.compile_wanted.proofs.flags.show_around.Goals as goal

pub loop-left-preserved : goal.loop-left-preserved
loop-left-preserved c =
    show_next c.args.flags.now c.args.ends.now c.loop-left.flags _ c.loop-left.least c.lowered-least.result c.loop-left.left (c.loop-left.left - 1) (omega arith) c.loop-left.auto.flags c.requires c.loop-left.invariant c.lowered-least.ensures
    (ap (λ (b : Bool). set c.loop-left.flags (c.loop-left.left - 1) b) c.reaches.ensures)
