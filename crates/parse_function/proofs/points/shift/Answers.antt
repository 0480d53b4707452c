use Rattle.parse_function.specs.Shifted.{shifted}
use Rattle.parse_function.proofs.Shifting.{one_more}
use Rattle.parse_function.proofs.points.shift.Goals as goal

pub loop-point-preserved : goal.loop-point-preserved
loop-point-preserved c = one_more (shifted c.args.by) (record { code = 0; start = 0; end = 0 }) c.loop-point.point-index c.args.points.now c.loop-point.points c.loop-point-test.true c.loop-point.invariant
