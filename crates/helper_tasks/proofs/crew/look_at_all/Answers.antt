use Rattle.std.proofs.Common.{◌<◌, length, refl, ap, arith}
use Rattle.helper_tasks.specs.Crew.{gave_part}
use Rattle.helper_tasks.proofs.Crewing.{look_step, seam_length}
use Rattle.helper_tasks.proofs.crew.look_at_all.Goals as goal

pub loop-helper-preserved : goal.loop-helper-preserved
loop-helper-preserved g c =
    let small : c.loop-helper.helper-index < length c.args.helpers.now = omega (arith, ap length c.loop-helper.invariant.1, seam_length gave_part c.args.helpers.now c.loop-helper.helper-index) in
    look_step c.args.helpers.now c.loop-helper.helpers c.loop-helper.helper-index _ c.helper-item.result c.look.new.self c.in_ok-look.field-0 _ _
    refl small c.loop-helper.invariant.0 c.loop-helper.invariant.1 c.in_ok-look.ensures.look.0 c.in_ok-look.ensures.look.1 c.in_ok-push.ensures.items
