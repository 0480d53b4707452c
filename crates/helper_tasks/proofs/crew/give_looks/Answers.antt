use Rattle.std.proofs.Common.{refl, arith}
use Rattle.helper_tasks.proofs.Crewing.{give_step, gave_all}
use Rattle.helper_tasks.proofs.crew.give_looks.Goals as goal

pub loop-at-preserved : goal.loop-at-preserved
loop-at-preserved g c =
    give_step c.args.helpers.now c.loop-at.helpers c.loop-at.at _ c.index-helpers-at.result c.in_ok-looks.looks
    refl (omega arith) (omega arith) c.loop-at.invariant.0 c.loop-at.invariant.1 c.loop-at.invariant.2 c.in_ok-looks.ensures.looks c.look_at_all.new.helpers c.in_ok-looks.ensures.helpers

pub returns-clause-own : goal.returns-clause-own
returns-clause-own g c = gave_all c.loop-at.helpers c.loop-at.at _ (omega arith) c.loop-at.invariant.1
