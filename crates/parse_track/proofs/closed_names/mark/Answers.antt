use Rattle.std.proofs.Common.{◌∙◌, sym, arith}
use Rattle.parse_track.proofs.Marking.{mark_step, marks_none}
use Rattle.parse_track.proofs.closed_names.mark.Goals as goal

pub loop-hit-init : goal.loop-hit-init
loop-hit-init c = c.in_ok-marked.ensures ∙ sym (marks_none 0 c.args.count)

pub loop-hit-preserved : goal.loop-hit-preserved
loop-hit-preserved c = mark_step c.args.hits.now c.loop-hit.hit-index c.args.count c.loop-hit.marked.items c.set_mark.new.marked.items (omega arith) c.set_mark.ensures c.loop-hit.invariant
