use Rattle.std.proofs.Common.{sym}
use Rattle.parse_function.proofs.Shifting.{fits, all_shifted}
use Rattle.parse_function.proofs.points.points_in.Goals as goal

pub shift-requires : goal.shift-requires
shift-requires c = fits c.args.bytes.now c.requires.utf8 c.args.start c.in_ok-points.points.items c.deref_mut.result.now c.requires.size c.in_ok-points.ensures c.deref_mut.ensures.value

pub returns : goal.returns
returns c = all_shifted c.args.bytes.now c.requires.utf8 c.args.start c.in_ok-points.points.items c.deref_mut.result.now c.shift.new.points c.in_ok-points.points.len c.in_ok-points.ensures c.deref_mut.ensures.value (sym c.deref_mut.ensures.len) c.shift.ensures
