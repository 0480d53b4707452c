use Rattle.std.proofs.Common.{arith}
use Rattle.std.proofs.lemmas.List.{drop_all}
use Rattle.parse_track.proofs.Items.{vars_done}
use Rattle.parse_track.proofs.names.+hoisting.Goals as goal

pub add_vars-returns : goal.add_vars-returns
add_vars-returns t c = vars_done _ c.args.room c.args.region _ _ c.items_at-items.result.now _ (drop_all c.loop-item.item-index c.items_at-items.result.now (omega arith)) c.loop-item.invariant c.items_at-items.ensures.items
