use Rattle.std.proofs.Common.{◌<◌, length, map, arith, add-one, drop-cons, refl}
use Rattle.std.proofs.lemmas.List.{drop_all}
use Rattle.parse_track.specs.AtomTables.{entry}
use Rattle.parse_track.specs.Rows.{row_of}
use Rattle.parse_track.specs.Pruned.{quiet}
use Rattle.parse_track.proofs.LoneFunctions.{quiet_cons, ask_fails, ask_ends}
use Rattle.parse_track.proofs.lone.+listening.Goals as goal

pub is_quiet-returns-then-not-is_quiet_item : goal.is_quiet-returns-then-not-is_quiet_item
is_quiet-returns-then-not-is_quiet_item t c =
    let l : c.loop-item.item-index < length c.items_at-item-items.result.now = omega arith in
    ask_fails (quiet (entry c.args.env.now.entries.items) c.args.depth) (quiet_cons (entry c.args.env.now.entries.items) c.args.depth)
    (map row_of c.args.rows.now) c.args.room c.args.region c.items_at-item-items.result.now c.loop-item.item-index _ c.is_quiet_item.result
    (rw add-one (drop-cons c.items_at-item-items.result.now c.loop-item.item-index _ l))
    c.is_quiet_item.ensures c.if-not-is_quiet_item.true c.loop-item.invariant c.items_at-item-items.ensures.items

pub is_quiet-returns : goal.is_quiet-returns
is_quiet-returns t c =
    ask_ends (quiet (entry c.args.env.now.entries.items) c.args.depth) (quiet_cons (entry c.args.env.now.entries.items) c.args.depth)
    (map row_of c.args.rows.now) c.args.room c.args.region c.items_at-item-items.result.now _ (drop_all c.loop-item.item-index c.items_at-item-items.result.now (omega arith)) refl
    c.loop-item.invariant c.items_at-item-items.ensures.items
