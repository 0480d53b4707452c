use Rattle.std.proofs.Common.{◌<◌, length, map, arith, add-one, drop-cons, refl}
use Rattle.std.proofs.lemmas.List.{drop_all}
use Rattle.parse_track.specs.Rows.{row_of}
use Rattle.parse_track.specs.Pruned.{lone}
use Rattle.parse_track.proofs.LoneFunctions.{lone_cons, ask_fails, ask_ends}
use Rattle.parse_track.proofs.lone.+searching.Goals as goal

pub is_lone-returns-then-not-is_lone_item : goal.is_lone-returns-then-not-is_lone_item
is_lone-returns-then-not-is_lone_item t c =
    let l : c.loop-item.item-index < length c.items_at-item-items.result.now = omega arith in
    ask_fails lone lone_cons (map row_of c.args.rows.now) c.args.room c.args.region c.items_at-item-items.result.now c.loop-item.item-index _ c.is_lone_item.result
    (rw add-one (drop-cons c.items_at-item-items.result.now c.loop-item.item-index _ l))
    c.is_lone_item.ensures c.if-not-is_lone_item.true c.loop-item.invariant c.items_at-item-items.ensures.items

pub is_lone-returns : goal.is_lone-returns
is_lone-returns t c =
    ask_ends lone lone_cons (map row_of c.args.rows.now) c.args.room c.args.region c.items_at-item-items.result.now _ (drop_all c.loop-item.item-index c.items_at-item-items.result.now (omega arith)) refl
    c.loop-item.invariant c.items_at-item-items.ensures.items
