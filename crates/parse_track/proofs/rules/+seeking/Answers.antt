use Rattle.std.proofs.Common.{◌-◌, ◌<◌, drop, length, map, arith, add-one, drop-cons, slice_get}
use Rattle.std.proofs.lemmas.List.{drop_all}
use Rattle.parse_track.specs.Log.{told_region, known_names, kind_of, region_of}
use Rattle.parse_track.specs.Rows.{row_of}
use Rattle.parse_track.specs.Rules.{rule_of, offset_of}
use Rattle.parse_track.proofs.Seeking.{seek_step, seek_inner, seek_end, seek_leaf}
use Rattle.parse_track.proofs.rules.+seeking.Goals as goal

pub seek_in-loop-item-preserved : goal.seek_in-loop-item-preserved
seek_in-loop-item-preserved t c = λ rule.
    let l : c.loop-item.item-index < length c.items_at-items.result.now = omega arith in
    seek_step (rule_of rule (known_names c.args.known.now)) (map row_of c.args.rows.now) (told_region (c.args.room - 1) (map row_of c.args.rows.now)) c.items_at-items.result.now c.loop-item.item-index _
    (offset_of c.loop-item.offsets rule) (offset_of c.seek_in_item.new.offsets rule) _
    (rw add-one (drop-cons c.items_at-items.result.now c.loop-item.item-index _ l))
    (c.in_ok-seek_in_item.ensures rule)
    (c.loop-item.invariant rule)

pub seek_in-returns : goal.seek_in-returns
seek_in-returns t c = λ rule.
    seek_end (rule_of rule (known_names c.args.known.now)) (map row_of c.args.rows.now) c.args.room c.args.region c.items_at-items.result.now (drop c.loop-item.item-index c.items_at-items.result.now) (offset_of c.args.offsets.now rule) (offset_of c.loop-item.offsets rule)
    (drop_all c.loop-item.item-index c.items_at-items.result.now (omega arith)) (c.loop-item.invariant rule) c.items_at-items.ensures.items

pub seek_in_item-returns-in-Declared : goal.seek_in_item-returns-in-Declared
seek_in_item-returns-in-Declared t c = rw c.in-Declared.is (λ rule. seek_leaf c.args.offsets.now rule)

pub seek_in_item-returns-in-Used : goal.seek_in_item-returns-in-Used
seek_in_item-returns-in-Used t c = rw c.in-Used.is (λ rule. seek_leaf c.args.offsets.now rule)

pub seek_in_item-returns-in-Jumped : goal.seek_in_item-returns-in-Jumped
seek_in_item-returns-in-Jumped t c = rw c.in-Jumped.is (λ rule. seek_leaf c.args.offsets.now rule)

pub seek_in_item-returns-in-JumpedTo : goal.seek_in_item-returns-in-JumpedTo
seek_in_item-returns-in-JumpedTo t c = rw c.in-JumpedTo.is (λ rule. seek_leaf c.args.offsets.now rule)

pub seek_in_item-returns-in_ok-seek_in-in-Inner : goal.seek_in_item-returns-in_ok-seek_in-in-Inner
seek_in_item-returns-in_ok-seek_in-in-Inner t c =
    rw c.in-Inner.is
    (λ rule. seek_inner (rule_of rule (known_names c.args.known.now)) (kind_of (slice_get (map row_of c.args.rows.now) c.in-Inner.region)) (region_of c.kind_at-kind.result) (told_region c.args.room (map row_of c.args.rows.now) c.in-Inner.region)
    (offset_of c.args.offsets.now rule) (offset_of c.in_ok-own-in-Inner.own rule) (offset_of c.lessen.new.self rule) (offset_of c.seek_in.new.offsets rule)
    c.kind_at-kind.ensures (c.in_ok-own-in-Inner.ensures rule) (c.lessen.ensures rule) (c.in_ok-seek_in-in-Inner.ensures rule))
