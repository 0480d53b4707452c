use Rattle.std.proofs.Common.{◌<◌, length}
use Rattle.parse_track.proofs.Log.{told_none}
use Rattle.parse_track.proofs.track.reserve_items.Goals as goal

pub returns-in_err-reserve : goal.returns-in_err-reserve
returns-in_err-reserve c =
    let h : c.in-Some.n < length c.args.rows.now.items = rw c.in-Some.is at c.requires in
    told_none c.args.rows.now.items c.in-Some.n c.index_mut-row.result.now c.reserve.new.self h c.index_mut-row.ensures.value c.reserve.ensures

pub returns-in_ok-reserve : goal.returns-in_ok-reserve
returns-in_ok-reserve c =
    let h : c.in-Some.n < length c.args.rows.now.items = rw c.in-Some.is at c.requires in
    told_none c.args.rows.now.items c.in-Some.n c.index_mut-row.result.now c.reserve.new.self h c.index_mut-row.ensures.value c.reserve.ensures
