use Rattle.std.proofs.Common.{◌<◌, length, inl, inr}
use Rattle.parse_track.proofs.Log.{told_more, told_none}
use Rattle.parse_track.proofs.track.add_item.Goals as goal

pub returns-in_err-push-clause-either : goal.returns-in_err-push-clause-either
returns-in_err-push-clause-either c =
    let h : c.in-Some.n < length c.args.rows.now.items = rw c.in-Some.is at c.requires in
    inr (told_none c.args.rows.now.items c.in-Some.n c.index_mut-row.result.now c.push.new.self h c.index_mut-row.ensures.value c.in_err-push.ensures.same)

pub returns-in_ok-push-clause-either : goal.returns-in_ok-push-clause-either
returns-in_ok-push-clause-either c =
    let h : c.in-Some.n < length c.args.rows.now.items = rw c.in-Some.is at c.requires in
    inl (rw c.in-Some.is (told_more c.args.rows.now.items c.in-Some.n c.index_mut-row.result.now c.push.new.self c.args.item h c.index_mut-row.ensures.value c.in_ok-push.ensures.told))

pub returns-in_ok-push-clause-told : goal.returns-in_ok-push-clause-told
returns-in_ok-push-clause-told c =
    let h : c.in-Some.n < length c.args.rows.now.items = rw c.in-Some.is at c.requires in
    rw c.in-Some.is (told_more c.args.rows.now.items c.in-Some.n c.index_mut-row.result.now c.push.new.self c.args.item h c.index_mut-row.ensures.value c.in_ok-push.ensures.told)
