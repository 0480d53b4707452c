use Rattle.session_requests.proofs.Seats.{new_fits}
use Rattle.session_requests.proofs.seat.Seat.new.Goals as goal

pub returns : goal.returns
returns g c = new_fits g.N.Sources.files c.work.inside.board c.work.inside.shown.now c.work.inside.count c.args.work.now c.in_ok-pass.pass c.new.result.count c.new.result.room c.work.view_is c.requires c.in_ok-pass.ensures.belongs c.new.ensures.count c.new.ensures.room
