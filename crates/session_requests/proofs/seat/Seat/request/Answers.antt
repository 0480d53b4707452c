use Rattle.compile_shown.specs.Shown.{flagged}
use Rattle.session_requests.proofs.Seats.{asked_fits, refused_fits, room_serves, shown_upward}
use Rattle.session_requests.proofs.seat.Seat.request.Goals as goal
use Rattle.session_requests.proofs.seat.Seat.request.Goals.{in-Ok, in-Err}

pub request-requires-clause-room : goal.request-requires-clause-room
request-requires-clause-room g c =
    room_serves g.N.Sources.files c.work.inside.board c.work.inside.shown.now c.work.inside.count c.args.work.now
    c.self.inside.pass c.self.inside.sheet.count c.self.inside.sheet.room c.self.inside.spent c.args.self.now c.args.number
    c.work.view_is c.self.view_is c.requires.work c.requires.fits c.if-self.false c.requires.shown

pub returns : goal.returns
returns g c =
    elim c.match-request.branch [
      | in-Ok w ↦ asked_fits c.work.inside.board c.work.inside.shown.now c.work.inside.count c.args.work.now
          c.self.inside.pass c.self.inside.sheet.count c.self.inside.sheet.room c.self.inside.spent c.args.self.now
          c.request.new.pass c.request.new.tally.count c.request.new.tally.room c.match-request.self
          c.work.view_is c.self.view_is c.requires.fits c.request.ensures.belongs c.request.ensures.sum
          (w.in-Ok.ensures.counted (flagged c.args.work.now.shown)
          (shown_upward g.N.Sources.files c.work.inside.board c.work.inside.shown.now c.work.inside.count c.args.work.now c.work.view_is c.requires.work)
          c.requires.shown) w.self-is
      | in-Err w ↦ refused_fits c.work.inside.board c.work.inside.shown.now c.work.inside.count c.args.work.now
          c.self.inside.pass c.self.inside.sheet.count c.self.inside.sheet.room c.self.inside.spent c.args.self.now
          c.request.new.pass c.request.new.tally.count c.request.new.tally.room c.match-request.self
          c.work.view_is c.self.view_is c.requires.fits c.request.ensures.belongs c.request.ensures.sum w.self-is
    ]
