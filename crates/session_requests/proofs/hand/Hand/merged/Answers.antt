use Rattle.std.proofs.Common.{arith}
use Rattle.session_requests.proofs.Fitting.{fits_after, fits_here, seat_there, work_here}
use Rattle.session_requests.proofs.hand.Hand.merged.Goals as goal

pub index_mut-requires : goal.index_mut-requires
index_mut-requires g c =
    let there = seat_there c.args.works.now c.self.inside.seats.items c.self.inside.ran.items c.args.self.now c.args.file c.self.view_is c.requires.fits c.requires.file in
    let long = c.self.inside.seats.ok in
    omega (arith, there, long)

pub merged_at-requires-clause-work : goal.merged_at-requires-clause-work
merged_at-requires-clause-work g c = work_here g.N.Sources.files c.args.works.now c.args.file c.index-works-file.result c.requires.file c.index-works-file.is c.requires.works

pub merged_at-requires-clause-fits : goal.merged_at-requires-clause-fits
merged_at-requires-clause-fits g c =
    fits_here c.args.works.now c.self.inside.seats.items c.self.inside.ran.items c.args.self.now c.args.file c.index-works-file.result c.index_mut.result.now
    c.self.view_is c.requires.fits c.requires.file c.index-works-file.is c.index_mut.ensures.value

pub returns-clause-fits : goal.returns-clause-fits
returns-clause-fits g c =
    fits_after c.args.works.now c.self.inside.seats.items c.self.inside.ran.items c.args.self.now c.args.file c.index-works-file.result c.merged_at.new.place
    c.self.view_is c.requires.fits c.requires.file c.index-works-file.is c.merged_at.ensures.fits
