use Rattle.std.proofs.Common.{subst}
use Rattle.session_requests.specs.Views.{WorkView}
use Rattle.session_requests.specs.Works.{IsMerged}
use Rattle.session_requests.proofs.seat.Seat.merged.Goals as goal

pub returns-in-Ok-clause-merged : goal.returns-in-Ok-clause-merged
returns-in-Ok-clause-merged g c = subst (λ (w : WorkView). IsMerged w c.in-Ok.merged) c.work.view_is c.in-Ok.ensures.shown
