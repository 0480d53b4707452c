use Rattle.compile_session.proofs.StartLemmas.{AskedUpTo}
use Rattle.session_requests.specs.Works.{AreWorks}
use Rattle.compile_session.proofs.shown.works_of.Given as goal

abbrev pub invariant-loop-number : goal.invariant-loop-number
invariant-loop-number g l = AreWorks g.N.Sources.files l.works.items × AskedUpTo l.reads l.starts l.number l.works.items
