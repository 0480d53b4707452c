use Rattle.compile_first_pass.specs.Skims.{AreSkimmed}
use Rattle.compile_first_pass.proofs.skim.skim_bodies.Given as goal

abbrev pub invariant-loop-body : goal.invariant-loop-body
invariant-loop-body g l = AreSkimmed g.H.Handler.shows_body l.yielded l.told.items l.found.items l.errors.items
