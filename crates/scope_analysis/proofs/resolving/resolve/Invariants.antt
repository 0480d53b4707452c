use Rattle.std.proofs.Common.{length}
use Rattle.stencil_data.specs.LinksOutside.{links_outside}
use Rattle.scope_analysis.proofs.Walk.{Walking}
use Rattle.scope_analysis.proofs.resolving.resolve.Given as goal

abbrev pub invariant-loop-rest : goal.invariant-loop-rest
invariant-loop-rest l = Walking l.chain l.name (links_outside l.rest) l.hops

abbrev pub decreases-loop-rest : goal.decreases-loop-rest
decreases-loop-rest l = length (links_outside l.rest)
