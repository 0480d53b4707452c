use Rattle.std.proofs.Common.{◌+◌}
use Rattle.stencil.proofs.VerifiedLemmas.{AreSoundBelow}
use Rattle.stencil.proofs.verifying.verify.Given as goal

abbrev pub invariant-loop-place : goal.invariant-loop-place
invariant-loop-place l = AreSoundBelow l.stencil (l.place + 1) l.deepest
