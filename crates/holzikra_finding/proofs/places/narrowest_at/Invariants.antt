use Rattle.std.proofs.Common.{take}
use Rattle.holzikra_finding.specs.Finding.{IsNarrowestAt}
use Rattle.holzikra_finding.proofs.places.narrowest_at.Given as goal

abbrev pub invariant-loop-place : goal.invariant-loop-place
invariant-loop-place l = IsNarrowestAt l.records (take l.place l.records) l.offset l.found
