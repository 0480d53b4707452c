use Rattle.std.proofs.Common.{◌≡◌, map, take}
use Rattle.stencil_merge.specs.Atoms.{record_by}
use Rattle.stencil_merge.proofs.parts.records_by.Given as goal

abbrev pub invariant-loop-lazy : goal.invariant-loop-lazy
invariant-loop-lazy l = l.made.items ≡ map (record_by l.atoms) (take l.lazy-index l.records)
