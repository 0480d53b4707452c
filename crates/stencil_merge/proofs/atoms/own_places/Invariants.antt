use Rattle.std.proofs.Common.{take}
use Rattle.stencil_merge.specs.Atoms.{AreAtoms}
use Rattle.stencil_merge.proofs.atoms.own_places.Given as goal

abbrev pub invariant-loop-place : goal.invariant-loop-place
invariant-loop-place l = AreAtoms (take l.place l.texts) l.texts l.numbers.items
