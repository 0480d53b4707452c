use Rattle.std.proofs.Common.{take}
use Rattle.stencil_instance.proofs.Seen.{SeenSoFar}
use Rattle.stencil_instance.proofs.instance.atoms_of.Given as goal

abbrev pub invariant-loop-place : goal.invariant-loop-place
invariant-loop-place l = SeenSoFar l.fn.desk l.desk l.atoms.items (take l.place l.texts)
