use Rattle.std.proofs.Common.{take}
use Rattle.stencil_instance.proofs.Seen.{SeenSoFar}
use Rattle.stencil_instance.proofs.instance.texts_of.Given as goal

abbrev pub invariant-loop-atom : goal.invariant-loop-atom
invariant-loop-atom l = SeenSoFar l.fn.desk l.desk (take l.atom-index l.atoms) l.texts.items
