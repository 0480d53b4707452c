use Rattle.std.proofs.Common.{◌≡◌, map, take}
use Rattle.stencil_merge.specs.Atoms.{closed_by}
use Rattle.stencil_merge.proofs.parts.all_closed_by.Given as goal

abbrev pub invariant-loop-name : goal.invariant-loop-name
invariant-loop-name l = l.made.items ≡ map (closed_by l.atoms) (take l.name-index l.names)
