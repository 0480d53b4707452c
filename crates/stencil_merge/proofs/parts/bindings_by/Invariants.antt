use Rattle.std.proofs.Common.{◌≡◌, map, take}
use Rattle.stencil_merge.specs.Atoms.{binding_by}
use Rattle.stencil_merge.proofs.parts.bindings_by.Given as goal

abbrev pub invariant-loop-binding : goal.invariant-loop-binding
invariant-loop-binding l = l.made.items ≡ map (binding_by l.atoms) (take l.binding-index l.bindings)
