use Rattle.std.proofs.Common.{◌≡◌, ◌++◌, take, flat_map}
use Rattle.stencil_xdr_read.specs.Atoms.{binding_atoms}
use Rattle.stencil_xdr_read.proofs.atoms.append_bindings.Given as goal

abbrev pub invariant-loop-binding : goal.invariant-loop-binding
invariant-loop-binding l = l.out.items ≡ l.initial.out.items ++ flat_map binding_atoms (take l.binding-index l.bindings)
