use Rattle.std.proofs.Common.{◌≡◌, ◌++◌, take, flat_map}
use Rattle.stencil_xdr_read.specs.Atoms.{closed_atoms}
use Rattle.stencil_xdr_read.proofs.atoms.append_closed.Given as goal

abbrev pub invariant-loop-name : goal.invariant-loop-name
invariant-loop-name l = l.out.items ≡ l.initial.out.items ++ flat_map closed_atoms (take l.name-index l.names)
