use Rattle.std.proofs.Common.{◌≡◌, ◌++◌, take, flat_map}
use Rattle.stencil_xdr_read.specs.Atoms.{scope_atoms}
use Rattle.stencil_xdr_read.proofs.atoms.append_scopes.Given as goal

abbrev pub invariant-loop-scope : goal.invariant-loop-scope
invariant-loop-scope l = l.out.items ≡ l.initial.out.items ++ flat_map scope_atoms (take l.scope-index l.scopes)
