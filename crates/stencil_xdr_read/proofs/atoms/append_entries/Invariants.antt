use Rattle.std.proofs.Common.{◌≡◌, ◌++◌, take, flat_map}
use Rattle.stencil_xdr_read.specs.Atoms.{entry_atoms}
use Rattle.stencil_xdr_read.proofs.atoms.append_entries.Given as goal

abbrev pub invariant-loop-entry : goal.invariant-loop-entry
invariant-loop-entry l = l.out.items ≡ l.initial.out.items ++ flat_map entry_atoms (take l.entry-index l.entries)
