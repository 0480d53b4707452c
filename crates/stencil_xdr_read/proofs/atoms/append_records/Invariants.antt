use Rattle.std.proofs.Common.{◌≡◌, ◌++◌, take, flat_map}
use Rattle.stencil_xdr_read.specs.Atoms.{record_atoms}
use Rattle.stencil_xdr_read.proofs.atoms.append_records.Given as goal

abbrev pub invariant-loop-lazy : goal.invariant-loop-lazy
invariant-loop-lazy l = l.out.items ≡ l.initial.out.items ++ flat_map record_atoms (take l.lazy-index l.records)
