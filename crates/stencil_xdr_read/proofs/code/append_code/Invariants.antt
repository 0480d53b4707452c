use Rattle.std.proofs.Common.{◌≡◌, ◌++◌, flat_map}
use Rattle.stencil_xdr_read.specs.Atoms.{instruction_atoms, code_atoms}
use Rattle.stencil_xdr_read.proofs.CodeLoop.{left_from}
use Rattle.stencil_xdr_read.proofs.code.append_code.Given as goal

abbrev pub invariant-loop : goal.invariant-loop
invariant-loop l = l.out.items ++ flat_map instruction_atoms (left_from l.code l.at l.counter) ≡ l.initial.out.items ++ code_atoms l.code
