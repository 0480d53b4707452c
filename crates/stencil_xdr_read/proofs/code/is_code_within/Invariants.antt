use Rattle.stencil_xdr_read.proofs.CodeLoop.{Testing}
use Rattle.stencil_xdr_read.proofs.code.is_code_within.Given as goal

abbrev pub invariant-loop : goal.invariant-loop
invariant-loop l = Testing l.functions l.code l.at l.counter
