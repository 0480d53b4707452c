use Rattle.std.proofs.Common.{◌≡◌, drop}
use Rattle.stencil_data.proofs.chains.Chain.link.Given as goal

abbrev pub invariant-loop : goal.invariant-loop
invariant-loop l = l.chain ≡ drop l.counter l.fn.self
